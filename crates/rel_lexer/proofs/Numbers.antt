-- What the digits of a literal say, and that a number without a leading zero is written so.
use Rattle.std.proofs.Common.{◌≡◌, ℕ, ◌+◌, ◌*◌, ◌/◌, ◌%◌, ◌^◌, ◌<◌, ◌≤◌, Bool, true, false, not, cond, leb, ◌&&◌, ◌⊎◌, ⊎_elim, inl, inr, subst, IsUtf8, List, [], ◌∷◌, ◌++◌, length, length-take-le, get_or, take, drop, refl, sym, ap, ◌∙◌, append_assoc, append-nil, arith}
use Rattle.std.specs.Fmt.{decimal}
use Rattle.std.specs.Char.{digit_value}
use Rattle.std.specs.List.{list_all}
use Rattle.std.specs.Str.{IsAscii}
use Rattle.std.specs.Str.Parse.{AllDigits, digits_value_after, digits_value}
use Rattle.std.proofs.lemmas.Fmt.{decimal_step_wide, decimal_digit, IsAscii-from_digits}
use Rattle.std.proofs.lemmas.Str.{digit_value_digit}
use Rattle.std.proofs.lemmas.Str.Parse.{digit_from_value, IsNumeralModel, numerals_by_value, tells_digits}
use Rattle.std.proofs.lemmas.Bool.{and_parts, leb-true}
use mir.Syntax.{w128}
use Rattle.std.specs.Prelude.{codes, nat_eq, take_while, ◌==◌, Result, Ok, Err, ℤ}
use Rattle.std.specs.List.{starts_with}
use Rattle.std.specs.Str.{chars, encode_utf8_all}
use Rattle.std.specs.Str.Parse.{ParsesSigned}
use Rattle.std.proofs.lemmas.Str.{IsUtf8-take, encodes-chars, encodes-IsAscii}
use Rattle.std.proofs.lemmas.Str.Parse.{parse_signed_digits}
use Rattle.std.proofs.lemmas.List.Sums.{take_while-cons}
use Rattle.std.proofs.lemmas.Bool.{eq-eqb, ne_eqb, le-leb, lt-leb, and_from, and_left, and_right, cond-true, cond-false, cases_lt, cases_eq}
use Rattle.rel_lang.specs.Tokens.{Piece, number_piece, run_len, literal_limit, is_digit, is_number}
use Rattle.rel_lang.specs.Tokens.Piece.{token, bad, wide}
use Rattle.rel_lexer.specs.declared.Kind.TheVariants.{Number}
use Rattle.rel_lexer.specs.Tokens.{IsOfKind}
use Rattle.rel_lexer.specs.Pieces.{BeginsWith, IsRun, IsToken}
use Rattle.rel_lexer.proofs.Cuts.{and-true, take_while-all, take-run_len}

pub own : IsNumeralModel (AllDigits 10) (digits_value 10)
own = numerals_by_value (AllDigits 10) tells_digits

le_value_after : (n : ℕ) (ds : List ℕ) → n ≤ digits_value_after 10 n ds
le_value_after n [] = omega arith
le_value_after n (c ∷ cs) = omega (arith, le_value_after (n * 10 + digit_value c) cs)

decimal_value_after : (n : ℕ) (ds : List ℕ) → 0 < n → AllDigits 10 ds → digits_value_after 10 n ds < 10 ^ 64 → decimal (digits_value_after 10 n ds) ≡ decimal n ++ ds
decimal_value_after n [] some d small = sym (append-nil (decimal n))
decimal_value_after n (c ∷ cs) some d small =
    let m : ℕ = n * 10 + digit_value c in
    let k = digit_value_digit c (digit_from_value c d.0) in
    let front : m / 10 ≡ n = omega (arith, d.0) in
    let end : 48 + m % 10 ≡ c = omega (arith, d.0) in
    decimal_value_after m cs (omega arith) d.1 small
    ∙ ap (λ x. x ++ cs) (decimal_step_wide m (omega arith) (omega (arith, le_value_after m cs)) ∙ (λ i. decimal (front i) ++ (end i ∷ [])))
    ∙ append_assoc (decimal n) (c ∷ []) cs

-- digits with no leading zero, or just `0`, are what is written of their value
pub decimal-value : (ds : List ℕ) → AllDigits 10 ds → 0 < length ds → (get_or ds 0 0 ≡ 48 → length ds ≡ 1) → digits_value 10 ds < 10 ^ 64 → decimal (digits_value 10 ds) ≡ ds
decimal-value [] d some lead small = absurd (omega arith)
decimal-value (c ∷ []) d some lead small =
    let k = digit_value_digit c (digit_from_value c d.0) in
    decimal_digit (0 * 10 + digit_value c) (omega (arith, d.0)) ∙ ap (λ x. x ∷ []) (omega arith)
decimal-value (c ∷ e ∷ cs) d some lead small =
    let k = digit_value_digit c (digit_from_value c d.0) in
    let no : c ≡ 48 → ⊥ = λ z. omega (arith, lead z) in
    let is : 48 + (0 * 10 + digit_value c) ≡ c = omega arith in
    decimal_value_after (0 * 10 + digit_value c) (e ∷ cs) (omega arith) d.1 small
    ∙ ap (λ x. x ++ (e ∷ cs)) (decimal_digit (0 * 10 + digit_value c) (omega (arith, d.0)) ∙ ap (λ x. x ∷ []) is)

pub digit-bounds : (c : ℕ) → is_digit c ≡ true → (48 ≤ c) × (c ≤ 57)
digit-bounds c passes = let parts = and_parts _ _ passes in (leb-true 48 c parts.0, leb-true c 57 parts.1)

pub digits-all : (ds : List ℕ) → list_all is_digit ds ≡ true → AllDigits 10 ds
digits-all [] passes = tt
digits-all (c ∷ cs) passes =
    let parts = and_parts (is_digit c) (list_all is_digit cs) passes in
    let k = digit_value_digit c (digit-bounds c parts.0) in
    (omega (arith, digit-bounds c parts.0), digits-all cs parts.1)

pub digits-ascii : (ds : List ℕ) → list_all is_digit ds ≡ true → IsAscii ds
digits-ascii ds passes = IsAscii-from_digits ds (digits-all ds passes)

-- ---- the piece

-- what a run of k digits of this value is, by whether it begins with a zero
abbrev number_of : Bool → ℕ → ℕ → Piece
number_of zero_first k value = cond (zero_first && not (k == 1)) (bad 1) (cond (leb literal_limit value) wide (token k))

by_parts : (cs : List ℕ) → number_piece cs ≡ number_of (starts_with nat_eq cs (codes "0")) (run_len is_digit cs) (digits_value 10 (take (run_len is_digit cs) cs))
by_parts cs = refl

module _ (text : List ℕ) (c n : ℕ) (utf8 : IsUtf8 text) (begins : BeginsWith text c) (digit : is_digit c ≡ true) (run : IsRun is_digit text n) where
  abbrev front : List ℕ
  front = take n text

  abbrev digits : List ℕ
  digits = take_while is_digit (chars text)

  all : list_all is_digit digits ≡ true
  all = take_while-all is_digit (chars text)

  front-is : front ≡ digits
  front-is =
      sym (encodes-chars front (IsUtf8-take text n utf8 run.boundary)) ∙ ap encode_utf8_all run.spells ∙ encodes-IsAscii digits (digits-ascii digits all)

  size : run_len is_digit (chars text) ≡ n
  size = ap length (sym front-is) ∙ length-take-le n text run.boundary.0

  first : digits ≡ c ∷ take_while is_digit (drop 1 (chars text))
  first = ap (take_while is_digit) begins ∙ take_while-cons is_digit c (drop 1 (chars text)) ∙ ap (λ b. cond b (c ∷ take_while is_digit (drop 1 (chars text))) []) digit

  pub some : 0 < n
  some = omega (arith, size, ap length first)

  starts : starts_with nat_eq (chars text) (codes "0") ≡ (48 == c)
  starts = ap (λ l. starts_with nat_eq l (codes "0")) begins ∙ and-true (48 == c)

  value-is : digits_value 10 (take (run_len is_digit (chars text)) (chars text)) ≡ digits_value 10 front
  value-is = ap (digits_value 10) (take-run_len is_digit (chars text) ∙ sym front-is)

  piece-is : number_piece (chars text) ≡ number_of (48 == c) n (digits_value 10 front)
  piece-is = by_parts (chars text) ∙ (λ i. number_of (starts i) (size i) (value-is i))

  front-digits : AllDigits 10 front
  front-digits = subst (AllDigits 10) (sym front-is) (digits-all digits all)

  front-size : length front ≡ n
  front-size = length-take-le n text run.boundary.0

  -- a digit behind the number 0
  pub number-zero : c ≡ 48 → (n ≡ 1 → ⊥) → number_piece (chars text) ≡ bad 1
  number-zero zero_first longer =
      piece-is ∙ cond-true _ (bad 1) _ (and_from (48 == c) (not (n == 1)) (eq-eqb 48 c (sym zero_first)) (ap not (ne_eqb n 1 longer)))

  no_zero : (c ≡ 48 → n ≡ 1) → number_piece (chars text) ≡ cond (leb literal_limit (digits_value 10 front)) wide (token n)
  no_zero alone = piece-is ∙ cond-false _ (bad 1) _ (tested (cases_eq c 48))
    where
      tested : (c ≡ 48) ⊎ (c ≡ 48 → ⊥) → ((48 == c) && not (n == 1)) ≡ false
      tested (inl is) = and_right (48 == c) (not (n == 1)) (ap not (eq-eqb n 1 (alone is)))
      tested (inr not_is) = and_left (48 == c) (not (n == 1)) (ne_eqb 48 c (λ e. not_is (sym e)))

  pub number-wide : {E : Type 0} (e : E) → ParsesSigned {E = E} w128 10 front (Err e) → (c ≡ 48 → n ≡ 1) → number_piece (chars text) ≡ wide
  number-wide {E} e parsed alone =
      let answer : Result ℤ E = Err e in
      let not_small = parse_signed_digits own w128 front answer parsed front-digits in
      let above : literal_limit ≤ digits_value 10 front = ⊎_elim (λ below. absurd (not_small (omega (arith, front-size, some), below))) (λ above. above) (cases_lt (digits_value 10 front) literal_limit) in
      no_zero alone ∙ cond-true _ wide _ (le-leb literal_limit (digits_value 10 front) above)

  pub number-token : (E : Type 0) (v : ℤ) → ParsesSigned {E = E} w128 10 front (Ok v) → (c ≡ 48 → n ≡ 1) → IsToken (number_piece (chars text)) text (Number v) n
  number-token E v parsed alone =
      let answer : Result ℤ E = Ok v in
      let (in_range, is) = parse_signed_digits own w128 front answer parsed front-digits in
      let value = digits_value 10 front in
      let small : value < literal_limit = in_range.1 in
      let head : get_or front 0 0 ≡ c = ap (λ l. get_or l 0 0) (front-is ∙ first) in
      let written : decimal value ≡ front = decimal-value front front-digits in_range.0 (λ z. front-size ∙ alone (sym head ∙ z)) (omega (arith, small)) in
      let number : is_number front ≡ true = ap is_number (front-is ∙ first) ∙ digit in
      record {
        some = some;
        boundary = run.boundary;
        is = no_zero alone ∙ cond-false _ wide _ (lt-leb literal_limit value small) ∙ ap token (sym (ap length run.spells ∙ size));
        of_kind = subst (λ z. IsOfKind (Number z) front) (sym is) (sym written, small, number);
      }
