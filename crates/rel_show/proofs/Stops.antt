-- Which characters are a token where a space or a line feed stands behind them.
use Rattle.std.proofs.Common.{◌≡◌, ℕ, ◌+◌, ◌<◌, ◌≤◌, ◌^◌, ◌/◌, ◌%◌, Bool, true, false, not, cond, ◌&&◌, ◌||◌, List, [], ◌∷◌, ◌++◌, length, take, ◌⊎◌, ⊎_elim, inl, inr, refl, sym, ap, ◌∙◌, subst, arith}
use Rattle.std.specs.Prelude.{take_while, nat_eq, nat_le, nat_lt, ◌==◌, codes}
use Rattle.std.specs.Char.{is_ascii_alphabetic, is_ascii_alphanumeric}
use Rattle.std.specs.Fmt.{decimal}
use Rattle.std.specs.List.{list_all, starts_with, AllByRecursion}
use Rattle.std.specs.Str.{IsAscii, chars}
use Rattle.std.proofs.lemmas.Str.Ascii.{IsAscii-cons, IsAscii-nil}
use Rattle.std.specs.Str.Parse.{digits_value}
use Rattle.std.proofs.Math.Seq.{take-append_seam}
use Rattle.std.proofs.lemmas.Bool.{and_parts, and_from, and_left, and_right, or_from, le-leb, lt-leb, ltb-true, ne_eqb, both_ways, agree_below, agree_below_at, leb-true, cases_lt}
use Rattle.std.proofs.lemmas.Fmt.{decimal_by_steps_wide, decimal_is_IsNumeral_wide, decimal_digit}
use Rattle.std.proofs.lemmas.List.Sums.{take_while-cons}
use Rattle.unicode_ident.proofs.IdentLemmas.{is_xid_start-ascii, is_xid_continue-ascii}
use Rattle.rel_lang.specs.Tokens.{Piece, piece_at, is_blank, slash, comment_piece, number_piece, symbol_piece, symbols, begins_name, continues_name, is_digit, has_name_form, run_len, literal_limit}
use Rattle.rel_lang.specs.Tokens.Piece.{gap, token, bad, wide}

-- with either character behind them, the characters are a token
abbrev pub Stops : List ℕ → Type 0
Stops cs = ((rest : List ℕ) → piece_at (cs ++ 32 ∷ rest) ≡ token (length cs)) × ((rest : List ℕ) → piece_at (cs ++ 10 ∷ rest) ≡ token (length cs))

-- a run ends before the first character that doesn't pass
run_until : (p : ℕ → Bool) (cs : List ℕ) (d : ℕ) (rest : List ℕ) → list_all p cs ≡ true → p d ≡ false → take_while p (cs ++ d ∷ rest) ≡ cs
run_until p [] d rest all stops = take_while-cons p d rest ∙ ap (λ b. cond b (d ∷ take_while p rest) []) stops
run_until p (c ∷ cs) d rest all stops =
    let parts = and_parts (p c) (list_all p cs) all in
    take_while-cons p c (cs ++ d ∷ rest) ∙ ap (λ b. cond b (c ∷ take_while p (cs ++ d ∷ rest)) []) parts.0
    ∙ ap (λ l. c ∷ l) (run_until p cs d rest parts.1 stops)

run_size : (p : ℕ → Bool) (cs : List ℕ) (d : ℕ) (rest : List ℕ) → list_all p cs ≡ true → p d ≡ false → run_len p (cs ++ d ∷ rest) ≡ length cs
run_size p cs d rest all stops = ap length (run_until p cs d rest all stops)

-- ---- the tests of a piece

abbrev by_tests : Bool → Bool → Bool → Bool → ℕ → List ℕ → Piece
by_tests blank comment name digit c cs =
    cond blank (gap 1) (cond comment (comment_piece cs) (cond name (token (1 + run_len continues_name cs)) (cond digit (number_piece (c ∷ cs)) (symbol_piece symbols (c ∷ cs)))))

tests : (c : ℕ) (cs : List ℕ) → piece_at (c ∷ cs) ≡ by_tests (is_blank c) (c == slash) (begins_name c) (is_digit c) c cs
tests c cs = refl

-- ---- names and reserved words

starts_ascii : (c : ℕ) → c < 128 → begins_name c ≡ (is_ascii_alphabetic c || (c == 95))
starts_ascii c ascii = ap (λ b. b || (c == 95)) (is_xid_start-ascii c ascii)

differs : (c k : ℕ) → k < 128 → (is_ascii_alphabetic k || (k == 95)) ≡ false → begins_name c ≡ true → (c == k) ≡ false
differs c k ascii fails passes = ne_eqb c k (λ same. both_ways (begins_name c) (ap begins_name same ∙ starts_ascii k ascii ∙ fails) passes)

name_piece : (c : ℕ) (cs : List ℕ) → begins_name c ≡ true → piece_at (c ∷ cs) ≡ token (1 + run_len continues_name cs)
name_piece c cs passes =
    let blank : is_blank c ≡ false =
    or_from ((c == 32) || (c == 9) || (c == 13)) (c == 10)
    (or_from ((c == 32) || (c == 9)) (c == 13)
    (or_from (c == 32) (c == 9) (differs c 32 (omega arith) refl passes) (differs c 9 (omega arith) refl passes))
    (differs c 13 (omega arith) refl passes))
    (differs c 10 (omega arith) refl passes) in
    let comment : (c == slash) ≡ false = differs c 47 (omega arith) refl passes in
    tests c cs ∙ (λ i. by_tests (blank i) (comment i) (passes i) (is_digit c) c cs)

pub name_stops : (cs : List ℕ) → has_name_form cs ≡ true → Stops cs
name_stops [] form = absurd cc
name_stops (c ∷ cs) form = (until 32 (is_xid_continue-ascii 32 (omega arith)), until 10 (is_xid_continue-ascii 10 (omega arith)))
  where
    parts : (begins_name c ≡ true) × (list_all continues_name cs ≡ true)
    parts = and_parts (begins_name c) (list_all continues_name cs) form

    until : (d : ℕ) → continues_name d ≡ false → (rest : List ℕ) → piece_at (c ∷ cs ++ d ∷ rest) ≡ token (length (c ∷ cs))
    until d stops rest = name_piece c (cs ++ d ∷ rest) parts.0 ∙ ap token (omega (arith, run_size continues_name cs d rest parts.1 stops))

-- ---- letters

abbrev is_letter : ℕ → Bool
is_letter c = nat_le 97 c && nat_lt c 123

abbrev pub are_letters : List ℕ → Bool
are_letters [] = false
are_letters (c ∷ cs) = list_all is_letter (c ∷ cs)

letter_ascii : (c : ℕ) → is_letter c ≡ true → c < 128
letter_ascii c passes = let parts = and_parts (nat_le 97 c) (nat_lt c 123) passes in omega (arith, ltb-true c 123 parts.1)

same_letters : (c : ℕ) → is_letter c ≡ true → ((not (is_letter c) || is_ascii_alphabetic c) ≡ true) × ((not (is_letter c) || is_ascii_alphanumeric c) ≡ true)
same_letters c passes = (
  agree_below_at (λ x. not (is_letter x) || is_ascii_alphabetic x) (λ x. true) 128 c refl (letter_ascii c passes),
  agree_below_at (λ x. not (is_letter x) || is_ascii_alphanumeric x) (λ x. true) 128 c refl (letter_ascii c passes),
)

letter_begins : (c : ℕ) → is_letter c ≡ true → begins_name c ≡ true
letter_begins c passes =
    let alphabetic : is_ascii_alphabetic c ≡ true = subst (λ b. (not b || is_ascii_alphabetic c) ≡ true) passes (same_letters c passes).0 in
    starts_ascii c (letter_ascii c passes) ∙ ap (λ b. b || (c == 95)) alphabetic

letter_continues : (c : ℕ) → is_letter c ≡ true → continues_name c ≡ true
letter_continues c passes =
    let alphanumeric : is_ascii_alphanumeric c ≡ true = subst (λ b. (not b || is_ascii_alphanumeric c) ≡ true) passes (same_letters c passes).1 in
    is_xid_continue-ascii c (letter_ascii c passes) ∙ ap (λ b. b || (c == 95)) alphanumeric

letters_continue : (cs : List ℕ) → list_all is_letter cs ≡ true → list_all continues_name cs ≡ true
letters_continue [] passes = refl
letters_continue (c ∷ cs) passes =
    let parts = and_parts (is_letter c) (list_all is_letter cs) passes in
    and_from (continues_name c) (list_all continues_name cs) (letter_continues c parts.0) (letters_continue cs parts.1)

pub letters_form : (cs : List ℕ) → are_letters cs ≡ true → has_name_form cs ≡ true
letters_form [] passes = absurd cc
letters_form (c ∷ cs) passes =
    let parts = and_parts (is_letter c) (list_all is_letter cs) passes in
    and_from (begins_name c) (list_all continues_name cs) (letter_begins c parts.0) (letters_continue cs parts.1)

pub letters_ascii : (cs : List ℕ) → list_all is_letter cs ≡ true → IsAscii cs
letters_ascii [] passes = IsAscii-nil
letters_ascii (c ∷ cs) passes =
    let parts = and_parts (is_letter c) (list_all is_letter cs) passes in
    IsAscii-cons c cs (letter_ascii c parts.0) (letters_ascii cs parts.1)

pub form_some : (cs : List ℕ) → has_name_form cs ≡ true → 0 < length cs
form_some [] form = absurd cc
form_some (c ∷ cs) form = omega arith

-- ---- numbers

no_digit : (f : ℕ → Bool) → agree_below (λ x. is_digit x && f x) (λ x. false) 128 ≡ true → (c : ℕ) → is_digit c ≡ true → f c ≡ false
no_digit f tested c digit =
    let parts = and_parts (nat_le 48 c) (nat_le c 57) digit in
    subst (λ b. (b && f c) ≡ false) digit (agree_below_at (λ x. is_digit x && f x) (λ x. false) 128 c tested (omega (arith, leb-true c 57 parts.1)))

digit_ascii : (c : ℕ) → is_digit c ≡ true → c < 128
digit_ascii c digit = let parts = and_parts (nat_le 48 c) (nat_le c 57) digit in omega (arith, leb-true c 57 parts.1)

digit_piece : (c : ℕ) (cs : List ℕ) → is_digit c ≡ true → piece_at (c ∷ cs) ≡ number_piece (c ∷ cs)
digit_piece c cs digit =
    let blank : is_blank c ≡ false = no_digit is_blank refl c digit in
    let comment : (c == slash) ≡ false = no_digit (λ x. x == slash) refl c digit in
    let name : begins_name c ≡ false = starts_ascii c (digit_ascii c digit) ∙ no_digit (λ x. is_ascii_alphabetic x || (x == 95)) refl c digit in
    tests c cs ∙ (λ i. by_tests (blank i) (comment i) (name i) (digit i) c cs)

-- a zero begins no other digits than itself
abbrev StandsAlone : List ℕ → Type 0
StandsAlone [] = ⊥
StandsAlone (c ∷ cs) = ((48 == c) ≡ false) ⊎ (cs ≡ [])

leads : (c : ℕ) (cs : List ℕ) (more : List ℕ) → ((48 == c) ≡ false) ⊎ (cs ≡ []) → (starts_with nat_eq (c ∷ more) (codes "0") && not (length (c ∷ cs) == 1)) ≡ false
leads c cs more (inl other) = and_left (starts_with nat_eq (c ∷ more) (codes "0")) (not (length (c ∷ cs) == 1)) (and_left (48 == c) true other)
leads c cs more (inr alone) = and_right (starts_with nat_eq (c ∷ more) (codes "0")) (not (length (c ∷ cs) == 1)) (ap (λ l. not (length (c ∷ l) == 1)) alone)

number_ends : (ds : List ℕ) (d : ℕ) (rest : List ℕ) → list_all is_digit ds ≡ true → is_digit d ≡ false
    → (starts_with nat_eq (ds ++ d ∷ rest) (codes "0") && not (length ds == 1)) ≡ false → digits_value 10 ds < literal_limit → number_piece (ds ++ d ∷ rest) ≡ token (length ds)
number_ends ds d rest all stops alone small =
    let cs = ds ++ d ∷ rest in
    let size : run_len is_digit cs ≡ length ds = run_size is_digit ds d rest all stops in
    let taken : take (run_len is_digit cs) cs ≡ ds = ap (λ k. take k cs) size ∙ take-append_seam ds (d ∷ rest) in
    let narrow : nat_le literal_limit (digits_value 10 ds) ≡ false = lt-leb literal_limit (digits_value 10 ds) small in
    (λ i. cond (starts_with nat_eq cs (codes "0") && not (size i == 1)) (bad 1) (cond (nat_le literal_limit (digits_value 10 (taken i))) wide (token (size i))))
    ∙ (λ i. cond (alone i) (bad 1) (cond (narrow i) wide (token (length ds))))

digits_stop : (ds : List ℕ) → list_all is_digit ds ≡ true → StandsAlone ds → digits_value 10 ds < literal_limit → Stops ds
digits_stop [] all alone small = absurd alone
digits_stop (c ∷ cs) all alone small = (until 32 refl, until 10 refl)
  where
    until : (d : ℕ) → is_digit d ≡ false → (rest : List ℕ) → piece_at (c ∷ cs ++ d ∷ rest) ≡ token (length (c ∷ cs))
    until d stops rest =
        digit_piece c (cs ++ d ∷ rest) (and_parts (is_digit c) (list_all is_digit cs) all).0
        ∙ number_ends (c ∷ cs) d rest all stops (leads c cs (cs ++ d ∷ rest) alone) small

-- the first digit is no zero
abbrev BeginsAbove : List ℕ → Type 0
BeginsAbove [] = ⊥
BeginsAbove (c ∷ cs) = (48 == c) ≡ false

abbrev IsWritten : ℕ → List ℕ → Type 0
IsWritten n ds = (list_all is_digit ds ≡ true) × (0 < n → BeginsAbove ds)

all_behind : (ds : List ℕ) (d : ℕ) → list_all is_digit ds ≡ true → is_digit d ≡ true → list_all is_digit (ds ++ d ∷ []) ≡ true
all_behind [] d all digit = and_from (is_digit d) true digit refl
all_behind (c ∷ cs) d all digit =
    let parts = and_parts (is_digit c) (list_all is_digit cs) all in
    and_from (is_digit c) (list_all is_digit (cs ++ d ∷ [])) parts.0 (all_behind cs d parts.1 digit)

above_behind : (ds es : List ℕ) → BeginsAbove ds → BeginsAbove (ds ++ es)
above_behind [] es above = absurd above
above_behind (c ∷ cs) es above = above

digit_is : (n : ℕ) → n < 10 → is_digit (48 + n) ≡ true
digit_is n lt = and_from (nat_le 48 (48 + n)) (nat_le (48 + n) 57) (le-leb 48 (48 + n) (omega arith)) (le-leb (48 + n) 57 (omega arith))

one_digit : (n : ℕ) → n < 10 → IsWritten n ((48 + n) ∷ [])
one_digit n lt = (and_from (is_digit (48 + n)) true (digit_is n lt) refl, λ some. ne_eqb 48 (48 + n) (λ same. omega (arith, some, same)))

more_digits : (n : ℕ) (ds : List ℕ) → 10 ≤ n → IsWritten (n / 10) ds → IsWritten n (ds ++ ((48 + n % 10) ∷ []))
more_digits n ds le is =
    (all_behind ds (48 + n % 10) is.0 (digit_is (n % 10) (omega arith)), λ some. above_behind ds ((48 + n % 10) ∷ []) (is.1 (omega (arith, le))))

above_alone : (ds : List ℕ) → BeginsAbove ds → StandsAlone ds
above_alone [] above = absurd above
above_alone (c ∷ cs) above = inl above

pub below_wide : (n : ℕ) → n < literal_limit → n < 10 ^ 64
below_wide n lt = omega (arith, lt)

pub decimal_stops : (n : ℕ) → n < literal_limit → Stops (decimal n)
decimal_stops n lt =
    let wide_enough = below_wide n lt in
    let is : IsWritten n (decimal n) = decimal_by_steps_wide IsWritten one_digit more_digits n wide_enough in
    let value = (decimal_is_IsNumeral_wide n wide_enough).1 in
    digits_stop (decimal n) is.0 (alone is.1) (subst (λ k. k < literal_limit) (sym value) lt)
  where
    zero : n ≡ 0 → StandsAlone (decimal n)
    zero is = subst StandsAlone (sym (ap decimal is ∙ decimal_digit 0 (omega arith))) (inr refl)

    alone : (0 < n → BeginsAbove (decimal n)) → StandsAlone (decimal n)
    alone above = ⊎_elim (λ some. above_alone (decimal n) (above some)) (λ none. zero (omega (arith, none))) (cases_lt 0 n)

-- ---- symbols

abbrev IsStopped : List ℕ → ℕ → Type 0
IsStopped [] d = ⊥
IsStopped (c ∷ cs) d = (rest : List ℕ) → by_tests (is_blank c) (c == slash) false (is_digit c) c (cs ++ d ∷ rest) ≡ token (length (c ∷ cs))

abbrev StartsPlain : List ℕ → Type 0
StartsPlain [] = ⊥
StartsPlain (c ∷ cs) = (c < 128) × ((is_ascii_alphabetic c || (c == 95)) ≡ false)

abbrev pub IsSymbol : List ℕ → Type 0
IsSymbol w = (chars w ≡ w) × StartsPlain w × IsStopped w 32 × IsStopped w 10

symbol_ends : (w : List ℕ) (d : ℕ) → StartsPlain w → IsStopped w d → (rest : List ℕ) → piece_at (w ++ d ∷ rest) ≡ token (length w)
symbol_ends [] d plain stopped rest = absurd stopped
symbol_ends (c ∷ cs) d plain stopped rest =
    let name : begins_name c ≡ false = starts_ascii c plain.0 ∙ plain.1 in
    tests c (cs ++ d ∷ rest) ∙ (λ i. by_tests (is_blank c) (c == slash) (name i) (is_digit c) c (cs ++ d ∷ rest)) ∙ stopped rest

pub symbol_stops : (w : List ℕ) → IsSymbol w → Stops w
symbol_stops w is = (symbol_ends w 32 is.1 is.2, symbol_ends w 10 is.1 is.3)

pub plain_some : (w : List ℕ) → IsSymbol w → 0 < length w
plain_some [] is = absurd is.2
plain_some (c ∷ cs) is = omega arith

pub all_symbols : AllByRecursion IsSymbol symbols
unfolding chars
all_symbols = search arith
