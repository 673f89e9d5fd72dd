-- The readers of single tokens are exact.
use Rattle.std.proofs.Common.{◌≡◌, ℕ, zero, suc, ◌+◌, ◌*◌, ◌/◌, ◌%◌, ◌^◌, ◌<◌, ◌≤◌, Bool, true, false, not, ◌&&◌, ◌||◌, if◌then◌else◌, List, [], ◌∷◌, length, None, ℤ, pos, negsuc, inl, inr, refl, sym, ap, ◌∙◌, subst, arith}
use Rattle.std.specs.Prelude.{min, ◌==◌}
use Rattle.std.specs.Fmt.{decimal, digits, digits_onto, digit_glyph}
use Rattle.std.specs.Str.Parse.{digits_value}
use Rattle.std.proofs.Math.Nat.{pow-succ', one-le-pow, min-le_right}
use Rattle.std.proofs.lemmas.Bool.{le-leb, lt-ltb, ne_eqb}
use Rattle.std.proofs.lemmas.Fmt.{decimal_is_IsNumeral_wide, length-decimal-le_wide}
use Rattle.std.proofs.lemmas.Slice.Eq.{bytes_eq-Decides}
use Rattle.rel_lang.specs.Syntax.{Word}
use Rattle.std.specs.List.{list_all}
use Rattle.std.proofs.lemmas.Str.{chars-IsAscii}
use Rattle.std.proofs.lemmas.Str.Ascii.{IsAscii-cons, IsAscii-nil}
use Rattle.rel_lang.specs.Tokens.{is_digit, is_name, is_number, has_name_form, is_reserved, continues_name}
use Rattle.rel_lang.specs.Text.{Said, Fixed, Name, Literal, Counting, Says, CanBeSaid, Mark, word, named, literally, counted, greatest_count}
use Rattle.rel_lang.specs.Refusal.{Limits, GoesOn, Reason, Unexpected}
use Rattle.rel_lexer.specs.declared.Token.{Token}
use Rattle.rel_lexer.specs.declared.Kind.{Kind}
use Rattle.rel_lexer.specs.declared.Kind.TheVariants as kind
use Rattle.rel_lexer.specs.Words.{keyword_text, symbol_text}
use Rattle.rel_lexer.specs.Tokens.{tokens_of, IsOfKind, HasKind}
use Rattle.rel_lexer.proofs.Kinding.{kind_of_keyword, kind_of_symbol, kind_of_name, kind_of_number, keyword_is_no_number, number_is_no_name, symbol_is_no_number}
use Rattle.rel_parse.specs.Reading.{Reading, Got, Refused, Reader, then_read, unexpected, same_fixed, is_name_kind, is_number_kind, number_of, counted_as, expect_at, name_at, literal_at, count_at}
use Rattle.rel_parse.proofs.Exact.{HaveKinds, Spelled, Good, AllWithin, Refuses, IsSole, Reads, Always, fixed_text, IsFixed}
use Rattle.rel_parse.proofs.Along.{goes_less}
use Rattle.rel_parse.proofs.Both.{got_is, got_not_refused, compared}

pub clash : (b : Bool) → b ≡ true → b ≡ false → ⊥
clash b t f = cc

-- ---- refusals of the first token

pub refused_is : {X : Type 0} {w why : Reason} {n left : ℕ} → ◌≡◌ {A = Reading X} (Refused w n) (Refused why left) → (w ≡ why) × (n ≡ left)
refused_is e = (cc, cc)

module _ (l : Limits) {X : Type 0} (show : X → List Mark) (Shape : X → Type 0) where
  pub refuses_along : (ts : List Token) (why : Reason) (left : ℕ) {w : Reason} {n : ℕ} → (w ≡ why) × (n ≡ left) → Refuses l show Shape w n ts → Refuses l show Shape why left ts
  refuses_along ts why left {w = w} {n = n} e h = subst (λ v. Refuses l show Shape v left ts) e.0 (subst (λ m. Refuses l show Shape w m ts) e.1 h)

  -- where no tree begins with it
  pub refuses_first : (x : X) → Good show Shape x → 0 < length (show x) → (ts : List Token) → ((y : X) → Good show Shape y → GoesOn 1 (show y) (tokens_of ts) → ⊥) → Refuses l show Shape Unexpected (length ts) ts
  refuses_first x good some ts none = record {
    passed = 0;
    behind = omega arith;
    begun = (x, good, tt, tt, some);
    stuck = λ y g goes. absurd (none y g goes);
  }

-- ---- a reader of one token, which takes what the trees' only marks say

-- the only mark, whose text alone is said
abbrev only : {X : Type 0} → (X → Said) → X → List Mark
only said x = record { said = said x; ats = []; depth = 0; element = 0; told = None } ∷ []

-- the first token is taken or refused
abbrev pub taken : {X : Type 0} → Bool → X → Token → List Token → Reading X
taken b x t ts = if b then Got x ts else unexpected (t ∷ ts)

module _ (l : Limits) {X : Type 0} (said : X → Said) (takes : Token → Bool) (tree_of : Token → X) where
  abbrev reader : Reader X
  reader [] = unexpected []
  reader (t ∷ ts) = taken (takes t) (tree_of t) t ts

  pub record IsTaken : Type 0 where
    pub some : (x : X) × CanBeSaid (said x)
    -- what is taken is said, and what is said is taken
    pub is_said : (t : Token) → HasKind t → takes t ≡ true → Says t.text.now (said (tree_of t)) × CanBeSaid (said (tree_of t))
    pub is_taken : (t : Token) (x : X) → HasKind t → CanBeSaid (said x) → Says t.text.now (said x) → (takes t ≡ true) × (x ≡ tree_of t)

  module _ (exact : IsTaken) where
    good : (x : X) → CanBeSaid (said x) → Good (only said) Always x
    good x can = (tt, (can, tt))

    single_found : (ts rest : List Token) (x : X) → HaveKinds ts → reader ts ≡ Got x rest → Spelled (only said x) ts rest × Good (only said) Always x × AllWithin l (only said) Always x
    single_found [] rest x kinds e = absurd (got_not_refused (sym e))
    single_found (t ∷ ts) rest x kinds e =
        elim (takes t) as (λ b. takes t ≡ b → taken b (tree_of t) t ts ≡ Got x rest → Spelled (only said x) (t ∷ ts) rest × Good (only said) Always x × AllWithin l (only said) Always x) [
          | true ↦ (λ is got.
              let same = got_is got in
              let h = exact.is_said t kinds.0 is in
              subst (λ y. Spelled (only said y) (t ∷ ts) rest × Good (only said) Always y × AllWithin l (only said) Always y) same.0
              ((h.0, tt, tt, same.1), good (tree_of t) h.1, ((omega arith, omega arith), tt)))
          | false ↦ (λ is got. absurd (got_not_refused (sym got)))
        ] refl e

    single_refused : (ts : List Token) (why : Reason) (left : ℕ) → HaveKinds ts → reader ts ≡ Refused why left → Refuses l (only said) Always why left ts
    single_refused [] why left kinds e =
        refuses_along l (only said) Always [] why left (refused_is e) (refuses_first l (only said) Always exact.some.0 (good exact.some.0 exact.some.1) (omega arith) [] (λ y g goes. goes))
    single_refused (t ∷ ts) why left kinds e =
        elim (takes t) as (λ b. takes t ≡ b → taken b (tree_of t) t ts ≡ Refused why left → Refuses l (only said) Always why left (t ∷ ts)) [
          | true ↦ (λ is no. absurd (got_not_refused no))
          | false ↦ (λ isnt no. refuses_along l (only said) Always (t ∷ ts) why left (refused_is no)
              (refuses_first l (only said) Always exact.some.0 (good exact.some.0 exact.some.1) (omega arith) (t ∷ ts) (λ y g goes.
              clash (takes t) (exact.is_taken t y kinds.0 g.1.0 goes.0).0 isnt)))
        ] refl e

    single_sole : (x : X) → Good (only said) Always x → IsSole l (only said) Always x
    single_sole x gx y [] zero kinds gy end within goes along = absurd (elim end [ inl h ↦ omega arith | inr h ↦ omega arith ])
    single_sole x gx y [] (suc n) kinds gy end within goes along = absurd goes
    single_sole x gx y (t ∷ ts) n kinds gy end within goes along =
        let some : 1 ≤ n = elim end [ inl h ↦ omega arith | inr h ↦ omega arith ] in
        let g = goes_less (only said x) (tokens_of (t ∷ ts)) 1 n some goes in
        let h = goes_less (only said y) (tokens_of (t ∷ ts)) 1 n some along in
        (exact.is_taken t y kinds.0 gy.1.0 h.0).1 ∙ sym (exact.is_taken t x kinds.0 gx.1.0 g.0).1

    pub single_reads : Reads l (only said) Always reader
    single_reads = record {
      one = (exact.some.0, good exact.some.0 exact.some.1);
      some_mark = λ x. omega arith;
      told = λ x. (tt, tt);
      sole = single_sole;
      found = single_found;
      refused = single_refused;
    }

-- ---- names

name_kind : (k : Kind) → is_name_kind k ≡ true → k ≡ kind.Name
name_kind (kind.Word j) e = absurd cc
name_kind kind.Name e = refl
name_kind (kind.Number n) e = absurd cc
name_kind (kind.Symbol s) e = absurd cc

or_true : (b : Bool) → (b || true) ≡ true
or_true true = refl
or_true false = refl

-- `_` is a name
some_name : is_name (95 ∷ []) ≡ true
some_name =
    ap (λ cs. has_name_form cs && not (is_reserved (95 ∷ []))) (chars-IsAscii (95 ∷ []) (IsAscii-cons 95 [] (omega arith) IsAscii-nil))
    ∙ ap (λ b. (b && list_all continues_name []) && not (is_reserved (95 ∷ []))) (or_true _)

name_taken : (l : Limits) → IsTaken l Name (λ t. is_name_kind t.kind) (λ t. t.text.now)
name_taken l = record {
  some = (95 ∷ [], some_name);
  is_said = λ t h e. (refl, subst (λ k. IsOfKind k t.text.now) (name_kind t.kind e) h);
  is_taken = λ t x h can says. (ap is_name_kind (kind_of_name t.text.now t.kind h (ap is_name (sym says) ∙ can)), says);
}

name_same : (l : Limits) (ts : List Token) → reader l Name (λ t. is_name_kind t.kind) (λ t. t.text.now) ts ≡ name_at ts
name_same l [] = refl
name_same l (t ∷ ts) = refl

pub name_reads : (l : Limits) → Reads l (λ x. named x ∷ []) Always name_at
name_reads l = subst (Reads l (λ x. named x ∷ []) Always) (λ i ts. name_same l ts i) (single_reads l Name (λ t. is_name_kind t.kind) (λ t. t.text.now) (name_taken l))

-- ---- numbers

literal_said : (w : Word) (k : Kind) → IsOfKind k w → is_number_kind k ≡ true → Says w (Literal (number_of k)) × CanBeSaid (Literal (number_of k))
literal_said w (kind.Word j) h e = absurd cc
literal_said w kind.Name h e = absurd cc
literal_said w (kind.Number (pos n)) h e = (sym h.0, h.1)
literal_said w (kind.Number (negsuc n)) h e = absurd h
literal_said w (kind.Symbol s) h e = absurd cc

literal_is_taken : (w : Word) (k : Kind) (x : ℤ) → IsOfKind k w → CanBeSaid (Literal x) → Says w (Literal x) → (is_number_kind k ≡ true) × (x ≡ number_of k)
literal_is_taken w k (pos n) h can says = let is = kind_of_number w k n h (sym says) can in (ap is_number_kind is, sym (ap number_of is))
literal_is_taken w k (negsuc n) h can says = absurd can

literal_taken : (l : Limits) → IsTaken l Literal (λ t. is_number_kind t.kind) (λ t. number_of t.kind)
literal_taken l = record {
  some = (pos 0, omega arith);
  is_said = λ t h e. literal_said t.text.now t.kind h e;
  is_taken = λ t x h can says. literal_is_taken t.text.now t.kind x h can says;
}

literal_same : (l : Limits) (ts : List Token) → reader l Literal (λ t. is_number_kind t.kind) (λ t. number_of t.kind) ts ≡ literal_at ts
literal_same l [] = refl
literal_same l (t ∷ ts) = refl

pub literal_reads : (l : Limits) → Reads l (λ n. literally n ∷ []) Always literal_at
literal_reads l = subst (Reads l (λ n. literally n ∷ []) Always) (λ i ts. literal_same l ts i) (single_reads l Literal (λ t. is_number_kind t.kind) (λ t. number_of t.kind) (literal_taken l))

-- ---- numbers that count

digit_is : (n : ℕ) → n < 10 → is_digit (digit_glyph false n) ≡ true
digit_is n lt = rw (lt-ltb n 10 lt, le-leb 48 (48 + n) (omega arith), le-leb (48 + n) 57 (omega arith)) refl

-- each digit string is a number's, also that of a number with more than 64 digits, of which only the last are printed
onto_is_number : (k n : ℕ) (acc : List ℕ) → is_number (digits_onto (suc k) 10 false n acc) ≡ true
onto_is_number zero n acc =
    elim (n / 10 == 0) as (λ b. is_number (if b then digit_glyph false (n % 10) ∷ acc else digit_glyph false (n % 10) ∷ acc) ≡ true) [
      | true ↦ digit_is (n % 10) (omega arith)
      | false ↦ digit_is (n % 10) (omega arith)
    ]
onto_is_number (suc k) n acc =
    elim (n / 10 == 0) as (λ b. is_number (if b then digit_glyph false (n % 10) ∷ acc else digits_onto (suc k) 10 false (n / 10) (digit_glyph false (n % 10) ∷ acc)) ≡ true) [
      | true ↦ digit_is (n % 10) (omega arith)
      | false ↦ onto_is_number k (n / 10) (digit_glyph false (n % 10) ∷ acc)
    ]

decimal_is : (n : ℕ) → decimal n ≡ digits_onto 64 10 false n []
unfolding digits
decimal_is n = refl

any_decimal_is_number : (n : ℕ) → is_number (decimal n) ≡ true
any_decimal_is_number n = ap is_number (decimal_is n) ∙ onto_is_number 63 n []

onto_length : (k n : ℕ) (acc : List ℕ) → 10 ^ k ≤ n → length (digits_onto k 10 false n acc) ≡ k + length acc
onto_length zero n acc le = omega arith
onto_length (suc k) n acc le =
    let step : 10 ^ suc k ≡ 10 * 10 ^ k = pow-succ' 10 k in
    let some : 1 ≤ 10 ^ k = one-le-pow k 10 (omega arith) in
    let next : 10 ^ k ≤ n / 10 = omega arith in
    rw (ne_eqb (n / 10) 0 (λ z. omega arith)) (let ih = onto_length k (n / 10) (digit_glyph false (n % 10) ∷ acc) next in omega arith)

decimal_one : (k m : ℕ) → m < 2 ^ 127 → decimal k ≡ decimal m → k ≡ m
decimal_one k m lt e =
    elim (compared (10 ^ 64) k) [
      | inl h ↦
          let long : length (decimal k) ≡ 64 = ap length (decimal_is k) ∙ onto_length 64 k [] h in
          let short : length (decimal m) ≤ 39 = length-decimal-le_wide 39 m (omega arith) (omega arith) (omega arith) in
          let same : length (decimal k) ≡ length (decimal m) = ap length e in
          absurd (omega arith)
      | inr h ↦ sym (decimal_is_IsNumeral_wide k h).1 ∙ ap (digits_value 10) e ∙ (decimal_is_IsNumeral_wide m (omega arith)).1
    ]

number_kind : (w : Word) (k : Kind) → IsOfKind k w → is_number w ≡ true → (m : ℕ) × (k ≡ kind.Number (pos m)) × (w ≡ decimal m) × (m < 2 ^ 127)
number_kind w (kind.Word j) h number = absurd (clash (is_number w) number (ap is_number h ∙ keyword_is_no_number j))
number_kind w kind.Name h number = absurd (clash (is_name w) h (number_is_no_name w number))
number_kind w (kind.Number (pos m)) h number = (m, refl, h.0, h.1)
number_kind w (kind.Number (negsuc m)) h number = absurd h
number_kind w (kind.Symbol s) h number = absurd (clash (is_number w) number (ap is_number h ∙ symbol_is_no_number s))

count_said : (w : Word) (k : Kind) → IsOfKind k w → is_number_kind k ≡ true → Says w (Counting (counted_as (number_of k))) × CanBeSaid (Counting (counted_as (number_of k)))
count_said w (kind.Word j) h e = absurd cc
count_said w kind.Name h e = absurd cc
count_said w (kind.Number (pos n)) h e = ((n, sym h.0, refl), min-le_right n greatest_count)
count_said w (kind.Number (negsuc n)) h e = absurd h
count_said w (kind.Symbol s) h e = absurd cc

count_is_taken : (w : Word) (k : Kind) (x : ℕ) → IsOfKind k w → Says w (Counting x) → (is_number_kind k ≡ true) × (x ≡ counted_as (number_of k))
count_is_taken w k x h says =
    let n = number_kind w k h (ap is_number (sym says.1) ∙ any_decimal_is_number says.0) in
    let same : says.0 ≡ n.0 = decimal_one says.0 n.0 n.3 (says.1 ∙ n.2) in
    (ap is_number_kind n.1, sym says.2 ∙ ap (λ m. min m greatest_count) same ∙ sym (ap (λ j. counted_as (number_of j)) n.1))

count_taken : (l : Limits) → IsTaken l Counting (λ t. is_number_kind t.kind) (λ t. counted_as (number_of t.kind))
count_taken l = record {
  some = (0, omega arith);
  is_said = λ t h e. count_said t.text.now t.kind h e;
  is_taken = λ t x h can says. count_is_taken t.text.now t.kind x h says;
}

count_same : (l : Limits) (ts : List Token) → reader l Counting (λ t. is_number_kind t.kind) (λ t. counted_as (number_of t.kind)) ts ≡ count_at ts
count_same l [] = refl
count_same l (t ∷ ts) = elim (is_number_kind t.kind) as (λ b. taken b (counted_as (number_of t.kind)) t ts ≡ then_read (taken b (number_of t.kind) t ts) (λ n rest. Got (counted_as n) rest)) [ true ↦ refl | false ↦ refl ]

pub count_reads : (l : Limits) → Reads l (λ n. counted n ∷ []) Always count_at
count_reads l = subst (Reads l (λ n. counted n ∷ []) Always) (λ i ts. count_same l ts i) (single_reads l Counting (λ t. is_number_kind t.kind) (λ t. counted_as (number_of t.kind)) (count_taken l))

-- ---- reserved words and symbols

fixed_said : (w : Word) (k j : Kind) → IsFixed k → IsOfKind j w → same_fixed j k ≡ true → fixed_text k ≡ w
fixed_said w (kind.Word k) (kind.Word j) fixed h e = sym (h ∙ (bytes_eq-Decides (keyword_text j) (keyword_text k)).0 e)
fixed_said w (kind.Word k) kind.Name fixed h e = absurd cc
fixed_said w (kind.Word k) (kind.Number n) fixed h e = absurd cc
fixed_said w (kind.Word k) (kind.Symbol s) fixed h e = absurd cc
fixed_said w (kind.Symbol k) (kind.Word j) fixed h e = absurd cc
fixed_said w (kind.Symbol k) kind.Name fixed h e = absurd cc
fixed_said w (kind.Symbol k) (kind.Number n) fixed h e = absurd cc
fixed_said w (kind.Symbol k) (kind.Symbol j) fixed h e = sym (h ∙ (bytes_eq-Decides (symbol_text j) (symbol_text k)).0 e)
fixed_said w kind.Name j fixed h e = absurd fixed
fixed_said w (kind.Number n) j fixed h e = absurd fixed

same_fixed_as : (k : Kind) → IsFixed k → same_fixed k k ≡ true
same_fixed_as (kind.Word k) fixed = (bytes_eq-Decides (keyword_text k) (keyword_text k)).1 refl
same_fixed_as (kind.Symbol k) fixed = (bytes_eq-Decides (symbol_text k) (symbol_text k)).1 refl
same_fixed_as kind.Name fixed = absurd fixed
same_fixed_as (kind.Number n) fixed = absurd fixed

fixed_kind : (w : Word) (k j : Kind) → IsFixed k → IsOfKind j w → fixed_text k ≡ w → j ≡ k
fixed_kind w (kind.Word k) j fixed h says = kind_of_keyword w j k h (sym says)
fixed_kind w (kind.Symbol k) j fixed h says = kind_of_symbol w j k h (sym says)
fixed_kind w kind.Name j fixed h says = absurd fixed
fixed_kind w (kind.Number n) j fixed h says = absurd fixed

-- the reserved word or symbol is next exactly where the first token has its text
pub is_fixed : (t : Token) (k : Kind) → IsFixed k → HasKind t → same_fixed t.kind k ≡ true → fixed_text k ≡ t.text.now
is_fixed t k fixed h e = fixed_said t.text.now k t.kind fixed h e

pub fixed_is : (t : Token) (k : Kind) → IsFixed k → HasKind t → fixed_text k ≡ t.text.now → same_fixed t.kind k ≡ true
fixed_is t k fixed h says = ap (λ j. same_fixed j k) (fixed_kind t.text.now k t.kind fixed h says) ∙ same_fixed_as k fixed

word_taken : (l : Limits) (k : Kind) → IsFixed k → IsTaken l (λ (u : Unit {0}). Fixed (fixed_text k)) (λ t. same_fixed t.kind k) (λ t. tt)
word_taken l k fixed = record {
  some = (tt, tt);
  is_said = λ t h e. (is_fixed t k fixed h e, tt);
  is_taken = λ t x h can says. (fixed_is t k fixed h says, refl);
}

word_same : (l : Limits) (k : Kind) (ts : List Token) → reader l (λ (u : Unit {0}). Fixed (fixed_text k)) (λ t. same_fixed t.kind k) (λ t. tt) ts ≡ expect_at k ts
word_same l k [] = refl
word_same l k (t ∷ ts) = refl

pub word_reads : (l : Limits) (k : Kind) → IsFixed k → Reads l (λ (u : Unit {0}). word (fixed_text k) ∷ []) Always (expect_at k)
word_reads l k fixed =
    subst (Reads l (λ (u : Unit {0}). word (fixed_text k) ∷ []) Always) (λ i ts. word_same l k ts i) (single_reads l (λ (u : Unit {0}). Fixed (fixed_text k)) (λ t. same_fixed t.kind k) (λ t. tt) (word_taken l k fixed))
