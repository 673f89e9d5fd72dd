-- The run of a name that is ASCII, counted in bytes.
use Rattle.std.proofs.Common.{◌≡◌, ℕ, suc, ◌<◌, ◌≤◌, Bool, true, false, not, List, [], ◌∷◌, ◌++◌, length, get_or, take, drop, IsUtf8, sym, ap, ◌∙◌, subst, arith, drop-cons}
use Rattle.std.specs.Prelude.{take_while}
use Rattle.std.specs.Char.{is_ascii}
use Rattle.std.specs.List.{list_all, prefix_len}
use Rattle.std.specs.Str.{chars, IsAscii, IsCharBoundary, NonePass}
use Rattle.std.proofs.Math.Seq.{take-length}
use Rattle.std.proofs.lemmas.Bool.{and_parts}
use Rattle.std.proofs.lemmas.Bool.Decides.{nat_tests}
use Rattle.std.proofs.lemmas.List.Folds.{length-prefix_len}
use Rattle.std.proofs.lemmas.List.Sums.{prefix_len-le-length, prefix_len_stops}
use Rattle.std.proofs.lemmas.Str.{IsCharBoundary-end, IsCharBoundary-before_ascii, IsUtf8-from_ascii, chars-IsAscii, chars-append}
use Rattle.std.proofs.lemmas.Str.Ascii.{IsAscii-cons, IsAscii-nil}
use Rattle.unicode_ident.proofs.IdentLemmas.{is_xid_continue-ascii}
use Rattle.rel_lang.specs.Tokens.{continues_name, run_len}
use Rattle.rel_lexer.specs.Pieces.{IsRun, is_ascii_name}
use Rattle.rel_lexer.proofs.Cuts.{chars-cut, not-not, run-all, run-until, take_while-all}

name_below : (c : ℕ) → is_ascii_name c ≡ true → c < 128
name_below c passes = grind (arith, nat_tests)

all-ascii : (cs : List ℕ) → list_all is_ascii_name cs ≡ true → IsAscii cs
all-ascii [] passes = IsAscii-nil
all-ascii (c ∷ cs) passes = let parts = and_parts (is_ascii_name c) (list_all is_ascii_name cs) passes in IsAscii-cons c cs (name_below c parts.0) (all-ascii cs parts.1)

abbrev ends : ℕ → Bool
ends c = not (continues_name c)

none-end : (cs : List ℕ) → list_all is_ascii_name cs ≡ true → NonePass ends cs
none-end [] passes = tt
none-end (c ∷ cs) passes =
    let parts = and_parts (is_ascii_name c) (list_all is_ascii_name cs) passes in
    (ap not (is_xid_continue-ascii c (name_below c parts.0) ∙ parts.0), none-end cs parts.1)

module _ (text : List ℕ) (utf8 : IsUtf8 text) where
  abbrev n : ℕ
  n = run_len is_ascii_name text

  abbrev front : List ℕ
  front = take_while is_ascii_name text

  counted : n ≡ prefix_len is_ascii_name text
  counted = length-prefix_len is_ascii_name text

  front-is : take n text ≡ front
  front-is = ap (λ k. take k text) counted

  spelled : chars front ≡ front
  spelled = chars-IsAscii front (all-ascii front (take_while-all is_ascii_name text))

  none : NonePass ends front
  none = none-end front (take_while-all is_ascii_name text)

  pub run-whole : length text ≤ n → IsRun continues_name text n
  run-whole long =
      let all : n ≡ length text = omega (arith, counted, prefix_len-le-length is_ascii_name text) in
      let is : text ≡ front = sym (take-length text) ∙ ap (λ k. take k text) (sym all) ∙ front-is in
      record {
        boundary = subst (IsCharBoundary text) (sym all) (IsCharBoundary-end text);
        spells = ap chars front-is ∙ spelled ∙ sym (ap (λ l. take_while continues_name (chars l)) is ∙ ap (take_while continues_name) spelled ∙ run-all continues_name ends (λ c. not-not (continues_name c)) front none);
      }

  pub run-ascii : n < length text → get_or text n 0 < 128 → IsRun continues_name text n
  run-ascii before ascii =
      let boundary = IsCharBoundary-before_ascii text n before ascii in
      let b = get_or text n 0 in
      let rest = drop (suc n) text in
      let other : is_ascii_name b ≡ false = ap (λ k. is_ascii_name (get_or text k 0)) counted ∙ prefix_len_stops is_ascii_name text 0 (subst (λ k. k < length text) counted before) in
      let after : drop n text ≡ b ∷ rest = drop-cons text n 0 before in
      let one = IsAscii-cons b [] ascii IsAscii-nil in
      let next : chars (b ∷ rest) ≡ b ∷ chars rest = chars-append (b ∷ []) rest (IsUtf8-from_ascii (b ∷ []) one) ∙ ap (λ l. l ++ chars rest) (chars-IsAscii (b ∷ []) one) in
      let whole : chars text ≡ front ++ (b ∷ chars rest) = chars-cut text n utf8 boundary ∙ (λ i. chars (front-is i) ++ chars (after i)) ∙ (λ i. spelled i ++ next i) in
      record {
        boundary = boundary;
        spells = ap chars front-is ∙ spelled ∙ sym (ap (take_while continues_name) whole ∙ run-until continues_name ends (λ c. not-not (continues_name c)) front b (chars rest) none (ap not (is_xid_continue-ascii b ascii ∙ other)));
      }

pub ascii_below : (c : ℕ) → is_ascii c ≡ true → c < 128
ascii_below c ascii = grind (arith, nat_tests)

-- the run, counted in the same bytes elsewhere
module _ (text bytes : List ℕ) (k : ℕ) (utf8 : IsUtf8 text) (same : bytes ≡ text) (is : k ≡ run_len is_ascii_name bytes) where
  counts : k ≡ run_len is_ascii_name text
  counts = is ∙ ap (run_len is_ascii_name) same

  pub found-whole : length bytes ≤ k → IsRun continues_name text k
  found-whole long = subst (IsRun continues_name text) (sym counts) (run-whole text utf8 (omega (arith, counts, ap length same)))

  pub found-ascii : k < length bytes → is_ascii (get_or bytes k 0) ≡ true → IsRun continues_name text k
  found-ascii before ascii =
      let at : get_or bytes k 0 ≡ get_or text (run_len is_ascii_name text) 0 = (λ i. get_or (same i) (counts i) 0) in
      let below : get_or text (run_len is_ascii_name text) 0 < 128 = subst (λ b. b < 128) at (ascii_below (get_or bytes k 0) ascii) in
      subst (IsRun continues_name text) (sym counts) (run-ascii text utf8 (omega (arith, counts, ap length same)) below)
