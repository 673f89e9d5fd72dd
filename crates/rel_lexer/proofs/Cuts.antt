-- A text cut between two characters, and the characters that a search passes.
use Rattle.std.proofs.Common.{◌≡◌, ℕ, zero, suc, ◌<◌, Bool, true, false, not, cond, ◌&&◌, List, [], ◌∷◌, ◌++◌, length, get_or, take, drop, Option, Some, None, MatchOption, IsUtf8, refl, sym, ap, ◌∙◌, subst, arith, take-append-drop}
use Rattle.std.specs.Prelude.{take_while}
use Rattle.std.specs.Option.{unwrap_or}
use Rattle.std.specs.Str.{chars, IsCharBoundary, NonePass}
use Rattle.std.specs.Str.Pattern.{FindsBy, MatchBeginsAt}
use Rattle.std.proofs.Math.Seq.{take-length}
use Rattle.std.proofs.lemmas.Str.{IsUtf8-take, IsUtf8-drop, IsCharBoundary-end, chars-append, chars_from_encodes, chars_past_char}
use Rattle.std.proofs.lemmas.List.Sums.{take_while-cons}
use Rattle.std.specs.Prelude.{nat_eq}
use Rattle.std.specs.List.{starts_with, list_all, prefix_len}
use Rattle.std.specs.Str.{encode_utf8_all, IsAscii}
use Rattle.std.specs.Str.Pattern.{HasPrefixMatch, FindsTextPrefix}
use Rattle.std.proofs.Math.Seq.{take-append_seam}
use Rattle.std.proofs.lemmas.Str.{IsUtf8-from_ascii, IsCharBoundary-after_ascii, chars-IsAscii, encodes-chars, encodes-IsAscii, encodes-append, encode_ascii, chars-nil}
use Rattle.std.proofs.lemmas.Str.Ascii.{IsAscii-cons, IsAscii-nil}
use Rattle.std.proofs.lemmas.Slice.Eq.{bytes_eq-Decides}
use Rattle.std.proofs.lemmas.Bool.{false_from_ne_true, cond_both, and_from}
use Rattle.rel_lang.specs.Tokens.{run_len}
use Rattle.rel_lexer.specs.Pieces.{IsRun, BeginsWith}

-- the characters before the cut, and those after it
pub chars-cut : (text : List ℕ) (n : ℕ) → IsUtf8 text → IsCharBoundary text n → chars text ≡ chars (take n text) ++ chars (drop n text)
chars-cut text n utf8 boundary =
    ap chars (sym (take-append-drop n text)) ∙ chars-append (take n text) (drop n text) (IsUtf8-take text n utf8 boundary)

module _ (p t : ℕ → Bool) (opposite : (c : ℕ) → p c ≡ not (t c)) where
  pub run-all : (cs : List ℕ) → NonePass t cs → take_while p cs ≡ cs
  run-all [] none = refl
  run-all (c ∷ cs) none =
      let passes : p c ≡ true = opposite c ∙ ap not none.0 in
      take_while-cons p c cs ∙ ap (λ b. cond b (c ∷ take_while p cs) []) passes ∙ ap (λ l. c ∷ l) (run-all cs none.1)

  pub run-until : (cs : List ℕ) (c : ℕ) (rest : List ℕ) → NonePass t cs → t c ≡ true → take_while p (cs ++ (c ∷ rest)) ≡ cs
  run-until [] c rest none stops =
      let fails : p c ≡ false = opposite c ∙ ap not stops in
      take_while-cons p c rest ∙ ap (λ b. cond b (c ∷ take_while p rest) []) fails
  run-until (d ∷ cs) c rest none stops =
      let passes : p d ≡ true = opposite d ∙ ap not none.0 in
      take_while-cons p d (cs ++ (c ∷ rest)) ∙ ap (λ b. cond b (d ∷ take_while p (cs ++ (c ∷ rest))) []) passes ∙ ap (λ l. d ∷ l) (run-until cs c rest none.1 stops)

  -- a search for the first character that doesn't pass ends the run
  module _ (F : List ℕ → Option (ℕ × ℕ) → Type 0) (text : List ℕ) (finds : (r : Option (ℕ × ℕ)) → F text r → FindsBy t text r) (utf8 : IsUtf8 text) where
    run-found : (i : ℕ) → MatchBeginsAt F text i → IsRun p text i
    run-found i (j, found, le, from, to) =
        let (none, (c, stops, at)) = finds (Some (i, j)) found in
        let after = chars_past_char (drop i text) (drop j text) c (IsUtf8-drop text i utf8 from) at.split in
        let before = chars_from_encodes none.0 (take i text) (IsUtf8-take text i utf8 from) none.1 in
        record {
          boundary = from;
          spells = sym (ap (take_while p) (chars-cut text i utf8 from ∙ ap (λ l. chars (take i text) ++ l) after) ∙ run-until (chars (take i text)) c (chars (drop j text)) (subst (NonePass t) before none.2) stops);
        }

    run-not_found : F text None → IsRun p text (length text)
    run-not_found found =
        let none = finds None found in
        let are = chars_from_encodes none.0 text utf8 none.1 in
        record {
          boundary = IsCharBoundary-end text;
          spells = ap chars (take-length text) ∙ sym (run-all (chars text) (subst (NonePass t) are none.2));
        }

    run-either : (r : Option ℕ) → MatchOption r (F text None) (MatchBeginsAt F text) → IsRun p text (unwrap_or r (length text))
    run-either None found = run-not_found found
    run-either (Some i) found = run-found i found

  -- the search by a closure that answers by the test t
  abbrev pub Searched : ((ℕ → Bool) → Type 0) → List ℕ → Option (ℕ × ℕ) → Type 0
  Searched M text found = (k : ℕ → Bool) → M k → FindsBy k text found

  pub run-searched : (M : (ℕ → Bool) → Type 0) (text : List ℕ) (r : Option ℕ) (n : ℕ) → IsUtf8 text → MatchOption r (Searched M text None) (MatchBeginsAt (Searched M) text) → n ≡ unwrap_or r (length text) → M t → IsRun p text n
  run-searched M text r n utf8 found is answers = subst (IsRun p text) (sym is) (run-either (Searched M) text (λ o f. f t answers) utf8 r found)

-- ---- tests

pub and-true : (b : Bool) → (b && true) ≡ b
and-true true = refl
and-true false = refl

pub not-not : (b : Bool) → b ≡ not (not b)
not-not true = refl
not-not false = refl

-- ---- ASCII at the front

pub chars-one : (c : ℕ) → c < 128 → chars (c ∷ []) ≡ c ∷ []
chars-one c ascii = chars-IsAscii (c ∷ []) (IsAscii-cons c [] ascii IsAscii-nil)

-- a text that begins with an ASCII character begins with its one byte
pub record FirstByte (text : List ℕ) (c : ℕ) : Type 0 where
  pub is : text ≡ c ∷ encode_utf8_all (drop 1 (chars text))
  pub boundary : IsCharBoundary text 1
  pub front : take 1 text ≡ c ∷ []
  pub one : length (chars (take 1 text)) ≡ 1

pub first_byte : (text : List ℕ) (c : ℕ) → IsUtf8 text → BeginsWith text c → c < 128 → FirstByte text c
first_byte text c utf8 begins ascii =
    let rest = encode_utf8_all (drop 1 (chars text)) in
    let is : text ≡ c ∷ rest = sym (encodes-chars text utf8) ∙ ap encode_utf8_all begins ∙ ap (λ l. l ++ rest) (encode_ascii c ascii) in
    let first : get_or text 0 0 ≡ c = ap (λ l. get_or l 0 0) is in
    let front : take 1 text ≡ c ∷ [] = ap (take 1) is in
    record {
      is = is;
      boundary = IsCharBoundary-after_ascii text 0 utf8 (omega (arith, ap length is)) (omega arith);
      front = front;
      one = ap (λ l. length (chars l)) front ∙ ap length (chars-one c ascii);
    }

-- ---- an ASCII text at the front

pub record StartsAs (prefix text : List ℕ) : Type 0 where
  pub chars_start : starts_with nat_eq (chars text) prefix ≡ true
  pub front : take (length prefix) text ≡ prefix
  pub spelled : length (chars (take (length prefix) text)) ≡ length prefix
  pub boundary : IsCharBoundary text (length prefix)

module _ (prefix text : List ℕ) (ascii : IsAscii prefix) (utf8 : IsUtf8 text) where
  starts-whole : (xs : List ℕ) → starts_with nat_eq (prefix ++ xs) prefix ≡ true
  starts-whole xs = (bytes_eq-Decides prefix (take (length prefix) (prefix ++ xs))).1 (sym (take-append_seam prefix xs))

  pub starts-so : HasPrefixMatch (FindsTextPrefix prefix) text → StartsAs prefix text
  starts-so (n, (length_is, is, boundary), cut) =
      let split : text ≡ prefix ++ drop n text = is in
      let front : take (length prefix) text ≡ prefix = ap (take (length prefix)) split ∙ take-append_seam prefix (drop n text) in
      record {
        chars_start = ap (λ l. starts_with nat_eq l prefix) (ap chars split ∙ chars-append prefix (drop n text) (IsUtf8-from_ascii prefix ascii) ∙ ap (λ l. l ++ chars (drop n text)) (chars-IsAscii prefix ascii)) ∙ starts-whole (chars (drop n text));
        front = front;
        spelled = ap (λ l. length (chars l)) front ∙ ap length (chars-IsAscii prefix ascii);
        boundary = boundary;
      }

  pub starts-not : FindsTextPrefix prefix text None → starts_with nat_eq (chars text) prefix ≡ false
  starts-not lacks =
      false_from_ne_true (starts_with nat_eq (chars text) prefix) (λ starts.
      let front : prefix ≡ take (length prefix) (chars text) = (bytes_eq-Decides prefix (take (length prefix) (chars text))).0 starts in
      let after = drop (length prefix) (chars text) in
      lacks (encode_utf8_all after) (sym (encodes-chars text utf8) ∙ ap encode_utf8_all (sym (take-append-drop (length prefix) (chars text)) ∙ ap (λ l. l ++ after) (sym front)) ∙ encodes-append prefix after ∙ ap (λ l. l ++ encode_utf8_all after) (encodes-IsAscii prefix ascii)))

-- ---- the characters that pass

pub take_while-all : (p : ℕ → Bool) (cs : List ℕ) → list_all p (take_while p cs) ≡ true
take_while-all p [] = refl
take_while-all p (c ∷ cs) = ap (list_all p) (take_while-cons p c cs) ∙ cond_both (p c) (c ∷ take_while p cs) [] (λ l. list_all p l ≡ true) (λ passes. and_from (p c) (list_all p (take_while p cs)) passes (take_while-all p cs)) (λ fails. refl)

-- as many as pass are those that pass
pub take-run_len : (p : ℕ → Bool) (cs : List ℕ) → take (run_len p cs) cs ≡ take_while p cs
take-run_len p cs =
    let front = take_while p cs in
    ap (take (length front)) (sym (take-append-drop (prefix_len p cs) cs)) ∙ take-append_seam front (drop (prefix_len p cs) cs)

-- a cut with a character has a byte
pub some-from_chars : (text : List ℕ) (n : ℕ) → 0 < length (chars (take n text)) → 0 < n
some-from_chars text zero some = absurd (omega (arith, ap length chars-nil))
some-from_chars text (suc n) some = omega arith
