-- The symbol that begins a text is the token there.
use Rattle.std.proofs.Common.{◌≡◌, ℕ, ◌<◌, ◌≤◌, Bool, true, false, List, [], ◌∷◌, ◌++◌, length, take, drop, Some, None, IsUtf8, refl, sym, ap, ◌∙◌, subst, arith, take-append-drop}
use Rattle.std.specs.Prelude.{nat_eq, nat_lt, find}
use Rattle.std.specs.List.{starts_with, list_all}
use Rattle.std.specs.Str.{chars, encode_utf8_all, IsAscii}
use Rattle.std.proofs.lemmas.List.{length-take}
use Rattle.std.proofs.Math.Seq.{take-append_seam}
use Rattle.std.proofs.lemmas.Bool.{and_parts, ltb-true}
use Rattle.std.proofs.lemmas.Slice.Eq.{bytes_eq-Decides}
use Rattle.std.proofs.lemmas.Str.{IsUtf8-from_ascii, IsCharBoundary-from_take, chars-IsAscii, chars-append, encodes-chars, encodes-IsAscii, encodes-append}
use Rattle.std.proofs.lemmas.Str.Ascii.{IsAscii-cons, IsAscii-nil}
use Rattle.rel_lang.specs.Tokens.{symbol_piece, symbols as every_symbol}
use Rattle.rel_lang.specs.Tokens.Piece.{token, bad}
use Rattle.rel_lexer.specs.declared.Kind.TheVariants as kind
use Rattle.rel_lexer.specs.declared.symbols.Symbol.{Symbol}
use Rattle.rel_lexer.specs.declared.symbols.Symbol.TheVariants as symbol
use Rattle.rel_lexer.specs.Words.{symbol_text, symbols, symbol_at}
use Rattle.rel_lexer.specs.Pieces.{IsToken}
use Rattle.rel_lexer.proofs.Spellings.{find-passes, piece_of, symbol_piece-is}

-- ---- an ASCII text at the front, in bytes and in characters

module _ (front text : List ℕ) (ascii : IsAscii front) (utf8 : IsUtf8 text) where
  begins : List ℕ → Bool
  begins l = starts_with nat_eq l front

  is_front : (l : List ℕ) → starts_with nat_eq l front ≡ true → front ≡ take (length front) l
  is_front l starts = (bytes_eq-Decides front (take (length front) l)).0 starts

  from_front : (l : List ℕ) → take (length front) l ≡ front → starts_with nat_eq l front ≡ true
  from_front l same = (bytes_eq-Decides front (take (length front) l)).1 (sym same)

  split : (l : List ℕ) → front ≡ take (length front) l → l ≡ front ++ drop (length front) l
  split l same = sym (take-append-drop (length front) l) ∙ ap (λ f. f ++ drop (length front) l) (sym same)

  in_bytes : starts_with nat_eq (chars text) front ≡ true → starts_with nat_eq text front ≡ true
  in_bytes starts =
      let after = drop (length front) (chars text) in
      let spelled : text ≡ front ++ encode_utf8_all after = sym (encodes-chars text utf8) ∙ ap encode_utf8_all (split (chars text) (is_front (chars text) starts)) ∙ encodes-append front after ∙ ap (λ f. f ++ encode_utf8_all after) (encodes-IsAscii front ascii) in
      from_front text (ap (take (length front)) spelled ∙ take-append_seam front (encode_utf8_all after))

  in_chars : starts_with nat_eq text front ≡ true → starts_with nat_eq (chars text) front ≡ true
  in_chars starts =
      let after = drop (length front) text in
      let spelled : chars text ≡ front ++ chars after = ap chars (split text (is_front text starts)) ∙ chars-append front after (IsUtf8-from_ascii front ascii) ∙ ap (λ f. f ++ chars after) (chars-IsAscii front ascii) in
      from_front (chars text) (ap (take (length front)) spelled ∙ take-append_seam front (chars after))

  pub starts_alike : starts_with nat_eq (chars text) front ≡ starts_with nat_eq text front
  starts_alike = alike (starts_with nat_eq (chars text) front) (starts_with nat_eq text front) in_bytes in_chars
    where
      alike : (a b : Bool) → (a ≡ true → b ≡ true) → (b ≡ true → a ≡ true) → a ≡ b
      alike true b to from = sym (to refl)
      alike false true to from = from refl
      alike false false to from = refl

-- ---- the symbols

abbrev is_ascii : ℕ → Bool
is_ascii b = nat_lt b 128

ascii_by_test : (w : List ℕ) → list_all is_ascii w ≡ true → IsAscii w
ascii_by_test [] passes = IsAscii-nil
ascii_by_test (b ∷ bs) passes = let parts = and_parts (is_ascii b) (list_all is_ascii bs) passes in IsAscii-cons b bs (ltb-true b 128 parts.0) (ascii_by_test bs parts.1)

tested : (s : Symbol) → list_all is_ascii (symbol_text s) ≡ true
tested symbol.Colon = refl
tested _ = refl

pub symbol_ascii : (s : Symbol) → IsAscii (symbol_text s)
symbol_ascii s = ascii_by_test (symbol_text s) (tested s)

symbol_some : (s : Symbol) → 0 < length (symbol_text s)
symbol_some symbol.Colon = omega arith
symbol_some _ = omega arith

module _ (text : List ℕ) (utf8 : IsUtf8 text) where
  found_alike : symbol_at (chars text) ≡ symbol_at text
  found_alike = λ i. find (λ s. starts_alike (symbol_text s) text (symbol_ascii s) utf8 i) symbols

  pub symbol-none : symbol_at text ≡ None → symbol_piece every_symbol (chars text) ≡ bad 0
  symbol-none none = symbol_piece-is (chars text) ∙ ap piece_of (found_alike ∙ none)

  pub symbol-token : (s : Symbol) → symbol_at text ≡ Some s → IsToken (symbol_piece every_symbol (chars text)) text (kind.Symbol s) (length (symbol_text s))
  symbol-token s found =
      let word = symbol_text s in
      let front : word ≡ take (length word) text = is_front word text (symbol_ascii s) utf8 text (find-passes (λ t. starts_with nat_eq text (symbol_text t)) symbols s found) in
      let within : length word ≤ length text = omega (arith, ap length front, length-take (length word) text) in
      record {
        some = symbol_some s;
        boundary = IsCharBoundary-from_take text (length word) utf8 within (subst IsUtf8 front (IsUtf8-from_ascii word (symbol_ascii s)));
        is = symbol_piece-is (chars text) ∙ ap piece_of (found_alike ∙ found) ∙ ap (λ l. token (length l)) (sym (ap chars (sym front) ∙ chars-IsAscii word (symbol_ascii s)));
        of_kind = sym front;
      }
