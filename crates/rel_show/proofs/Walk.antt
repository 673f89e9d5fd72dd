-- The tokens of a text, from its first one on.
use Rattle.std.proofs.Common.{◌≡◌, ℕ, suc, ◌+◌, ◌-◌, ◌<◌, cond, List, [], ◌∷◌, ◌++◌, length, take, Result, Ok, IsUtf8, refl, sym, ap, ◌∙◌, length-append, arith}
use Rattle.std.specs.Prelude.{encode_utf8, ◌==◌}
use Rattle.std.specs.Str.{chars, encode_utf8_all}
use Rattle.std.proofs.Math.Seq.{take-append_seam}
use Rattle.std.proofs.lemmas.Bool.{cond-false, ne_eqb}
use Rattle.std.proofs.lemmas.Str.{IsUtf8-nil, IsUtf8-append, IsUtf8-from_ascii, encodes-chars, chars-nil, chars-append, chars-IsAscii}
use Rattle.std.proofs.lemmas.Str.Ascii.{IsAscii-cons, IsAscii-nil}
use Rattle.rel_lang.specs.Tokens.{Token, LexicalFault, piece_at, after_token, with_piece, lexed_from}
use Rattle.rel_lang.specs.Tokens.Piece.{gap, token}
use Rattle.rel_lang.specs.Text.{Mark, Said, Says, text_of}
use Rattle.rel_show.proofs.Spelled.{Spells}
use Rattle.rel_show.proofs.Stops.{Stops}

abbrev Outcome : Type 0
Outcome = Result (List Token) LexicalFault

abbrev bytes : List ℕ → ℕ
bytes cs = length (encode_utf8_all cs)

-- ---- the characters of a piece

at_end : (n at : ℕ) → lexed_from n at [] ≡ Ok []
unfolding lexed_from
at_end n at = refl

abbrev onward : ℕ → ℕ → List ℕ → ℕ → Outcome
onward at c cs n = lexed_from (n - 1) (at + length (encode_utf8 c)) cs

by_passed : (n at c : ℕ) (cs : List ℕ) → lexed_from n at (c ∷ cs) ≡ cond (n == 0) (with_piece (piece_at (c ∷ cs)) at (c ∷ cs) (onward at c cs)) (onward at c cs n)
unfolding lexed_from
by_passed n at c cs = refl

onward_one : (n at c : ℕ) (cs : List ℕ) → onward at c cs (suc n) ≡ lexed_from n (at + length (encode_utf8 c)) cs
onward_one n at c cs = let e : suc n - 1 ≡ n = omega arith in ap (λ k. lexed_from k (at + length (encode_utf8 c)) cs) e

one_passed : (n at c : ℕ) (cs : List ℕ) → lexed_from (suc n) at (c ∷ cs) ≡ lexed_from n (at + length (encode_utf8 c)) cs
one_passed n at c cs =
    by_passed (suc n) at c cs ∙ cond-false (suc n == 0) (with_piece (piece_at (c ∷ cs)) at (c ∷ cs) (onward at c cs)) (onward at c cs (suc n)) (ne_eqb (suc n) 0 (λ e. omega arith))
    ∙ onward_one n at c cs

-- as many as are passed
all_passed : (cs : List ℕ) (at : ℕ) (rest : List ℕ) → lexed_from (length cs) at (cs ++ rest) ≡ lexed_from 0 (at + bytes cs) rest
all_passed [] at rest = let e : at ≡ at + 0 = omega arith in ap (λ k. lexed_from 0 k rest) e
all_passed (c ∷ cs) at rest =
    let size : length (c ∷ cs) ≡ suc (length cs) = omega arith in
    let e : at + length (encode_utf8 c) + bytes cs ≡ at + bytes (c ∷ cs) = omega (arith, length-append (encode_utf8 c) (encode_utf8_all cs)) in
    ap (λ k. lexed_from k at (c ∷ cs ++ rest)) size ∙ one_passed (length cs) at c (cs ++ rest) ∙ all_passed cs (at + length (encode_utf8 c)) rest ∙ ap (λ k. lexed_from 0 k rest) e

-- past a character that only separates
past_gap : (at d : ℕ) (rest : List ℕ) → piece_at (d ∷ rest) ≡ gap 1 → lexed_from 0 at (d ∷ rest) ≡ lexed_from 0 (at + length (encode_utf8 d)) rest
past_gap at d rest is =
    by_passed 0 at d rest ∙ ap (λ p. with_piece p at (d ∷ rest) (onward at d rest)) is ∙ onward_one 0 at d rest

past_token : (at : ℕ) (cs rest : List ℕ) → 0 < length cs → piece_at (cs ++ rest) ≡ token (length cs)
    → lexed_from 0 at (cs ++ rest) ≡ after_token (record { text = encode_utf8_all cs; at = at }) (lexed_from 0 (at + bytes cs) rest)
past_token at [] rest some is = absurd (omega arith)
past_token at (c ∷ cs) rest some is =
    let size : length (c ∷ cs) ≡ suc (length cs) = omega arith in
    let front : take (length (c ∷ cs)) (c ∷ cs ++ rest) ≡ c ∷ cs = take-append_seam (c ∷ cs) rest in
    let next : onward at c (cs ++ rest) (length (c ∷ cs)) ≡ lexed_from 0 (at + bytes (c ∷ cs)) rest =
    ap (onward at c (cs ++ rest)) size ∙ onward_one (length cs) at c (cs ++ rest) ∙ sym (one_passed (length cs) at c (cs ++ rest))
    ∙ ap (λ k. lexed_from k at (c ∷ cs ++ rest)) (sym size) ∙ all_passed (c ∷ cs) at rest in
    by_passed 0 at c (cs ++ rest) ∙ ap (λ p. with_piece p at (c ∷ cs ++ rest) (onward at c (cs ++ rest))) is
    ∙ (λ i. after_token (record { text = encode_utf8_all (front i); at = at }) (next i))

-- ---- texts that marks lead to

pub record Found (text : List ℕ) (ms : List Mark) (at : ℕ) : Type 0 where
  pub found : List Token
  pub cut : lexed_from 0 at (chars text) ≡ Ok found
  pub spelled : Spells ms found

-- wherever the text begins, it is cut into tokens that say what the marks do
pub record Reads (text : List ℕ) (ms : List Mark) : Type 0 where
  pub utf8 : IsUtf8 text
  pub from : (at : ℕ) → Found text ms at

pub nothing : Reads [] []
nothing = record { utf8 = IsUtf8-nil; from = λ at. record { found = []; cut = ap (lexed_from 0 at) chars-nil ∙ at_end 0 at; spelled = tt } }

-- its text is a token before a space or a line feed
pub record IsFit (s : Said) : Type 0 where
  pub utf8 : IsUtf8 (text_of s)
  pub some : 0 < length (chars (text_of s))
  pub stops : Stops (chars (text_of s))
  pub says : Says (text_of s) s

module _ (m : Mark) (fit : IsFit m.said) (text : List ℕ) (ms : List Mark) (behind : Reads text ms) where
  abbrev word : List ℕ
  word = text_of m.said

  ended : (d : ℕ) → d < 128 → ((rest : List ℕ) → piece_at (d ∷ rest) ≡ gap 1) → ((rest : List ℕ) → piece_at (chars word ++ d ∷ rest) ≡ token (length (chars word))) → Reads (word ++ d ∷ text) (m ∷ ms)
  ended d small blank stop =
      let ascii = IsAscii-cons d [] small IsAscii-nil in
      let one : IsUtf8 (d ∷ []) = IsUtf8-from_ascii (d ∷ []) ascii in
      let behind_utf8 : IsUtf8 (d ∷ text) = IsUtf8-append (d ∷ []) text one behind.utf8 in
      let after : chars (d ∷ text) ≡ d ∷ chars text = chars-append (d ∷ []) text one ∙ ap (λ l. l ++ chars text) (chars-IsAscii (d ∷ []) ascii) in
      let whole : chars (word ++ d ∷ text) ≡ chars word ++ d ∷ chars text = chars-append word (d ∷ text) fit.utf8 ∙ ap (λ l. chars word ++ l) after in
      record {
        utf8 = IsUtf8-append word (d ∷ text) fit.utf8 behind_utf8;
        from = λ at.
            let next = at + bytes (chars word) + length (encode_utf8 d) in
            let rest = behind.from next in
            record {
              found = record { text = word; at = at } ∷ rest.found;
              cut =
                  ap (lexed_from 0 at) whole ∙ past_token at (chars word) (d ∷ chars text) fit.some (stop (chars text))
                  ∙ (λ i. after_token (record { text = encodes-chars word fit.utf8 i; at = at }) ((past_gap (at + bytes (chars word)) d (chars text) (blank (chars text)) ∙ rest.cut) i));
              spelled = (fit.says, rest.spelled);
            };
      }

  pub spaced_mark : Reads (word ++ 32 ∷ text) (m ∷ ms)
  spaced_mark = ended 32 (omega arith) (λ rest. refl) fit.stops.0

  pub last_mark : Reads (word ++ 10 ∷ text) (m ∷ ms)
  last_mark = ended 10 (omega arith) (λ rest. refl) fit.stops.1
