-- The tokens from a place on, by the piece that stands there.
use Rattle.std.proofs.Common.{◌≡◌, ℕ, zero, suc, ◌+◌, ◌-◌, ◌<◌, cond, List, [], ◌∷◌, ◌++◌, length, take, drop, Result, Ok, Err, IsUtf8, refl, sym, ap, ◌∙◌, subst, append_assoc, append-nil, length-append, length-drop, length-take-le, arith}
use Rattle.std.specs.Prelude.{encode_utf8, ◌==◌, All, AllPairs}
use Rattle.std.specs.Str.{chars, encode_utf8_all, IsCharBoundary}
use Rattle.std.proofs.lemmas.List.{map-append, drop-drop}
use Rattle.std.proofs.lemmas.List.Elements.{All-push}
use Rattle.std.proofs.lemmas.List.Quantifiers.{all_pairs_push}
use Rattle.std.proofs.Math.Seq.{take-append_seam, drop-append_seam}
use Rattle.std.proofs.lemmas.Str.{IsUtf8-take, IsUtf8-drop, encodes-chars, chars-nil}
use Rattle.std.proofs.lemmas.Bool.{cond-false, ne_eqb}
use Rattle.rel_lang.specs.Tokens.{Token, Piece, LexicalFault, piece_at, after_token, with_piece, lexed_from, lexed}
use Rattle.rel_lang.specs.Tokens.Piece.{gap, token, bad, wide}
use Rattle.rel_lang.specs.Tokens.LexicalFault.{bad_char, wide_literal}
use Rattle.rel_lexer.specs.declared.Kind.{Kind}
use Rattle.rel_lexer.specs.declared.Token.{Token as Lexed}
use Rattle.rel_lexer.specs.declared.parts.Part.{Part}
use Rattle.rel_lexer.specs.declared.parts.Part.TheVariants.{Gap, Token as TokenPart}
use Rattle.rel_lexer.specs.declared.LexFault.{LexFault}
use Rattle.rel_lexer.specs.declared.LexFault.TheVariants.{BadChar, WideLiteral, Memory}
use Rattle.rel_lexer.specs.Tokens.{token_of, tokens_of, HasKind, IsOfKind, IsSlice, IsFirstFault}
use Rattle.rel_lexer.specs.Pieces.{chars_in, IsGap, IsToken, IsFault, IsPart, part_len}
use Rattle.rel_lexer.proofs.Cuts.{chars-cut}

abbrev pub Outcome : Type 0
Outcome = Result (List Token) LexicalFault

abbrev bytes : List ℕ → ℕ
bytes cs = length (encode_utf8_all cs)

-- at the end of the text
nothing : (n at : ℕ) → lexed_from n at [] ≡ Ok []
unfolding lexed_from
nothing n at = refl

nonempty : (cs : List ℕ) → 0 < bytes cs → 0 < length cs
nonempty [] some = absurd (omega arith)
nonempty (c ∷ cs) some = omega arith

length-zero : (l : List ℕ) → length l ≡ 0 → l ≡ []
length-zero [] none = refl
length-zero (c ∷ cs) none = absurd (omega arith)

abbrev onward : ℕ → ℕ → List ℕ → ℕ → Outcome
onward at c cs n = lexed_from (n - 1) (at + length (encode_utf8 c)) cs

-- the two ways to go on
by_passed : (n at c : ℕ) (cs : List ℕ) → lexed_from n at (c ∷ cs) ≡ cond (n == 0) (with_piece (piece_at (c ∷ cs)) at (c ∷ cs) (onward at c cs)) (onward at c cs n)
unfolding lexed_from
by_passed n at c cs = refl

by_piece : (at c : ℕ) (cs : List ℕ) (piece : Piece) → piece_at (c ∷ cs) ≡ piece → lexed_from 0 at (c ∷ cs) ≡ with_piece piece at (c ∷ cs) (onward at c cs)
by_piece at c cs piece is = by_passed 0 at c cs ∙ ap (λ p. with_piece p at (c ∷ cs) (onward at c cs)) is

-- one character that belongs to the piece before
onward-step : (n at c : ℕ) (cs : List ℕ) → onward at c cs (suc n) ≡ lexed_from n (at + length (encode_utf8 c)) cs
onward-step n at c cs = let e : suc n - 1 ≡ n = omega arith in ap (λ k. lexed_from k (at + length (encode_utf8 c)) cs) e

step : (n at c : ℕ) (cs : List ℕ) → lexed_from (suc n) at (c ∷ cs) ≡ lexed_from n (at + length (encode_utf8 c)) cs
step n at c cs =
    let no : suc n ≡ 0 → ⊥ = λ e. omega arith in
    by_passed (suc n) at c cs ∙ cond-false (suc n == 0) (with_piece (piece_at (c ∷ cs)) at (c ∷ cs) (onward at c cs)) (onward at c cs (suc n)) (ne_eqb (suc n) 0 no) ∙ onward-step n at c cs

skip : (n at : ℕ) (cs : List ℕ) → lexed_from n at cs ≡ lexed_from 0 (at + bytes (take n cs)) (drop n cs)
skip zero at cs = let e : at ≡ at + 0 = omega arith in ap (λ k. lexed_from 0 k cs) e
skip (suc n) at [] = nothing (suc n) at ∙ sym (nothing 0 (at + 0))
skip (suc n) at (c ∷ cs) =
    let e : at + length (encode_utf8 c) + bytes (take n cs) ≡ at + bytes (take (suc n) (c ∷ cs)) = omega (arith, length-append (encode_utf8 c) (encode_utf8_all (take n cs))) in
    step n at c cs ∙ skip n (at + length (encode_utf8 c)) cs ∙ ap (λ k. lexed_from 0 k (drop n cs)) e

from-gap : (at n : ℕ) (cs : List ℕ) → 0 < length cs → piece_at cs ≡ gap (suc n) → lexed_from 0 at cs ≡ lexed_from (suc n) at cs
from-gap at n [] some is = absurd (omega arith)
from-gap at n (c ∷ cs) some is = by_piece at c cs (gap (suc n)) is ∙ onward-step n at c cs ∙ sym (step n at c cs)

from-token : (at n : ℕ) (cs : List ℕ) → 0 < length cs → piece_at cs ≡ token (suc n) → lexed_from 0 at cs ≡ after_token (record { text = encode_utf8_all (take (suc n) cs); at = at }) (lexed_from (suc n) at cs)
from-token at n [] some is = absurd (omega arith)
from-token at n (c ∷ cs) some is =
    by_piece at c cs (token (suc n)) is ∙ ap (after_token (record { text = encode_utf8_all (take (suc n) (c ∷ cs)); at = at })) (onward-step n at c cs ∙ sym (step n at c cs))

from-bad : (at n : ℕ) (cs : List ℕ) → 0 < length cs → piece_at cs ≡ bad n → lexed_from 0 at cs ≡ Err (bad_char (at + n))
from-bad at n [] some is = absurd (omega arith)
from-bad at n (c ∷ cs) some is = by_piece at c cs (bad n) is

from-wide : (at : ℕ) (cs : List ℕ) → 0 < length cs → piece_at cs ≡ wide → lexed_from 0 at cs ≡ Err (wide_literal at)
from-wide at [] some is = absurd (omega arith)
from-wide at (c ∷ cs) some is = by_piece at c cs wide is

-- ---- at a place in the text

-- the bytes of a cut are some, and so are its characters
record Cut (text : List ℕ) (n : ℕ) : Type 0 where
  count : ℕ
  is : chars_in n text ≡ suc count
  front : encode_utf8_all (take (suc count) (chars text)) ≡ take n text
  rest : drop (suc count) (chars text) ≡ chars (drop n text)
  some : 0 < length (chars text)

cut : (text : List ℕ) (n : ℕ) → IsUtf8 text → IsCharBoundary text n → 0 < n → Cut text n
cut text n utf8 boundary some =
    let before = chars (take n text) in
    let after = chars (drop n text) in
    let split = chars-cut text n utf8 boundary in
    let spelled : encode_utf8_all before ≡ take n text = encodes-chars (take n text) (IsUtf8-take text n utf8 boundary) in
    let positive : 0 < length before = nonempty before (omega (arith, ap length spelled, length-take-le n text boundary.0)) in
    let is : length before ≡ suc (length before - 1) = omega arith in
    record {
      count = length before - 1;
      is = is;
      front = ap (λ k. encode_utf8_all (take k (chars text))) (sym is) ∙ ap (λ l. encode_utf8_all (take (length before) l)) split ∙ ap encode_utf8_all (take-append_seam before after) ∙ spelled;
      rest = ap (λ k. drop k (chars text)) (sym is) ∙ ap (drop (length before)) split ∙ drop-append_seam before after;
      some = omega (arith, ap length split, length-append before after);
    }

module _ (text : List ℕ) (at : ℕ) (utf8 : IsUtf8 text) where
  behind : (n : ℕ) (k : Cut text n) → IsCharBoundary text n → lexed_from (suc k.count) at (chars text) ≡ lexed_from 0 (at + n) (chars (drop n text))
  behind n k boundary =
      let size : bytes (take (suc k.count) (chars text)) ≡ n = ap length k.front ∙ length-take-le n text boundary.0 in
      skip (suc k.count) at (chars text) ∙ ap (λ b. lexed_from 0 (at + b) (drop (suc k.count) (chars text))) size ∙ ap (lexed_from 0 (at + n)) k.rest

  behind-gap : (n : ℕ) → IsGap (piece_at (chars text)) text n → lexed_from 0 at (chars text) ≡ lexed_from 0 (at + n) (chars (drop n text))
  behind-gap n g =
      let k = cut text n utf8 g.boundary g.some in
      from-gap at k.count (chars text) k.some (g.is ∙ ap gap k.is) ∙ behind n k g.boundary

  behind-token : (kind : Kind) (n : ℕ) → IsToken (piece_at (chars text)) text kind n → lexed_from 0 at (chars text) ≡ after_token (record { text = take n text; at = at }) (lexed_from 0 (at + n) (chars (drop n text)))
  behind-token kind n t =
      let k = cut text n utf8 t.boundary t.some in
      from-token at k.count (chars text) k.some (t.is ∙ ap token k.is) ∙ (λ i. after_token (record { text = k.front i; at = at }) (behind n k t.boundary i))

  some-chars : 0 < length text → 0 < length (chars text)
  some-chars some = nonempty (chars text) (omega (arith, ap length (encodes-chars text utf8)))

  behind-bad : 0 < length text → (byte : ℕ) → IsFault (piece_at (chars text)) at (BadChar byte) → lexed_from 0 at (chars text) ≡ Err (bad_char byte)
  behind-bad some byte fault =
      let e : at + (byte - at) ≡ byte = omega (arith, fault.0) in
      from-bad at (byte - at) (chars text) (some-chars some) fault.1 ∙ ap (λ b. Err (bad_char b)) e

  behind-wide : 0 < length text → (byte : ℕ) → IsFault (piece_at (chars text)) at (WideLiteral byte) → lexed_from 0 at (chars text) ≡ Err (wide_literal byte)
  behind-wide some byte fault = from-wide at (chars text) (some-chars some) fault.1 ∙ ap (λ b. Err (wide_literal b)) (sym fault.0)

  behind-end : length text ≡ 0 → lexed_from 0 at (chars text) ≡ Ok []
  behind-end none = ap (λ l. lexed_from 0 at (chars l)) (length-zero text none) ∙ ap (lexed_from 0 at) chars-nil ∙ nothing 0 at

-- ---- the loop

-- these tokens, and then what comes behind them
abbrev pub after_all : List Token → Outcome → Outcome
after_all ts (Ok more) = Ok (ts ++ more)
after_all ts (Err fault) = Err fault

-- the tokens so far, and behind them those of the rest, are the text's
abbrev pub SoFar : List ℕ → List Lexed → List ℕ → ℕ → Type 0
SoFar text ts rest at = lexed text ≡ after_all (tokens_of ts) (lexed_from 0 at (chars rest))

join : (ts : List Lexed) (t : Lexed) (more : Outcome) → after_all (tokens_of ts) (after_token (token_of t) more) ≡ after_all (tokens_of (ts ++ (t ∷ []))) more
join ts t (Err fault) = refl
join ts t (Ok l) = ap Ok (sym (append_assoc (tokens_of ts) (token_of t ∷ []) l) ∙ ap (λ k. k ++ l) (sym (map-append token_of ts (t ∷ []))))

module _ (text : List ℕ) (ts : List Lexed) (rest : List ℕ) (at : ℕ) (utf8 : IsUtf8 rest) (before : SoFar text ts rest at) where
  pub refused : 0 < length rest → (fault : LexFault) → IsFault (piece_at (chars rest)) at fault → IsFirstFault text fault
  refused some (BadChar byte) fault = before ∙ ap (after_all (tokens_of ts)) (behind-bad rest at utf8 some byte fault)
  refused some (WideLiteral byte) fault = before ∙ ap (after_all (tokens_of ts)) (behind-wide rest at utf8 some byte fault)
  refused some Memory fault = absurd fault

  pub finished : length rest ≡ 0 → lexed text ≡ Ok (tokens_of ts)
  finished none = before ∙ ap (after_all (tokens_of ts)) (behind-end rest at utf8 none) ∙ ap Ok (append-nil (tokens_of ts))

  kept-gap : (n : ℕ) → IsGap (piece_at (chars rest)) rest n → SoFar text ts (drop n rest) (at + n)
  kept-gap n g = before ∙ ap (after_all (tokens_of ts)) (behind-gap rest at utf8 n g)

  kept-token : (kind : Kind) (n : ℕ) (t : Lexed) → IsToken (piece_at (chars rest)) rest kind n → t.text.now ≡ take n rest → t.at ≡ at → SoFar text (ts ++ (t ∷ [])) (drop n rest) (at + n)
  kept-token kind n t is text_is at_is =
      let same : record { text = take n rest; at = at } ≡ token_of t = (λ i. record { text = sym text_is i; at = sym at_is i }) in
      before ∙ ap (after_all (tokens_of ts)) (behind-token rest at utf8 kind n is ∙ ap (λ x. after_token x (lexed_from 0 (at + n) (chars (drop n rest)))) same)
      ∙ join ts t (lexed_from 0 (at + n) (chars (drop n rest)))

-- the loop's invariant: ts are the tokens of the front of the text, and the rest begins at the byte `at`
pub record Walked (text : List ℕ) (ts : List Lexed) (rest : List ℕ) (at : ℕ) : Type 0 where
  pub utf8 : IsUtf8 rest
  pub place : at + length rest ≡ length text
  pub rest_is : rest ≡ drop at text
  pub so_far : SoFar text ts rest at
  pub kinds : All HasKind ts
  pub slices : All (IsSlice text) ts
  pub passed : All (λ t. t.at < at) ts
  pub rising : AllPairs (λ t u. t.at < u.at) ts

-- what a cut leaves
module _ (text ts_rest : List ℕ) (at n : ℕ) (boundary : IsCharBoundary ts_rest n) (after : List ℕ) (after_is : after ≡ drop n ts_rest) where
  placed : at + length ts_rest ≡ length text → at + n + length after ≡ length text
  placed place = omega (arith, ap length after_is, length-drop n ts_rest, boundary.0)

  left : ts_rest ≡ drop at text → after ≡ drop (at + n) text
  left rest_is = after_is ∙ ap (drop n) rest_is ∙ drop-drop n at text

  moved : (ts : List Lexed) → SoFar text ts (drop n ts_rest) (at + n) → SoFar text ts after (at + n)
  moved ts h = subst (λ l. SoFar text ts l (at + n)) (sym after_is) h

module _ (text : List ℕ) (ts : List Lexed) (rest : List ℕ) (at : ℕ) (before : Walked text ts rest at) where
  further : (n : ℕ) → All (λ (t : Lexed). t.at < at + n) ts
  further n = λ k d within. omega (arith, before.passed k d within)

  walked-gap : (n : ℕ) → IsGap (piece_at (chars rest)) rest n → (after : List ℕ) → after ≡ drop n rest → Walked text ts after (at + n)
  walked-gap n g after after_is = record {
    utf8 = subst IsUtf8 (sym after_is) (IsUtf8-drop rest n before.utf8 g.boundary);
    place = placed text rest at n g.boundary after after_is before.place;
    rest_is = left text rest at n g.boundary after after_is before.rest_is;
    so_far = moved text rest at n g.boundary after after_is ts (kept-gap text ts rest at before.utf8 before.so_far n g);
    kinds = before.kinds;
    slices = before.slices;
    passed = further n;
    rising = before.rising;
  }

  -- past a part that is no token
  pub walked-past : (part : Part) → IsPart (piece_at (chars rest)) at rest (Ok part) → ((kind : Kind) (n : ℕ) → part ≡ TokenPart kind n → ⊥) → (after : List ℕ) → after ≡ drop (part_len part) rest → Walked text ts after (at + part_len part)
  walked-past (Gap n) is other after after_is = walked-gap n is after after_is
  walked-past (TokenPart kind n) is other after after_is = absurd (other kind n refl)

  pub walked-token : (kind : Kind) (n : ℕ) (t : Lexed) → IsToken (piece_at (chars rest)) rest kind n → t.kind ≡ kind → t.text.now ≡ take n rest → t.at ≡ at → (after : List ℕ) → after ≡ drop n rest → Walked text (ts ++ (t ∷ [])) after (at + n)
  walked-token kind n t is kind_is text_is at_is after after_is =
      let size : length t.text.now ≡ n = ap length text_is ∙ length-take-le n rest is.boundary.0 in
      let slice : IsSlice text t = text_is ∙ ap (take n) before.rest_is ∙ (λ i. take (sym size i) (drop (sym at_is i) text)) in
      record {
        utf8 = subst IsUtf8 (sym after_is) (IsUtf8-drop rest n before.utf8 is.boundary);
        place = placed text rest at n is.boundary after after_is before.place;
        rest_is = left text rest at n is.boundary after after_is before.rest_is;
        so_far = moved text rest at n is.boundary after after_is (ts ++ (t ∷ [])) (kept-token text ts rest at before.utf8 before.so_far kind n t is text_is at_is);
        kinds = All-push HasKind ts t before.kinds (subst (λ k. IsOfKind k t.text.now) (sym kind_is) (subst (IsOfKind kind) (sym text_is) is.of_kind));
        slices = All-push (IsSlice text) ts t before.slices slice;
        passed = All-push (λ u. u.at < at + n) ts t (further n) (omega (arith, at_is, is.some));
        rising = all_pairs_push (λ u v. u.at < v.at) ts t before.rising (λ k d within. omega (arith, at_is, before.passed k d within));
      }
