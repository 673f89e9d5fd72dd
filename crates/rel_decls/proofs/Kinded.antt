-- Each token that a text is cut into has a kind.
use Rattle.std.proofs.Common.{◌≡◌, ℕ, zero, suc, ◌+◌, ◌-◌, ◌<◌, Bool, true, false, not, cond, ◌&&◌, List, [], ◌∷◌, length, take, get_or, Option, Some, None, Result, Ok, Err, pos, refl, sym, ap, ◌∙◌, subst, arith}
use Rattle.std.specs.Prelude.{◌==◌, codes, nat_eq, nat_le, take_while, encode_utf8}
use Rattle.std.specs.List.{AllByRecursion, starts_with, list_all}
use Rattle.std.specs.Fmt.{decimal}
use Rattle.std.specs.Str.{IsUtf8, chars, encode_utf8_all}
use Rattle.std.specs.Str.Parse.{digits_value}
use Rattle.std.proofs.Math.Utf8.{scalars}
use Rattle.std.proofs.lemmas.Bool.{and_parts, and_from, eqb-true, leb-false, eq-eqb}
use Rattle.std.proofs.lemmas.List.Sums.{take_while-cons}
use Rattle.std.proofs.lemmas.Slice.Eq.{bytes_eq-Decides}
use Rattle.std.proofs.lemmas.Str.{chars-encodes, scalars-chars, encodes-IsAscii}
use Rattle.rel_lang.specs.Tokens.{Token as Piece, Piece as CutPiece, LexicalFault, run_len, is_blank, is_line_feed, is_digit, slash, begins_name, continues_name, has_name_form, is_number, literal_limit, comment_piece, number_piece, symbol_piece, symbols as every_symbol, piece_at, after_token, with_piece, lexed_from, lexed}
use Rattle.rel_lang.specs.Tokens.Piece.{gap, token, bad, wide}
use Rattle.rel_lexer.specs.declared.Kind.{Kind}
use Rattle.rel_lexer.specs.declared.Kind.TheVariants as kind
use Rattle.rel_lexer.specs.declared.keywords.Keyword.{Keyword}
use Rattle.rel_lexer.specs.declared.symbols.Symbol.{Symbol}
use Rattle.rel_lexer.specs.Words.{keyword_of, symbol_text, symbols, symbol_at}
use Rattle.rel_lexer.specs.Tokens.{IsOfKind}
use Rattle.rel_lexer.proofs.Cuts.{and-true, take_while-all, take-run_len}
use Rattle.rel_lexer.proofs.Names.{word-kind, name-kind}
use Rattle.rel_lexer.proofs.Numbers.{decimal-value, digits-all, digits-ascii}
use Rattle.rel_lexer.proofs.Spellings.{find-passes, piece_of, symbol_piece-is}
use Rattle.rel_lexer.proofs.SymbolPieces.{symbol_ascii}

-- it has a kind
abbrev pub Kinded : List ℕ → Type 0
Kinded text = (k : Kind) × IsOfKind k text

take_scalars : (n : ℕ) (cs : List ℕ) → scalars cs ≡ true → scalars (take n cs) ≡ true
take_scalars zero cs e = refl
take_scalars (suc n) [] e = refl
take_scalars (suc n) (c ∷ cs) e = let p = and_parts _ _ e in and_from _ _ p.0 (take_scalars n cs p.1)

tokens_one : (m n : ℕ) → token m ≡ token n → m ≡ n
tokens_one m n e = cc

-- ---- names

word_by : (text : List ℕ) (o : Option Keyword) → has_name_form (chars text) ≡ true → keyword_of text ≡ o → Kinded text
word_by text (Some k) form e = (kind.Word k, word-kind text k e)
word_by text None form e = (kind.Name, name-kind text form e)

name_kinded : (c n : ℕ) (cs : List ℕ) → scalars (c ∷ cs) ≡ true → begins_name c ≡ true → 1 + run_len continues_name cs ≡ n → Kinded (encode_utf8_all (take n (c ∷ cs)))
name_kinded c n cs all begins e =
    let some : suc (run_len continues_name cs) ≡ n = omega (arith, e) in
    let front : take n (c ∷ cs) ≡ c ∷ take_while continues_name cs = ap (λ k. take k (c ∷ cs)) (sym some) ∙ ap (λ l. c ∷ l) (take-run_len continues_name cs) in
    let spelled : chars (encode_utf8_all (take n (c ∷ cs))) ≡ c ∷ take_while continues_name cs = chars-encodes (take n (c ∷ cs)) (take_scalars n (c ∷ cs) all) ∙ front in
    let form : has_name_form (chars (encode_utf8_all (take n (c ∷ cs)))) ≡ true = ap has_name_form spelled ∙ and_from (begins_name c) (list_all continues_name (take_while continues_name cs)) begins (take_while-all continues_name cs) in
    word_by (encode_utf8_all (take n (c ∷ cs))) (keyword_of (encode_utf8_all (take n (c ∷ cs)))) form refl

-- ---- numbers

-- what a run of k digits is: whether it begins with a zero, has one digit, and is too great
abbrev number_if : Bool → Bool → Bool → ℕ → CutPiece
number_if zero_first one big k = cond (zero_first && not one) (bad 1) (cond big wide (token k))

number_parts : (z o b : Bool) (k n : ℕ) → number_if z o b k ≡ token n → (z ≡ true → o ≡ true) × (b ≡ false) × (k ≡ n)
number_parts true true true k n e = absurd cc
number_parts true true false k n e = (λ h. refl, refl, tokens_one k n e)
number_parts true false b k n e = absurd cc
number_parts false o true k n e = absurd cc
number_parts false o false k n e = (λ h. absurd cc, refl, tokens_one k n e)

number_kinded : (c n : ℕ) (cs : List ℕ) → is_digit c ≡ true → number_piece (c ∷ cs) ≡ token n → Kinded (encode_utf8_all (take n (c ∷ cs)))
number_kinded c n cs digit e =
    let k = run_len is_digit (c ∷ cs) in
    let digits = take_while is_digit (c ∷ cs) in
    let parts = number_parts (starts_with nat_eq (c ∷ cs) (codes "0")) (k == 1) (nat_le literal_limit (digits_value 10 (take k (c ∷ cs)))) k n e in
    let run : take k (c ∷ cs) ≡ digits = take-run_len is_digit (c ∷ cs) in
    let front : take n (c ∷ cs) ≡ digits = ap (λ j. take j (c ∷ cs)) (sym parts.2) ∙ run in
    let all : list_all is_digit digits ≡ true = take_while-all is_digit (c ∷ cs) in
    let first : digits ≡ c ∷ take_while is_digit cs = take_while-cons is_digit c cs ∙ ap (λ b. cond b (c ∷ take_while is_digit cs) []) digit in
    let value = digits_value 10 digits in
    let small : value < literal_limit = subst (λ l. digits_value 10 l < literal_limit) run (leb-false literal_limit (digits_value 10 (take k (c ∷ cs))) parts.1) in
    let head : get_or digits 0 0 ≡ c = ap (λ l. get_or l 0 0) first in
    let some : 0 < length digits = omega (arith, ap length first) in
    let lead : get_or digits 0 0 ≡ 48 → length digits ≡ 1 = λ z. eqb-true k 1 (parts.0 (and-true (48 == c) ∙ eq-eqb 48 c (sym z ∙ head))) in
    let written : decimal value ≡ digits = decimal-value digits (digits-all digits all) some lead (omega (arith, small)) in
    let number : is_number digits ≡ true = ap is_number first ∙ digit in
    subst Kinded (sym (ap encode_utf8_all front ∙ encodes-IsAscii digits (digits-ascii digits all))) (kind.Number (pos value), (sym written, small, number))

-- ---- symbols

symbol_by : (n : ℕ) (cs : List ℕ) (o : Option Symbol) → symbol_at cs ≡ o → piece_of o ≡ token n → Kinded (encode_utf8_all (take n cs))
symbol_by n cs None found e = absurd cc
symbol_by n cs (Some s) found e =
    let word = symbol_text s in
    let starts = find-passes (λ t. starts_with nat_eq cs (symbol_text t)) symbols s found in
    let front : word ≡ take (length word) cs = (bytes_eq-Decides word (take (length word) cs)).0 starts in
    let is : take n cs ≡ word = ap (λ j. take j cs) (sym (tokens_one (length word) n e)) ∙ sym front in
    subst Kinded (sym (ap encode_utf8_all is ∙ encodes-IsAscii word (symbol_ascii s))) (kind.Symbol s, refl)

symbol_kinded : (n : ℕ) (cs : List ℕ) → symbol_piece every_symbol cs ≡ token n → Kinded (encode_utf8_all (take n cs))
symbol_kinded n cs e = symbol_by n cs (symbol_at cs) refl (sym (symbol_piece-is cs) ∙ e)

-- ---- pieces

no_token : (b : Bool) (k n : ℕ) → cond b (gap k) (bad 0) ≡ token n → ⊥
no_token true k n e = cc
no_token false k n e = cc

comment_is_no_token : (cs : List ℕ) (n : ℕ) → comment_piece cs ≡ token n → ⊥
comment_is_no_token [] n e = cc
comment_is_no_token (c ∷ cs) n e = no_token (c == slash) (2 + run_len (λ d. not (is_line_feed d)) cs) n e

abbrev piece_if : Bool → Bool → Bool → Bool → ℕ → List ℕ → CutPiece
piece_if blank comment name digit c cs =
    cond blank (gap 1) (cond comment (comment_piece cs) (cond name (token (1 + run_len continues_name cs)) (cond digit (number_piece (c ∷ cs)) (symbol_piece every_symbol (c ∷ cs)))))

piece_by : (blank comment name digit : Bool) (c n : ℕ) (cs : List ℕ) → scalars (c ∷ cs) ≡ true → begins_name c ≡ name → is_digit c ≡ digit → piece_if blank comment name digit c cs ≡ token n → Kinded (encode_utf8_all (take n (c ∷ cs)))
piece_by true comment name digit c n cs all begins is e = absurd cc
piece_by false true name digit c n cs all begins is e = absurd (comment_is_no_token cs n e)
piece_by false false true digit c n cs all begins is e = name_kinded c n cs all begins (tokens_one (1 + run_len continues_name cs) n e)
piece_by false false false true c n cs all begins is e = number_kinded c n cs is e
piece_by false false false false c n cs all begins is e = symbol_kinded n (c ∷ cs) e

piece_kinded : (c n : ℕ) (cs : List ℕ) → scalars (c ∷ cs) ≡ true → piece_at (c ∷ cs) ≡ token n → Kinded (encode_utf8_all (take n (c ∷ cs)))
piece_kinded c n cs all e = piece_by (is_blank c) (c == slash) (begins_name c) (is_digit c) c n cs all refl refl e

-- ---- tokens

abbrev pub AreKinded : List Piece → Type 0
AreKinded ps = AllByRecursion (λ p. Kinded p.text) ps

abbrev Outcome : Type 0
Outcome = Result (List Piece) LexicalFault

-- if there are tokens they have kinds
abbrev Fine : Outcome → Type 0
Fine (Ok ps) = AreKinded ps
Fine (Err f) = Unit {0}

fine_token : (t : Piece) (o : Outcome) → Kinded t.text → Fine o → Fine (after_token t o)
fine_token t (Ok ps) k h = (k, h)
fine_token t (Err f) k h = tt

fine_piece : (q : CutPiece) (at c : ℕ) (cs : List ℕ) (rest : ℕ → Outcome) → scalars (c ∷ cs) ≡ true → piece_at (c ∷ cs) ≡ q → ((n : ℕ) → Fine (rest n)) → Fine (with_piece q at (c ∷ cs) rest)
fine_piece (gap n) at c cs rest all e h = h n
fine_piece (token n) at c cs rest all e h = fine_token (record { text = encode_utf8_all (take n (c ∷ cs)); at = at }) (rest n) (piece_kinded c n cs all e) (h n)
fine_piece (bad n) at c cs rest all e h = tt
fine_piece wide at c cs rest all e h = tt

fine_if : (b : Bool) (one two : Outcome) → Fine one → Fine two → Fine (cond b one two)
fine_if true one two h k = h
fine_if false one two h k = k

fine_from : (passed at : ℕ) (cs : List ℕ) → scalars cs ≡ true → Fine (lexed_from passed at cs)
unfolding lexed_from
fine_from passed at [] all = tt
fine_from passed at (c ∷ cs) all =
    let behind = (and_parts _ _ all).1 in
    let next = at + length (encode_utf8 c) in
    fine_if (passed == 0) _ _ (fine_piece (piece_at (c ∷ cs)) at c cs (λ n. lexed_from (n - 1) next cs) all refl (λ n. fine_from (n - 1) next cs behind)) (fine_from (passed - 1) next cs behind)

of_fine : (o : Outcome) (ps : List Piece) → Fine o → o ≡ Ok ps → AreKinded ps
of_fine o ps h e = subst Fine e h

pub have_kinds : (text : List ℕ) (ps : List Piece) → IsUtf8 text → lexed text ≡ Ok ps → AreKinded ps
have_kinds text ps utf8 e = of_fine (lexed text) ps (fine_from 0 0 (chars text) (scalars-chars text utf8)) e
