-- Which reserved word or symbol a text is.
use Rattle.std.proofs.Common.{◌≡◌, ℕ, Bool, true, false, cond, ◌||◌, ◌<◌, length, get_or, arith, List, [], ◌∷◌, Option, Some, None, refl, sym, ap, ◌∙◌}
use Rattle.std.specs.Prelude.{nat_eq, bytes_eq, find, filter, map}
use Rattle.std.specs.List.{list_any, starts_with}
use Rattle.std.proofs.lemmas.Bool.{eq-eqb}
use Rattle.std.proofs.lemmas.Slice.Eq.{bytes_eq-Decides}
use Rattle.rel_lang.specs.Syntax.{Word}
use Rattle.rel_lang.specs.Tokens.{Piece, symbol_piece, symbols as every_symbol, is_reserved, reserved}
use Rattle.rel_lang.specs.Tokens.Piece.{token, bad}
use Rattle.rel_lexer.specs.declared.keywords.Keyword.{Keyword}
use Rattle.rel_lexer.specs.declared.keywords.Keyword.TheVariants as word
use Rattle.rel_lexer.specs.declared.symbols.Symbol.{Symbol}
use Rattle.rel_lexer.specs.declared.symbols.Symbol.TheVariants as symbol
use Rattle.rel_lexer.specs.Words.{keyword_text, keywords, keyword_of, begins_with, keywords_with, symbol_text, symbols, symbol_of, symbol_at}

-- ---- searches

module _ {X : Type 0} (p : X → Bool) where
  -- what is found passes
  pub find-passes : (xs : List X) (x : X) → find p xs ≡ Some x → p x ≡ true
  find-passes [] x found = absurd cc
  find-passes (y ∷ ys) x found = elim (p y) as (λ b. p y ≡ b → cond b (Some y) (find p ys) ≡ Some x → p x ≡ true) [
    | true ↦ (λ passes is. ap p (let same : y ≡ x = cc in sym same) ∙ passes)
    | false ↦ (λ fails is. find-passes ys x is)
  ] refl found

  -- a search among those that pass another test, which holds of all that this one finds
  pub find-among : (q : X → Bool) (xs : List X) → ((x : X) → p x ≡ true → q x ≡ true) → find p (filter q xs) ≡ find p xs
  find-among q [] implied = refl
  find-among q (y ∷ ys) implied = elim (p y) as (λ b. p y ≡ b → find p (filter q (y ∷ ys)) ≡ cond b (Some y) (find p ys)) [
    | true ↦ (λ passes. rw (implied y passes) (rw passes refl))
    | false ↦ (λ fails. elim (q y) as (λ b. find p (cond b (y ∷ filter q ys) (filter q ys)) ≡ find p ys) [
      | true ↦ rw fails (find-among q ys implied)
      | false ↦ find-among q ys implied
    ])
  ] refl

abbrev pub is_found : {X : Type 0} → Option X → Bool
is_found None = false
is_found (Some x) = true

any-found : {X Y : Type 0} (f : X → Y) (p : Y → Bool) (xs : List X) → list_any p (map f xs) ≡ is_found (find (λ x. p (f x)) xs)
any-found f p [] = refl
any-found f p (x ∷ xs) = elim (p (f x)) as (λ b. (b || list_any p (map f xs)) ≡ is_found (cond b (Some x) (find (λ y. p (f y)) xs))) [ true ↦ refl | false ↦ any-found f p xs ]

-- ---- reserved words

pub keyword_of-text : (k : Keyword) → keyword_of (keyword_text k) ≡ Some k
unfolding keywords
keyword_of-text word.Agree = refl
keyword_of-text _ = refl

pub keyword_is : (w : Word) (k : Keyword) → keyword_of w ≡ Some k → w ≡ keyword_text k
keyword_is w k found = (bytes_eq-Decides w (keyword_text k)).0 (find-passes (λ j. bytes_eq w (keyword_text j)) keywords k found)

pub keyword_one : (j k : Keyword) → keyword_text j ≡ keyword_text k → j ≡ k
keyword_one j k same = let found : Some j ≡ Some k = sym (keyword_of-text j) ∙ ap keyword_of same ∙ keyword_of-text k in cc

all_reserved : reserved ≡ map keyword_text keywords
unfolding keywords
all_reserved = refl

pub reserved_is_found : (w : Word) → is_reserved w ≡ is_found (keyword_of w)
reserved_is_found w = ap (list_any (λ r. bytes_eq w r)) all_reserved ∙ any-found keyword_text (λ r. bytes_eq w r) keywords

-- a search for a text among the words that begin as it does
pub found_by_first : (text : Word) (b : ℕ) → 0 < length text → get_or text 0 0 ≡ b → find (λ k. bytes_eq text (keyword_text k)) (keywords_with b) ≡ keyword_of text
found_by_first [] b some first = absurd (omega arith)
found_by_first (c ∷ cs) b some first =
    find-among (λ k. bytes_eq (c ∷ cs) (keyword_text k)) (λ k. begins_with b (keyword_text k)) keywords (λ k same. ap (begins_with b) (sym ((bytes_eq-Decides (c ∷ cs) (keyword_text k)).0 same)) ∙ eq-eqb c b first)

pub empty_is_none : (text : Word) → length text ≡ 0 → keyword_of text ≡ None
unfolding keywords
empty_is_none [] none = refl
empty_is_none (c ∷ cs) none = absurd (omega arith)

-- ---- symbols

pub symbol_of-text : (s : Symbol) → symbol_of (symbol_text s) ≡ Some s
unfolding symbols
symbol_of-text symbol.Colon = refl
symbol_of-text _ = refl

pub symbol_one : (s t : Symbol) → symbol_text s ≡ symbol_text t → s ≡ t
symbol_one s t same = let found : Some s ≡ Some t = sym (symbol_of-text s) ∙ ap symbol_of same ∙ symbol_of-text t in cc

abbrev pub piece_of : Option Symbol → Piece
piece_of None = bad 0
piece_of (Some s) = token (length (symbol_text s))

piece-among : (ss : List Symbol) (cs : List ℕ) → symbol_piece (map symbol_text ss) cs ≡ piece_of (find (λ s. starts_with nat_eq cs (symbol_text s)) ss)
piece-among [] cs = refl
piece-among (s ∷ ss) cs = elim (starts_with nat_eq cs (symbol_text s)) as (λ b. cond b (token (length (symbol_text s))) (symbol_piece (map symbol_text ss) cs) ≡ piece_of (cond b (Some s) (find (λ t. starts_with nat_eq cs (symbol_text t)) ss))) [ true ↦ refl | false ↦ piece-among ss cs ]

all_symbols : every_symbol ≡ map symbol_text symbols
unfolding symbols
all_symbols = refl

pub symbol_piece-is : (cs : List ℕ) → symbol_piece every_symbol cs ≡ piece_of (symbol_at cs)
symbol_piece-is cs = ap (λ l. symbol_piece l cs) all_symbols ∙ piece-among symbols cs
