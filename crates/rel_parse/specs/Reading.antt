-- How the first of some tokens are read as a tree, from left to right: the pieces that readers are made of.
use Rattle.std.specs.Prelude.{ℕ, zero, suc, ℤ, pos, negsuc, Bool, true, false, List, [], ◌∷◌, length, ◌++◌, if◌then◌else◌, bytes_eq, min}
use Rattle.rel_lang.specs.Syntax.{Word}
use Rattle.rel_lang.specs.Text.{greatest_count}
use Rattle.rel_lang.specs.Refusal.{Reason, Unexpected, TooDeep, TooMany}
use Rattle.rel_lexer.specs.declared.Token.{Token}
use Rattle.rel_lexer.specs.declared.Kind.{Kind}
use Rattle.rel_lexer.specs.declared.Kind.TheVariants as kind
use Rattle.rel_lexer.specs.declared.symbols.Symbol.TheVariants as symbol
use Rattle.rel_lexer.specs.Words.{keyword_text, symbol_text}

-- what is read, and the tokens behind it; or why it isn't, and how many tokens are left from the refused one on
pub data Reading (X : Type 0) : Type 0 where
  Got : X → List Token → Reading X
  Refused : Reason → ℕ → Reading X

abbrev pub Reader : Type 0 → Type 0
Reader X = List Token → Reading X

-- what follows what is read
abbrev pub then_read : {A B : Type 0} → Reading A → (A → List Token → Reading B) → Reading B
then_read (Got x rest) f = f x rest
then_read (Refused why left) f = Refused why left

-- the first token is the refused one
abbrev pub unexpected : {X : Type 0} → List Token → Reading X
unexpected ts = Refused Unexpected (length ts)

-- ---- tokens

-- two kinds are the same reserved word or the same symbol
abbrev pub same_fixed : Kind → Kind → Bool
same_fixed (kind.Word a) (kind.Word b) = bytes_eq (keyword_text a) (keyword_text b)
same_fixed (kind.Symbol a) (kind.Symbol b) = bytes_eq (symbol_text a) (symbol_text b)
same_fixed _ _ = false

-- the reserved word or the symbol comes next
abbrev pub is_next : Kind → List Token → Bool
is_next k [] = false
is_next k (t ∷ ts) = same_fixed t.kind k

-- it comes behind the next token
abbrev pub is_second : Kind → List Token → Bool
is_second k [] = false
is_second k (t ∷ ts) = is_next k ts

abbrev pub is_name_kind : Kind → Bool
is_name_kind (kind.Word k) = false
is_name_kind kind.Name = true
is_name_kind (kind.Number n) = false
is_name_kind (kind.Symbol s) = false

abbrev pub is_number_kind : Kind → Bool
is_number_kind (kind.Word k) = false
is_number_kind kind.Name = false
is_number_kind (kind.Number n) = true
is_number_kind (kind.Symbol s) = false

abbrev pub number_of : Kind → ℤ
number_of (kind.Number n) = n
number_of _ = pos 0

abbrev pub is_name_next : List Token → Bool
is_name_next [] = false
is_name_next (t ∷ ts) = is_name_kind t.kind

abbrev pub is_number_next : List Token → Bool
is_number_next [] = false
is_number_next (t ∷ ts) = is_number_kind t.kind

abbrev pub expect_at : Kind → List Token → Reading Unit
expect_at k [] = unexpected []
expect_at k (t ∷ ts) = if same_fixed t.kind k then Got tt ts else unexpected (t ∷ ts)

abbrev pub name_at : Reader Word
name_at [] = unexpected []
name_at (t ∷ ts) = if is_name_kind t.kind then Got t.text.now ts else unexpected (t ∷ ts)

abbrev pub literal_at : Reader ℤ
literal_at [] = unexpected []
literal_at (t ∷ ts) = if is_number_kind t.kind then Got (number_of t.kind) ts else unexpected (t ∷ ts)

-- as the number that it counts as
abbrev pub counted_as : ℤ → ℕ
counted_as (pos n) = min n greatest_count
counted_as (negsuc n) = 0

abbrev pub count_at : Reader ℕ
count_at ts = then_read (literal_at ts) (λ n rest. Got (counted_as n) rest)

-- ---- one reader after another

abbrev pub made : {A X : Type 0} → (A → X) → Reader A → Reader X
made f r ts = then_read (r ts) (λ a rest. Got (f a) rest)

abbrev pub both : {A B : Type 0} → Reader A → Reader B → Reader (A × B)
both a b ts = then_read (a ts) (λ x rest. then_read (b rest) (λ y behind. Got (x, y) behind))

abbrev pub after : {A : Type 0} → Kind → Reader A → Reader A
after k r ts = then_read (expect_at k ts) (λ u rest. r rest)

abbrev pub before : {A : Type 0} → Kind → Reader A → Reader A
before k r ts = then_read (r ts) (λ x rest. then_read (expect_at k rest) (λ u behind. Got x behind))

abbrev pub place_of : List Token → ℕ
place_of [] = 0
place_of (t ∷ ts) = t.at

-- with the byte where it begins
abbrev pub placed : {A : Type 0} → Reader A → Reader (ℕ × A)
placed r ts = then_read (r ts) (λ x rest. Got (place_of ts, x) rest)

-- this reader where the tokens pass, else that one
abbrev pub either : {X : Type 0} → (List Token → Bool) → Reader X → Reader X → Reader X
either p a b ts = if p ts then a ts else b ts

-- where a tree may no more begin, since it would be too deep
abbrev pub too_deep_at : {X : Type 0} → (List Token → Bool) → Reader X
too_deep_at begins ts = if begins ts then Refused TooDeep (length ts) else unexpected ts

-- ---- repetitions

abbrev pub with_first : {A : Type 0} → A → Reading (List A) → Reading (List A)
with_first x r = then_read r (λ xs rest. Got (x ∷ xs) rest)

-- with what was read before
abbrev pub with_front : {A : Type 0} → List A → Reading (List A) → Reading (List A)
with_front front r = then_read r (λ xs rest. Got (front ++ xs) rest)

-- one after the other as long as the tokens begin one, at most so many
unfoldable pub many_at : {A : Type 0} → (List Token → Bool) → Reader A → ℕ → Reader (List A)
many_at begins r zero ts = if begins ts then Refused TooMany (length ts) else Got [] ts
many_at begins r (suc n) ts = if begins ts then then_read (r ts) (λ x rest. with_first x (many_at begins r n rest)) else Got [] ts

-- with commas between them, or none before the closing symbol; so many may follow the first
unfoldable pub listed_at : {A : Type 0} → Kind → Reader A → ℕ → Reader (List A)
listed_at close r n ts = if is_next close ts then Got [] ts else then_read (r ts) (λ x rest. with_first x (many_at (is_next (kind.Symbol symbol.Comma)) (after (kind.Symbol symbol.Comma) r) n rest))
