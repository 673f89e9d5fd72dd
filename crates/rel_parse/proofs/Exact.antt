-- What a reader takes is spelled so, and what it refuses is refused where no tree goes on.
use Rattle.std.proofs.Common.{◌≡◌, ℕ, suc, ◌+◌, ◌<◌, ◌≤◌, Bool, true, false, List, [], ◌∷◌, length, Option, Some, None, ◌⊎◌, inl, inr}
use Rattle.std.specs.List.{AllByRecursion}
use Rattle.rel_lang.specs.Syntax.{Word}
use Rattle.rel_lang.specs.Text.{Fixed, Says, CanBeSaid, Mark, AreAt}
use Rattle.rel_lang.specs.Refusal.{Limits, IsWithin, IsBefore, GoesOn, AreWithin, Reason, IsOverAt, reach}
use Rattle.rel_lexer.specs.declared.Token.{Token}
use Rattle.rel_lexer.specs.Tokens.{tokens_of, HasKind}
use Rattle.rel_lexer.specs.declared.Kind.{Kind}
use Rattle.rel_lexer.specs.declared.Kind.TheVariants as kind
use Rattle.rel_lexer.specs.Words.{keyword_text, symbol_text}
use Rattle.rel_parse.specs.Reading.{Got, Refused, Reader}

abbrev pub HaveKinds : List Token → Type 0
HaveKinds ts = AllByRecursion HasKind ts

-- the first tokens say what the marks do, and the rest stands behind them
abbrev pub Spelled : List Mark → List Token → List Token → Type 0
Spelled [] ts rest = ts ≡ rest
Spelled (m ∷ ms) [] rest = ⊥
Spelled (m ∷ ms) (t ∷ ts) rest = Says t.text.now m.said × AreAt m.ats t.at × IsBefore m.told (tokens_of ts) × Spelled ms ts rest

abbrev pub CanAllBeSaid : List Mark → Type 0
CanAllBeSaid ms = AllByRecursion (λ m. CanBeSaid m.said) ms

-- each told text is that of the mark behind
abbrev pub IsToldBy : Option Word → List Mark → Type 0
IsToldBy None ms = Unit {0}
IsToldBy (Some w) [] = ⊥
IsToldBy (Some w) (m ∷ ms) = m.said ≡ Fixed w

abbrev pub AreTold : List Mark → Type 0
AreTold [] = Unit {0}
AreTold (m ∷ ms) = IsToldBy m.told ms × AreTold ms

-- it can be printed
abbrev pub Good : {X : Type 0} → (X → List Mark) → (X → Type 0) → X → Type 0
Good show Shape x = Shape x × CanAllBeSaid (show x)

module _ (l : Limits) {X : Type 0} (show : X → List Mark) (Shape : X → Type 0) where
  abbrev pub AllWithin : X → Type 0
  AllWithin x = AllByRecursion (IsWithin l) (show x)

  -- some tree goes on up to the refused token, and with it for a limit; each that goes on with it is past the limit there
  pub record Refuses (why : Reason) (left : ℕ) (ts : List Token) : Type 0 where
    pub passed : ℕ
    pub behind : passed + left ≡ length ts
    pub begun : (y : X) × Good show Shape y × GoesOn (reach why passed) (show y) (tokens_of ts) × AreWithin l passed (show y) × (passed < length (show y))
    pub stuck : (y : X) → Good show Shape y → GoesOn (suc passed) (show y) (tokens_of ts) → IsOverAt l why passed (show y)

  -- A tree that goes on with as many tokens as one of the two has marks, where x does so too and is within the limits so far, is x.
  abbrev pub IsSole : X → Type 0
  IsSole x = (y : X) (ts : List Token) (n : ℕ) → HaveKinds ts → Good show Shape y → (length (show x) ≤ n) ⊎ (length (show y) ≤ n)
      → AreWithin l n (show x) → GoesOn n (show x) (tokens_of ts) → GoesOn n (show y) (tokens_of ts) → y ≡ x

  pub record Reads (r : Reader X) : Type 0 where
    pub one : (x : X) × Good show Shape x
    pub some_mark : (x : X) → 0 < length (show x)
    pub told : (x : X) → AreTold (show x)
    pub sole : (x : X) → Good show Shape x → IsSole x
    pub found : (ts rest : List Token) (x : X) → HaveKinds ts → r ts ≡ Got x rest → Spelled (show x) ts rest × Good show Shape x × AllWithin x
    pub refused : (ts : List Token) (why : Reason) (left : ℕ) → HaveKinds ts → r ts ≡ Refused why left → Refuses why left ts

abbrev pub Always : {X : Type 0} → X → Type 0
Always x = Unit {0}

-- no tree's first token passes the test
abbrev pub NeverBegins : {X : Type 0} → (X → List Mark) → (X → Type 0) → (List Token → Bool) → Type 0
NeverBegins {X = X} show Shape p = (x : X) (ts : List Token) → HaveKinds ts → Good show Shape x → GoesOn 1 (show x) (tokens_of ts) → p ts ≡ false

-- each tree's first token does
abbrev pub AlwaysBegins : {X : Type 0} → (X → List Mark) → (X → Type 0) → (List Token → Bool) → Type 0
AlwaysBegins {X = X} show Shape p = (x : X) (ts : List Token) → HaveKinds ts → Good show Shape x → GoesOn 1 (show x) (tokens_of ts) → p ts ≡ true

-- what passes the test is the first token of some tree
abbrev pub SomeBegins : {X : Type 0} → (X → List Mark) → (X → Type 0) → (List Token → Bool) → Type 0
SomeBegins {X = X} show Shape p = (ts : List Token) → HaveKinds ts → p ts ≡ true → (x : X) × Good show Shape x × GoesOn 1 (show x) (tokens_of ts)

-- the text of a reserved word or a symbol
abbrev pub fixed_text : Kind → Word
fixed_text (kind.Word k) = keyword_text k
fixed_text (kind.Symbol s) = symbol_text s
fixed_text _ = []

abbrev pub IsFixed : Kind → Type 0
IsFixed (kind.Word k) = Unit {0}
IsFixed (kind.Symbol s) = Unit {0}
IsFixed _ = ⊥

-- ---- readers put together

abbrev pub show_either : {A B : Type 0} → (A → List Mark) → (B → List Mark) → A ⊎ B → List Mark
show_either a b (inl x) = a x
show_either a b (inr y) = b y

abbrev pub ShapeEither : {A B : Type 0} → (A → Type 0) → (B → Type 0) → A ⊎ B → Type 0
ShapeEither P Q (inl x) = P x
ShapeEither P Q (inr y) = Q y

-- the first mark, before a depth and a number are given to it
abbrev pub IsBare : List Mark → Type 0
IsBare [] = Unit {0}
IsBare (m ∷ ms) = (m.depth ≡ 0) × (m.element ≡ 0)

-- the first mark is within the depth, and no element's
abbrev pub IsShallow : Limits → List Mark → Type 0
IsShallow l [] = Unit {0}
IsShallow l (m ∷ ms) = (m.depth ≤ l.deepest) × (m.element ≡ 0)

-- the first mark is past the depth
abbrev pub IsTooDeep : Limits → List Mark → Type 0
IsTooDeep l [] = Unit {0}
IsTooDeep l (m ∷ ms) = l.deepest < m.depth

abbrev pub ShapeAll : {A B : Type 0} → (A → Type 0) → (B → Type 0) → List A × B → Type 0
ShapeAll P Q p = AllByRecursion P p.0 × Q p.1
