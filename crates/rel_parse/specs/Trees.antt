-- What is read as one tree of the grammar, from a token on, and why tokens aren't.
use Rattle.std.specs.Prelude.{◌≡◌, ℕ, suc, ◌+◌, ◌-◌, ◌<◌, ◌≤◌, List, length, drop, Result, Ok, Err}
use Rattle.std.specs.List.{AllByRecursion}
use Rattle.rel_lang.specs.Tokens.{Token as Piece}
use Rattle.rel_lang.specs.Text.{CanBeSaid, Mark}
use Rattle.rel_lang.specs.Refusal.{limits, IsWithin, GoesOn, AreWithin, Reason, Unexpected, TooDeep, TooMany, IsOverAt, reach}
use Rattle.rel_lexer.specs.declared.Token.{Token}
use Rattle.rel_lexer.specs.Tokens.{tokens_of}
use Rattle.rel_parse.specs.declared.fault.Fault.{Fault}
use Rattle.rel_parse.specs.declared.fault.Fault.TheVariants as faults
use Rattle.rel_parse.specs.declared.tree.ParseFault.{ParseFault}
use Rattle.rel_parse.specs.declared.tree.ParseFault.TheVariants as refusal

-- the tokens from this number on
abbrev pub tokens_from : ℕ → List Token → List Piece
tokens_from n ts = tokens_of (drop n ts)

-- a tree of any shape
abbrev pub Any : {X : Type 0} → X → Type 0
Any x = Unit {0}

abbrev pub IsWithinLimits : {X : Type 0} → (X → List Mark) → X → Type 0
IsWithinLimits show x = AllByRecursion (IsWithin limits) (show x)

module _ {X : Type 0} (show : X → List Mark) (Shape : X → Type 0) where
  -- it can be printed
  pub record CanBePrinted (x : X) : Type 0 where
    pub shape : Shape x
    pub words : AllByRecursion (λ m. CanBeSaid m.said) (show x)

  -- it can be printed, and the tokens from this number on begin with all that its marks say
  pub record Stands (from : ℕ) (ts : List Token) (x : X) : Type 0 where
    pub printed : CanBePrinted x
    pub said : GoesOn (length (show x)) (show x) (tokens_from from ts)

  -- it stands there within the limits, and the next token has this number
  pub record IsRead (from : ℕ) (ts : List Token) (x : X) (next : ℕ) : Type 0 where
    pub stands : Stands from ts x
    pub fits : IsWithinLimits show x
    pub behind : next ≡ from + length (show x)

  -- Some tree that is within the limits so far goes on with the tokens before the refused one, and with that one for a limit; and each tree that
  -- goes on with the refused one is past the limit there.
  pub record IsTreeRefused (why : Reason) (from : ℕ) (ts : List Token) (place : ℕ) : Type 0 where
    pub passed : ℕ
    pub placed : place ≡ from + passed
    pub inside : place ≤ length ts
    pub begun : (y : X) × CanBePrinted y × GoesOn (reach why passed) (show y) (tokens_from from ts) × AreWithin limits passed (show y) × (passed < length (show y))
    pub stuck : (y : X) → CanBePrinted y → GoesOn (suc passed) (show y) (tokens_from from ts) → IsOverAt limits why passed (show y)

  abbrev pub HasParseFault : ℕ → List Token → ParseFault → Type 0
  HasParseFault from ts (refusal.Unexpected place) = IsTreeRefused Unexpected from ts place
  HasParseFault from ts (refusal.TooDeep place) = IsTreeRefused TooDeep from ts place
  HasParseFault from ts (refusal.TooMany place) = IsTreeRefused TooMany from ts place
  HasParseFault from ts refusal.Memory = Unit {0}

-- ---- tokens by their number

-- of so many tokens
abbrev pub numbered_fault : ℕ → Fault → ParseFault
numbered_fault whole (faults.Unexpected left) = refusal.Unexpected (whole - left)
numbered_fault whole (faults.TooDeep left) = refusal.TooDeep (whole - left)
numbered_fault whole (faults.TooMany left) = refusal.TooMany (whole - left)
numbered_fault whole faults.Memory = refusal.Memory

-- what was read, with the number of the token behind it
abbrev pub numbered : {W V : Type 0} → (W → V × List Token) → ℕ → Result W Fault → Result (V × ℕ) ParseFault
numbered seen whole (Ok w) = Ok ((seen w).0, whole - length (seen w).1)
numbered seen whole (Err e) = Err (numbered_fault whole e)
