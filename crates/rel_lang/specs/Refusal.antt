-- Which text is refused, why and where: at the first token with which no bundle within the limits goes on.
use Rattle.std.specs.Prelude.{◌≡◌, ℕ, zero, suc, ◌<◌, ◌≤◌, List, [], ◌∷◌, length, Option, Some, None}
use Rattle.std.specs.List.{AllByRecursion}
use Rattle.rel_lang.specs.Syntax.{Word, Bundle}
use Rattle.rel_lang.specs.Tokens.{Token}
use Rattle.rel_lang.specs.Text.{Says, Mark, AreAt, Match, show_tokens, IsPrintable}

-- ---- the limits

-- how deep an expression, a formula, a relation formula, a command or a bicommand may be, and how many elements a repetition may have
pub record Limits : Type 0 where
  pub deepest : ℕ
  pub most : ℕ

abbrev pub limits : Limits
limits = record { deepest = 64; most = 16384 }

abbrev pub IsWithin : Limits → Mark → Type 0
IsWithin l m = (m.depth ≤ l.deepest) × (m.element ≤ l.most)

abbrev pub Fits : Bundle → Type 0
Fits b = AllByRecursion (IsWithin limits) (show_tokens b)

-- ---- how far tokens go along marks

-- a mark is meant only before its told text
abbrev pub IsBefore : Option Word → List Token → Type 0
IsBefore None ts = Unit {0}
IsBefore (Some w) [] = ⊥
IsBefore (Some w) (t ∷ ts) = w ≡ t.text

-- the first n tokens say what the first n marks do, each at its place and before its told text
abbrev pub GoesOn : ℕ → List Mark → List Token → Type 0
GoesOn zero ms ts = Unit {0}
GoesOn (suc n) [] ts = ⊥
GoesOn (suc n) (m ∷ ms) [] = ⊥
GoesOn (suc n) (m ∷ ms) (t ∷ ts) = Says t.text m.said × AreAt m.ats t.at × IsBefore m.told ts × GoesOn n ms ts

-- the first n marks are within the limits
abbrev pub AreWithin : Limits → ℕ → List Mark → Type 0
AreWithin l zero ms = Unit {0}
AreWithin l (suc n) [] = Unit {0}
AreWithin l (suc n) (m ∷ ms) = IsWithin l m × AreWithin l n ms

-- ---- refusals

pub data Reason : Type 0 where
  Unexpected : Reason
  TooDeep : Reason
  TooMany : Reason

-- the mark is past the limit of this name; none has what no bundle has
abbrev pub IsOver : Limits → Reason → Mark → Type 0
IsOver l Unexpected m = ⊥
IsOver l TooDeep m = l.deepest < m.depth
IsOver l TooMany m = (m.depth ≤ l.deepest) × (l.most < m.element)

-- the mark behind the first n is
abbrev pub IsOverAt : Limits → Reason → ℕ → List Mark → Type 0
IsOverAt l r n [] = ⊥
IsOverAt l r zero (m ∷ ms) = IsOver l r m
IsOverAt l r (suc n) (m ∷ ms) = IsOverAt l r n ms

-- how many tokens some bundle goes on with: with the refused one too, where only a limit refuses it
abbrev pub reach : Reason → ℕ → ℕ
reach Unexpected n = n
reach TooDeep n = suc n
reach TooMany n = suc n

-- Some bundle that is within the limits so far goes on with the first n tokens, and with the next one for a limit; and each bundle that goes on
-- with the next one is past the limit there.
pub record IsRefused (r : Reason) (n : ℕ) (ts : List Token) : Type 0 where
  pub begun : (b : Bundle) × IsPrintable b × GoesOn (reach r n) (show_tokens b) ts × AreWithin limits n (show_tokens b)
  pub stuck : (b : Bundle) → IsPrintable b → GoesOn (suc n) (show_tokens b) ts → IsOverAt limits r n (show_tokens b)
  pub ended : (b : Bundle) → IsPrintable b → n ≡ length ts → Match (show_tokens b) ts → ⊥

-- the byte of the token behind the first n, or the length of the text
abbrev pub place_behind : ℕ → ℕ → List Token → ℕ
place_behind whole n [] = whole
place_behind whole zero (t ∷ ts) = t.at
place_behind whole (suc n) (t ∷ ts) = place_behind whole n ts
