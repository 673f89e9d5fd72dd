-- Two options that are both none, or both some that belong together; and the first of two faults.
use Rattle.std.proofs.Common.{◌≡◌, Option, Some, None, refl, ap, subst, ◌∙◌}
use Rattle.rel_flaws.specs.Flaws.{Fault, first_of}
use Rattle.rel_types.specs.Known.{BothAre}

module _ {A B : Type 0} (R : A → B → Type 0) where
  -- there on the right, so there on the left
  pub both_some : (o : Option A) (p : Option B) (b : B) → p ≡ Some b → BothAre R o p → (a : A) × (o ≡ Some a) × R a b
  both_some None p b e h = absurd (subst (BothAre R None) e h)
  both_some (Some a) p b e h = (a, refl, subst (BothAre R (Some a)) e h)

  pub both_none : (o : Option A) (p : Option B) → p ≡ None → BothAre R o p → o ≡ None
  both_none None p e h = refl
  both_none (Some a) p e h = absurd (subst (BothAre R (Some a)) e h)

pub some_first : (f : Fault) (g h : Option Fault) → Some f ≡ g → Some f ≡ first_of g h
some_first f g h e = ap (λ x. first_of x h) e

pub none_first : (f g h : Option Fault) → None ≡ g → f ≡ h → f ≡ first_of g h
none_first f g h n e = e ∙ ap (λ x. first_of x h) n
