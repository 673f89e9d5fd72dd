-- What one command gives, and the obligation of a bundle.
use Rattle.std.specs.Prelude.{◌≡◌, ℕ, List, Option, Some, None}
use Rattle.rel_lang.specs.Syntax.{Form, At, Then, End, Decl, Bundle}
use Rattle.rel_lang.specs.TrueBundle.{IsTrueBundle}
use Rattle.rel_logic.specs.Truth.{IsValid}
use Rattle.rel_lang.specs.View.{unit_of, proc_of, judgement_of}
use Rattle.rel_lang.specs.declared.bundle.UnitItem.{UnitItem}
use Rattle.rel_lang.specs.declared.bundle.Proc.{Proc}
use Rattle.rel_lang.specs.declared.bundle.Judgement.{Judgement}
use Rattle.rel_logic.specs.View.{sequent_of}
use Rattle.rel_logic.specs.declared.sequent.Sequent.{Sequent}
use Rattle.rel_encode.specs.Terms.{Store}
use Rattle.rel_linking.specs.Form.{Parts, IsStraight}
use Rattle.rel_linking.specs.Parts.{AreJudged}
use Rattle.rel_linking.specs.Obligation.{Walked, walk, obligation_of}
use Rattle.rel_linking.specs.Sorted.{IsWellSorted}

-- what the parts of a bundle stand for
abbrev pub parts_of : UnitItem → Proc → UnitItem → Proc → Judgement → Parts
parts_of l p r q j = record { left = unit_of l; left_proc = proc_of p; right = unit_of r; right_proc = proc_of q; judgement = judgement_of j }

abbrev pub one_step : List Decl → Store → ℕ → Form → Walked
one_step ds st n f = walk ds st n (Then (At 0 f) End)

-- the bundle is straight, the sequent is its obligation, and where it is valid the bundle is true
pub record IsObligationOf (b : Bundle) (q : Sequent) : Type 0 where
  pub parts : Parts
  pub straight : IsStraight b parts
  pub value : sequent_of q ≡ obligation_of parts
  pub sorted : IsWellSorted (sequent_of q)
  pub enough : IsValid (sequent_of q) → IsTrueBundle b

-- what is found for a bundle: its obligation, or that it isn't straight
abbrev pub IsAnswer : Bundle → Option Sequent → Type 0
IsAnswer b None = (k : Parts) → IsStraight b k → ⊥
IsAnswer b (Some q) = IsObligationOf b q

-- for two units and a judgement
abbrev pub IsAnswerFor : UnitItem → UnitItem → Judgement → Option Sequent → Type 0
IsAnswerFor l r j None = AreJudged l r j → ⊥
IsAnswerFor l r j (Some q) = (k : AreJudged l r j) × (sequent_of q ≡ obligation_of (parts_of l k.left_proc r k.right_proc j))
