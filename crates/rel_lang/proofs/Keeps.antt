-- Two runs of which the second ends as the first does, unless that is lost.
use Rattle.std.proofs.Common.{◌≡◌, ◌≢◌, Bool, true, false, if◌then◌else◌, refl, ap, ◌∙◌}
use Rattle.rel_lang.specs.State.{State}
use Rattle.rel_lang.specs.Run.{Picks, Outcome, Done, Fault, Out, NoPick, and_then}

abbrev pub Keeps : Outcome → Outcome → Outcome → Type 0
Keeps lost a b = a ≢ lost → b ≡ a

pub same_keeps : (lost a : Outcome) → Keeps lost a a
same_keeps lost a not_lost = refl

pub lost_keeps : (lost b : Outcome) → Keeps lost lost b
lost_keeps lost b not_lost = absurd (not_lost refl)

pub keeps_and_then : (lost a b : Outcome) (f g : State → Picks → Outcome) → ((s : State) (k : Picks) → Done s k ≢ lost)
    → Keeps lost a b → ((s : State) (k : Picks) → Keeps lost (f s k) (g s k)) → Keeps lost (and_then a f) (and_then b g)
keeps_and_then lost (Done s k) b f g done first next not_lost = ap (λ o. and_then o g) (first (done s k)) ∙ next s k not_lost
keeps_and_then lost Fault b f g done first next not_lost = ap (λ o. and_then o g) (first not_lost)
keeps_and_then lost Out b f g done first next not_lost = ap (λ o. and_then o g) (first not_lost)
keeps_and_then lost NoPick b f g done first next not_lost = ap (λ o. and_then o g) (first not_lost)

pub keeps_if : (lost : Outcome) (t : Bool) (a b c d : Outcome) → Keeps lost a b → Keeps lost c d → Keeps lost (if t then a else c) (if t then b else d)
keeps_if lost true a b c d h i = h
keeps_if lost false a b c d h i = i
