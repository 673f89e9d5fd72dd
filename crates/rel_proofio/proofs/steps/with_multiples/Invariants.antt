-- The multiples before this one are in the step.
use Rattle.std.proofs.Common.{◌≡◌, take}
use Rattle.rules_table.specs.View.{step_of}
use Rattle.rel_proofio.specs.Steps.{with_multiples}
use Rattle.rel_proofio.proofs.steps.with_multiples.Given as goal

abbrev pub invariant-loop-number : goal.invariant-loop-number
invariant-loop-number l = step_of l.step ≡ with_multiples (step_of l.initial.step) (take l.number-index l.multiples)
