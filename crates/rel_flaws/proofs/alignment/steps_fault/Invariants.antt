use Rattle.std.proofs.Common.{◌≡◌, None, take}
use Rattle.rel_lang.specs.View.{weave_step_of}
use Rattle.rel_flaws.specs.Alignments.{step_fault}
use Rattle.rel_flaws.specs.AlignmentView.{sides_of}
use Rattle.rel_flaws.specs.Flaws.{first_in}
use Rattle.rel_flaws.specs.View.{tables_seen, pass_of}
use Rattle.rel_flaws.proofs.alignment.steps_fault.Given as goal

abbrev pub invariant-loop-step : goal.invariant-loop-step
invariant-loop-step l = record {
  none : first_in (λ w. step_fault (tables_seen l.tables) (pass_of l.pass) (sides_of l.fn.s) (weave_step_of w)) (take l.step-index l.steps) ≡ None;
  kept : l.s ≡ l.fn.s;
}
