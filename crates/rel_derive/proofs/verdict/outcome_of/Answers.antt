use Rattle.std.proofs.lemmas.Result.{IfOk-weaker}
use Rattle.std.proofs.Common.{map}
use Rattle.rel_logic.specs.View.{sequent_of}
use Rattle.rules_table.specs.View.{step_of}
use Rattle.rel_derive.proofs.Exact.{outcome_is_only, outcome_is_valid}
use Rattle.rel_derive.proofs.verdict.outcome_of.Goals as goal

pub returns-clause-valid : goal.returns-clause-valid
returns-clause-valid c =
    IfOk-weaker c.run_steps.result _ _ (λ o. outcome_is_valid (sequent_of c.args.sequent) (map step_of c.args.steps.now) o c.requires.sound) c.run_steps.ensures

pub returns-clause-only : goal.returns-clause-only
returns-clause-only c =
    IfOk-weaker c.run_steps.result _ _ (λ o. outcome_is_only (sequent_of c.args.sequent) (map step_of c.args.steps.now) o) c.run_steps.ensures
