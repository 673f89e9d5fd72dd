use Rattle.std.proofs.lemmas.Result.{IfOk-weaker}
use Rattle.rel_logic.specs.View.{sequent_of}
use Rattle.rel_straight.proofs.Exact.{verdict_is_exact, verdict_is_only}
use Rattle.rel_straight.proofs.checker.accepts.Goals as goal

pub returns-clause-exact : goal.returns-clause-exact
returns-clause-exact c =
    IfOk-weaker c.verdict_of.result _ _ (λ v. verdict_is_exact (sequent_of c.args.sequent.now) c.args.steps.now v) c.verdict_of.ensures

pub returns-clause-only : goal.returns-clause-only
returns-clause-only c =
    IfOk-weaker c.verdict_of.result _ _ (λ v. verdict_is_only (sequent_of c.args.sequent.now) c.args.steps.now v) c.verdict_of.ensures
