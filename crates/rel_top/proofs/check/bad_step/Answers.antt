use Rattle.rel_top.proofs.Verdicts.{bad_step_answer}
use Rattle.rel_top.proofs.check.bad_step.Goals as goal

pub returns : goal.returns
returns c = bad_step_answer c.with_line.result _ c.with_line.ensures c.args.bundle.now c.at.result.now c.args.step c.requires c.at.ensures c.in_ok-line.ensures
