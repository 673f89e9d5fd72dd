use Rattle.rel_lang.specs.View.{bundle_of}
use Rattle.rel_judge.proofs.Verdicts.{told_accepted, told_bad_step, told_open_nodes}
use Rattle.rel_judge.proofs.verdict.told.Goals as goal

pub returns-in_ok-counts-in-Accepted : goal.returns-in_ok-counts-in-Accepted
returns-in_ok-counts-in-Accepted c = told_accepted (bundle_of c.args.bundle.now) c.args.outcome _ c.in-Accepted.is c.in_ok-counts-in-Accepted.ensures

pub returns-in-BadStep : goal.returns-in-BadStep
returns-in-BadStep c = told_bad_step (bundle_of c.args.bundle.now) c.args.outcome _ _ c.in-BadStep.is c.place-at.ensures

pub returns-in-OpenNodes : goal.returns-in-OpenNodes
returns-in-OpenNodes c = told_open_nodes (bundle_of c.args.bundle.now) c.args.outcome _ _ c.in-OpenNodes.is c.place-at.ensures
