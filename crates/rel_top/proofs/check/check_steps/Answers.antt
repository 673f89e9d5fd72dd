use Rattle.rel_lang.specs.View.{bundle_of}
use Rattle.rel_straight.specs.declared.checker.Verdict.TheVariants.{Accepted, BadStep, OpenNodes}
use Rattle.rel_top.proofs.Verdicts.{three_items, steps_answer}
use Rattle.rel_top.proofs.check.check_steps.Goals as goal

pub accepted-requires : goal.accepted-requires
accepted-requires c = three_items c.args.bundle.now c.args.sequent.now c.requires.obligation

pub bad_step-requires : goal.bad_step-requires
bad_step-requires c = three_items c.args.bundle.now c.args.sequent.now c.requires.obligation

pub open_nodes-requires : goal.open_nodes-requires
open_nodes-requires c = three_items c.args.bundle.now c.args.sequent.now c.requires.obligation

pub returns-in_ok-accepted-in-Accepted : goal.returns-in_ok-accepted-in-Accepted
returns-in_ok-accepted-in-Accepted c =
    steps_answer (bundle_of c.args.bundle.now) c.args.sequent.now c.args.steps.now _ Accepted _ c.requires.obligation c.in_ok-accepts.ensures.verdict c.in-Accepted.is c.in_ok-accepted-in-Accepted.ensures

pub returns-in_ok-bad_step-in-BadStep : goal.returns-in_ok-bad_step-in-BadStep
returns-in_ok-bad_step-in-BadStep c =
    steps_answer (bundle_of c.args.bundle.now) c.args.sequent.now c.args.steps.now _ (BadStep c.in-BadStep.step) _ c.requires.obligation c.in_ok-accepts.ensures.verdict c.in-BadStep.is c.in_ok-bad_step-in-BadStep.ensures

pub returns-in_ok-open_nodes-in-OpenNodes : goal.returns-in_ok-open_nodes-in-OpenNodes
returns-in_ok-open_nodes-in-OpenNodes c =
    steps_answer (bundle_of c.args.bundle.now) c.args.sequent.now c.args.steps.now _ (OpenNodes c.in-OpenNodes.nodes) _ c.requires.obligation c.in_ok-accepts.ensures.verdict c.in-OpenNodes.is c.in_ok-open_nodes-in-OpenNodes.ensures
