use Rattle.std.proofs.Common.{ap, sym, ◌∙◌, option_map}
use Rattle.rel_lang.specs.View.{act_of}
use Rattle.rel_flaws.specs.Alignments.{flaws_of_act}
use Rattle.rel_flaws.specs.AlignmentView.{sides_of}
use Rattle.rel_flaws.specs.Flaws.{fault_at}
use Rattle.rel_flaws.specs.View.{tables_seen, pass_of, fault_of}
use Rattle.rel_flaws.proofs.BiFirsts.{steps_some, steps_more, steps_none}
use Rattle.rel_flaws.proofs.alignment.steps_fault.Goals as goal

pub returns-in-Some-clause-fault : goal.returns-in-Some-clause-fault
returns-in-Some-clause-fault c =
    let tables = tables_seen c.args.tables.now in
    let pass = pass_of c.args.pass in
    steps_some tables pass (sides_of c.args.s.now) _ c.args.steps.now c.loop-step.step-index c.step-item.result _ (cc) c.loop-step-test.true c.step-item.is
    c.loop-step.invariant.none
    (sym (ap (option_map fault_of) c.in-Some.is) ∙ c.fault.ensures ∙ ap (fault_at pass c.step-item.result.at) c.in_ok-flaws_of_act.ensures.flaws
    ∙ ap (λ k. fault_at pass c.step-item.result.at (flaws_of_act tables (sides_of k) (act_of c.step-item.result.act))) c.loop-step.invariant.kept)

pub loop-step-preserved : goal.loop-step-preserved
loop-step-preserved c =
    let tables = tables_seen c.args.tables.now in
    let pass = pass_of c.args.pass in
    record {
      none = steps_more tables pass (sides_of c.args.s.now) _ c.args.steps.now c.loop-step.step-index c.step-item.result (cc) c.loop-step-test.true c.step-item.is
          c.loop-step.invariant.none
          (sym (ap (option_map fault_of) c.in-None.is) ∙ c.fault.ensures ∙ ap (fault_at pass c.step-item.result.at) c.in_ok-flaws_of_act.ensures.flaws
          ∙ ap (λ k. fault_at pass c.step-item.result.at (flaws_of_act tables (sides_of k) (act_of c.step-item.result.act))) c.loop-step.invariant.kept);
      kept = c.in_ok-flaws_of_act.ensures.sides ∙ c.loop-step.invariant.kept;
    }

pub returns-clause-fault : goal.returns-clause-fault
returns-clause-fault c =
    steps_none (tables_seen c.args.tables.now) (pass_of c.args.pass) (sides_of c.args.s.now) _ c.args.steps.now c.loop-step.step-index (cc) c.loop-step-test.false
    c.loop-step.invariant.none
