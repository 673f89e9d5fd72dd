use Rattle.std.proofs.Common.{◌≡◌, ap, sym, ◌∙◌, option_map}
use Rattle.std.proofs.lemmas.Result.{IfOk-weaker}
use Rattle.rel_lang.specs.View.{bicommand_of, biblock_of}
use Rattle.rel_flaws.specs.Alignments.{bicommand_fault, biblock_fault}
use Rattle.rel_flaws.specs.AlignmentView.{sides_of}
use Rattle.rel_flaws.specs.View.{tables_seen, pass_of, fault_of}
use Rattle.rel_flaws.proofs.BiFirsts.{biblock_some, biblock_more, biblock_none, biif_some, biif_none, in_biwhile}
use Rattle.rel_flaws.proofs.alignment.+biblock_fault.Goals as goal

pub biblock_fault-returns-in-Some-clause-fault : goal.biblock_fault-returns-in-Some-clause-fault
biblock_fault-returns-in-Some-clause-fault t c =
    let tables = tables_seen c.args.tables.now in
    let pass = pass_of c.args.pass in
    biblock_some tables pass (sides_of c.args.s.now) _ c.args.commands.now c.loop-command.command-index c.command-item.result _ (cc) c.loop-command-test.true c.command-item.is
    c.loop-command.invariant.none
    (sym (ap (option_map fault_of) c.in-Some.is) ∙ c.in_ok-fault.ensures.fault
    ∙ ap (λ k. bicommand_fault tables pass (sides_of k) (bicommand_of c.command-item.result)) c.loop-command.invariant.kept)

pub biblock_fault-loop-command-preserved : goal.biblock_fault-loop-command-preserved
biblock_fault-loop-command-preserved t c =
    let tables = tables_seen c.args.tables.now in
    let pass = pass_of c.args.pass in
    record {
      none = biblock_more tables pass (sides_of c.args.s.now) _ c.args.commands.now c.loop-command.command-index c.command-item.result (cc) c.loop-command-test.true c.command-item.is
          c.loop-command.invariant.none
          (sym (ap (option_map fault_of) c.in-None.is) ∙ c.in_ok-fault.ensures.fault
          ∙ ap (λ k. bicommand_fault tables pass (sides_of k) (bicommand_of c.command-item.result)) c.loop-command.invariant.kept);
      kept = c.in_ok-fault.ensures.sides ∙ c.loop-command.invariant.kept;
    }

pub biblock_fault-returns-clause-fault : goal.biblock_fault-returns-clause-fault
biblock_fault-returns-clause-fault t c =
    biblock_none (tables_seen c.args.tables.now) (pass_of c.args.pass) (sides_of c.args.s.now) _ c.args.commands.now c.loop-command.command-index (cc) c.loop-command-test.false
    c.loop-command.invariant.none

pub inner_bifault-returns-in-Some-clause-fault : goal.inner_bifault-returns-in-Some-clause-fault
inner_bifault-returns-in-Some-clause-fault t c =
    biif_some (tables_seen c.args.tables.now) (pass_of c.args.pass) (sides_of c.args.s.now) c.in-If.field-0 c.in-If.field-1 c.in-If.yes c.in-If.no c.args.form.now _ c.in-If.is
    (sym (ap (option_map fault_of) c.in-Some.is) ∙ c.in_ok-fault-in-If.ensures.fault)

pub inner_bifault-returns-in-None-clause-fault : goal.inner_bifault-returns-in-None-clause-fault
inner_bifault-returns-in-None-clause-fault t c =
    let tables = tables_seen c.args.tables.now in
    let pass = pass_of c.args.pass in
    let no = c.in-If.no in
    let same = ap (λ k. biblock_fault tables pass (sides_of k) (biblock_of no)) c.in_ok-fault-in-If.ensures.sides
    ∙ biif_none tables pass (sides_of c.args.s.now) c.in-If.field-0 c.in-If.field-1 c.in-If.yes no c.args.form.now c.in-If.is
    (sym (ap (option_map fault_of) c.in-None.is) ∙ c.in_ok-fault-in-If.ensures.fault) in
    IfOk-weaker c.biblock_fault-in-None.result
    (λ f. option_map fault_of f ≡ biblock_fault tables pass (sides_of c.biblock_fault.new.s) (biblock_of no)) _ (λ f e. e ∙ same) c.biblock_fault-in-None.ensures.fault

pub inner_bifault-returns-in-While-clause-fault : goal.inner_bifault-returns-in-While-clause-fault
inner_bifault-returns-in-While-clause-fault t c =
    let tables = tables_seen c.args.tables.now in
    let pass = pass_of c.args.pass in
    let same = in_biwhile tables pass (sides_of c.args.s.now) c.in-While.field-0 c.in-While.body c.args.form.now c.in-While.is in
    IfOk-weaker c.biblock_fault-in-While.result
    (λ f. option_map fault_of f ≡ biblock_fault tables pass (sides_of c.args.s.now) (biblock_of c.in-While.body)) _ (λ f e. e ∙ same) c.biblock_fault-in-While.ensures.fault
