use Rattle.std.proofs.Common.{◌≡◌, ap, sym, ◌∙◌, option_map}
use Rattle.std.proofs.lemmas.Result.{IfOk-weaker}
use Rattle.rel_lang.specs.View.{command_of, block_of}
use Rattle.rel_flaws.specs.Code.{command_fault, block_fault}
use Rattle.rel_flaws.specs.CodeView.{code_of}
use Rattle.rel_flaws.specs.View.{tables_seen, pass_of, fault_of}
use Rattle.rel_flaws.proofs.Firsts.{block_some, block_more, block_none, if_some, if_none, in_while}
use Rattle.rel_flaws.proofs.block.+block_fault.Goals as goal

pub block_fault-returns-in-Some-clause-fault : goal.block_fault-returns-in-Some-clause-fault
block_fault-returns-in-Some-clause-fault t c =
    let tables = tables_seen c.args.tables.now in
    let pass = pass_of c.args.pass in
    block_some tables pass (code_of c.args.code.now) _ c.args.commands.now c.loop-command.command-index c.command-item.result _ (cc) c.loop-command-test.true c.command-item.is
    c.loop-command.invariant.none
    (sym (ap (option_map fault_of) c.in-Some.is) ∙ c.in_ok-fault.ensures.fault
    ∙ ap (λ k. command_fault tables pass (code_of k) (command_of c.command-item.result)) c.loop-command.invariant.kept)

pub block_fault-loop-command-preserved : goal.block_fault-loop-command-preserved
block_fault-loop-command-preserved t c =
    let tables = tables_seen c.args.tables.now in
    let pass = pass_of c.args.pass in
    record {
      none = block_more tables pass (code_of c.args.code.now) _ c.args.commands.now c.loop-command.command-index c.command-item.result (cc) c.loop-command-test.true c.command-item.is
          c.loop-command.invariant.none
          (sym (ap (option_map fault_of) c.in-None.is) ∙ c.in_ok-fault.ensures.fault
          ∙ ap (λ k. command_fault tables pass (code_of k) (command_of c.command-item.result)) c.loop-command.invariant.kept);
      kept = c.in_ok-fault.ensures.code ∙ c.loop-command.invariant.kept;
    }

pub block_fault-returns-clause-fault : goal.block_fault-returns-clause-fault
block_fault-returns-clause-fault t c =
    block_none (tables_seen c.args.tables.now) (pass_of c.args.pass) (code_of c.args.code.now) _ c.args.commands.now c.loop-command.command-index (cc) c.loop-command-test.false
    c.loop-command.invariant.none

pub inner_fault-returns-in-Some-clause-fault : goal.inner_fault-returns-in-Some-clause-fault
inner_fault-returns-in-Some-clause-fault t c =
    if_some (tables_seen c.args.tables.now) (pass_of c.args.pass) (code_of c.args.code.now) c.in-If.field-0 c.in-If.yes c.in-If.no c.args.form.now _ c.in-If.is
    (sym (ap (option_map fault_of) c.in-Some.is) ∙ c.in_ok-fault-in-If.ensures.fault)

pub inner_fault-returns-in-None-clause-fault : goal.inner_fault-returns-in-None-clause-fault
inner_fault-returns-in-None-clause-fault t c =
    let tables = tables_seen c.args.tables.now in
    let pass = pass_of c.args.pass in
    let no = c.in-If.no in
    let same = ap (λ k. block_fault tables pass (code_of k) (block_of no)) c.in_ok-fault-in-If.ensures.code
    ∙ if_none tables pass (code_of c.args.code.now) c.in-If.field-0 c.in-If.yes no c.args.form.now c.in-If.is
    (sym (ap (option_map fault_of) c.in-None.is) ∙ c.in_ok-fault-in-If.ensures.fault) in
    IfOk-weaker c.block_fault-in-None.result
    (λ f. option_map fault_of f ≡ block_fault tables pass (code_of c.block_fault.new.code) (block_of no)) _ (λ f e. e ∙ same) c.block_fault-in-None.ensures.fault

pub inner_fault-returns-in-While-clause-fault : goal.inner_fault-returns-in-While-clause-fault
inner_fault-returns-in-While-clause-fault t c =
    let tables = tables_seen c.args.tables.now in
    let pass = pass_of c.args.pass in
    let same = in_while tables pass (code_of c.args.code.now) c.in-While.field-0 c.in-While.field-1 c.in-While.body c.args.form.now c.in-While.is in
    IfOk-weaker c.block_fault-in-While.result
    (λ f. option_map fault_of f ≡ block_fault tables pass (code_of c.args.code.now) (block_of c.in-While.body)) _ (λ f e. e ∙ same) c.block_fault-in-While.ensures.fault
