use Rattle.std.proofs.Common.{ap, sym, ◌∙◌, option_map, Option}
use Rattle.rel_lang.specs.Syntax.{Proc}
use Rattle.rel_lang.specs.View.{proc_of}
use Rattle.rel_flaws.specs.Flaws.{Flaws, Fault}
use Rattle.rel_flaws.specs.View.{tables_seen, pass_of, fault_of}
use Rattle.rel_types.specs.Items.{proc_fault}
use Rattle.rel_types.specs.Lookups.{names_in}
use Rattle.rel_types.specs.OwnView.{proc_setting, callees_in}
use Rattle.rel_types.proofs.Named.{told, told_asks, is_told, named_here, named_next}
use Rattle.rel_types.proofs.units.procs_fault.Goals as goal

pub returns-in-Some : goal.returns-in-Some
returns-in-Some c =
    let fault : Flaws → Proc → Option Fault = λ more q. proc_fault (tables_seen c.args.tables.now) (pass_of c.args.pass) (proc_setting c.args.around.globals q) (callees_in c.args.around) more q in
    let item = c.proc-item.result in
    let seen = names_in c.loop-proc.seen in
    named_here (λ q. q.name) (told (λ q. q.name) fault) (told_asks (λ q. q.name) fault) proc_of _ _ seen c.as_slice-proc-items.result.now c.loop-proc.proc-index item
    c.loop-proc-test.true c.proc-item.is c.loop-proc.invariant
    (sym (ap (option_map fault_of) c.in-Some.is)
    ∙ is_told (λ q. q.name) fault _ _ _ _ seen (proc_of item) c.in_ok-fault.ensures c.none.ensures c.in_ok-add_name.ensures.was_there c.as_str.ensures)

pub loop-proc-preserved : goal.loop-proc-preserved
loop-proc-preserved c =
    let fault : Flaws → Proc → Option Fault = λ more q. proc_fault (tables_seen c.args.tables.now) (pass_of c.args.pass) (proc_setting c.args.around.globals q) (callees_in c.args.around) more q in
    let item = c.proc-item.result in
    let seen = names_in c.loop-proc.seen in
    named_next (λ q. q.name) (told (λ q. q.name) fault) (told_asks (λ q. q.name) fault) proc_of _ seen (names_in c.add_name.new.names) c.as_slice-proc-items.result.now c.loop-proc.proc-index item
    c.as_str.result.now c.loop-proc-test.true c.proc-item.is c.loop-proc.invariant
    (sym (ap (option_map fault_of) c.in-None.is)
    ∙ is_told (λ q. q.name) fault _ _ _ _ seen (proc_of item) c.in_ok-fault.ensures c.none.ensures c.in_ok-add_name.ensures.was_there c.as_str.ensures)
    c.as_str.ensures c.in_ok-add_name.ensures.added
