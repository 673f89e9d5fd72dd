use Rattle.std.proofs.Common.{◌∷◌, option_map, sym, ap, subst, ◌∙◌}
use Rattle.rel_lang.specs.View.{proc_of}
use Rattle.rel_flaws.specs.Inference.{is_among}
use Rattle.rel_flaws.specs.View.{tables_seen, pass_of, fault_of}
use Rattle.rel_types.specs.ClientView.{fault_of_proc}
use Rattle.rel_types.specs.Lookups.{SameNames, names_in}
use Rattle.rel_types.proofs.InClients.{proc_alike, some_named, none_named, ends_named}
use Rattle.rel_types.proofs.clients.procs_fault.Goals as goal

pub returns-in-Some : goal.returns-in-Some
returns-in-Some c i k around =
    let tables = tables_seen c.args.tables.now in
    let pass = pass_of c.args.pass in
    let names = names_in c.loop-proc.names in
    some_named (λ q. q.name) (fault_of_proc tables pass i k) proc_of (proc_alike tables pass i k) _ names c.as_slice-proc-items.result.now c.loop-proc.proc-index
    c.proc-item.result (fault_of c.in-Some.fault) c.loop-proc-test.true c.proc-item.is (c.loop-proc.invariant i k around)
    (sym (ap (option_map fault_of) c.in-Some.is)
    ∙ c.in_ok-fault.ensures i k names around (c.in_ok-was_there.ensures.was_there ∙ ap (λ x. is_among x names) c.as_str.ensures))

pub loop-proc-preserved : goal.loop-proc-preserved
loop-proc-preserved c i k around =
    let tables = tables_seen c.args.tables.now in
    let pass = pass_of c.args.pass in
    let names = names_in c.loop-proc.names in
    none_named (λ q. q.name) (fault_of_proc tables pass i k) proc_of (proc_alike tables pass i k) _ names (names_in c.add_name.new.names) c.as_slice-proc-items.result.now
    c.loop-proc.proc-index c.proc-item.result c.loop-proc-test.true c.proc-item.is (c.loop-proc.invariant i k around)
    (sym (ap (option_map fault_of) c.in-None.is)
    ∙ c.in_ok-fault.ensures i k names around (c.in_ok-was_there.ensures.was_there ∙ ap (λ x. is_among x names) c.as_str.ensures))
    (subst (λ x. SameNames (names_in c.add_name.new.names) (x ∷ names)) c.as_str.ensures c.in_ok-was_there.ensures.added)

pub returns : goal.returns
returns c i k around =
    let tables = tables_seen c.args.tables.now in
    let pass = pass_of c.args.pass in
    ends_named (λ q. q.name) (fault_of_proc tables pass i k) proc_of (proc_alike tables pass i k) _ (names_in c.loop-proc.names) c.as_slice-proc-items.result.now
    c.loop-proc.proc-index c.loop-proc-test.false (c.loop-proc.invariant i k around)
