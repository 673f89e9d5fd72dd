use Rattle.std.proofs.Common.{map, refl, ap, ◌∙◌}
use Rattle.rel_lang.specs.Typed.{signature_of_proc}
use Rattle.rel_lang.specs.View.{proc_of}
use Rattle.rel_flaws.specs.CodeView.{callees_seen}
use Rattle.rel_flaws.specs.View.{tables_seen, pass_of, flaws_of}
use Rattle.rel_types.specs.Items.{signatures_of, setting_in_client, callees_in_client, proc_fault}
use Rattle.rel_types.specs.OwnView.{proc_setting, callees_in}
use Rattle.rel_types.proofs.Calling.{callees_after}
use Rattle.rel_types.proofs.SameMembers.{proc_same}
use Rattle.rel_types.proofs.clients.client_proc_fault.Goals as goal

pub returns : goal.returns
returns c i k names around before =
    let tables = tables_seen c.args.tables.now in
    let pass = pass_of c.args.pass in
    let q = proc_of c.args.proc.now in
    c.in_ok-fault.ensures
    ∙ proc_same (proc_setting c.args.around.globals q) (setting_in_client i k q)
    (record { interface = around.interface; own = around.own; parameters = refl; locals = refl; result = refl }) tables pass (callees_in c.args.around) (callees_in_client i k)
    (callees_after (callees_seen c.args.around.procs.now) (callees_seen c.args.around.methods.now) (map signature_of_proc k.procs) (signatures_of i) around.procs around.methods)
    (flaws_of c.flaws_of_proc-flaws.result) q
    ∙ ap (λ more. proc_fault tables pass (setting_in_client i k q) (callees_in_client i k) more q) (c.flaws_of_proc-flaws.ensures i names around.methods before)
