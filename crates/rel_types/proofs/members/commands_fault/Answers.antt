use Rattle.std.proofs.Common.{refl, ◌∙◌}
use Rattle.rel_lang.specs.Scope.{body_scope}
use Rattle.rel_lang.specs.View.{block_of}
use Rattle.rel_flaws.specs.Code.{Code}
use Rattle.rel_flaws.specs.View.{tables_seen, scope_of, layers_seen, pass_of}
use Rattle.rel_types.specs.OwnView.{setting_of, callees_in}
use Rattle.rel_types.proofs.Heads.{seen_same}
use Rattle.rel_types.proofs.Knowledge.{block_same}
use Rattle.rel_types.proofs.members.commands_fault.Goals as goal

pub returns : goal.returns
returns c o h =
    let scope = body_scope (setting_of c.args.around.globals o) in
    let callees = callees_in c.args.around in
    let code : Code = record { scope = scope_of c.new.result; callees = callees; may_call = c.args.may_call } in
    c.in_ok-fault.ensures.fault
    ∙ block_same (tables_seen c.args.tables.now) (pass_of c.args.pass) code (record { scope = scope; callees = callees; may_call = c.args.may_call })
    (record { scope = seen_same (scope_of c.new.result) (layers_seen c.body.result) scope c.new.ensures (c.body.ensures o h); callees = λ p. refl; may_call = refl })
    (block_of c.args.commands.now)
