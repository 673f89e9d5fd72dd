use Rattle.std.proofs.Common.{map, ◌∙◌}
use Rattle.rel_lang.specs.Lookup.{find_method}
use Rattle.rel_lang.specs.View.{decl_of, body_of}
use Rattle.rel_flaws.specs.View.{tables_seen, pass_of}
use Rattle.rel_types.specs.Items.{methods_of_interface, signatures_of}
use Rattle.rel_types.specs.OwnView.{callees_in}
use Rattle.rel_types.proofs.SameMembers.{module_body_same}
use Rattle.rel_types.proofs.InModules.{body_setting}
use Rattle.rel_types.proofs.modules.method_fault.Goals as goal

pub returns : goal.returns
returns c i m given around =
    c.in_ok-fault.ensures
    ∙ module_body_same _ _ (body_setting i m (map decl_of c.args.body.now.locals) (find_method c.args.name.now (methods_of_interface i)) c.args.around c.own_of_method-own.result around
    (c.own_of_method-own.ensures i m given)) (tables_seen c.args.tables.now) (pass_of c.args.pass) (callees_in c.args.around) (signatures_of i) around.callees (body_of c.args.body.now)
