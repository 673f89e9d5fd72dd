use Rattle.std.proofs.Common.{None, option_map, sym, ap, ◌∙◌}
use Rattle.rel_lang.specs.View.{module_of}
use Rattle.rel_flaws.specs.View.{tables_seen, pass_of, fault_of}
use Rattle.rel_types.specs.Items.{signatures_of}
use Rattle.rel_types.specs.OwnView.{callees_in}
use Rattle.rel_types.proofs.Both.{some_first, none_first}
use Rattle.rel_types.proofs.SameMembers.{module_body_same}
use Rattle.rel_types.proofs.InModules.{body_setting}
use Rattle.rel_types.proofs.modules.bodies_fault.Goals as goal

pub returns-in-Some : goal.returns-in-Some
returns-in-Some c i given around =
    let m = module_of c.args.item.now in
    some_first _ _ _ (sym (ap (option_map fault_of) c.in-Some.is) ∙ c.in_ok-fault.ensures
    ∙ module_body_same _ _ (body_setting i m m.init.locals None c.args.around c.own_of_init.result around (c.own_of_init.ensures i))
    (tables_seen c.args.tables.now) (pass_of c.args.pass) (callees_in c.args.around) (signatures_of i) around.callees m.init)

pub returns-in_ok-fault-in-None : goal.returns-in_ok-fault-in-None
returns-in_ok-fault-in-None c i given around =
    let m = module_of c.args.item.now in
    none_first _ _ _ (sym (ap (option_map fault_of) c.in-None.is) ∙ c.in_ok-fault.ensures
    ∙ module_body_same _ _ (body_setting i m m.init.locals None c.args.around c.own_of_init.result around (c.own_of_init.ensures i))
    (tables_seen c.args.tables.now) (pass_of c.args.pass) (callees_in c.args.around) (signatures_of i) around.callees m.init)
    (c.in_ok-fault-in-None.ensures i m given around)
