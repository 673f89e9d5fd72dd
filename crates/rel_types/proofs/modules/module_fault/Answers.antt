use Rattle.std.proofs.Common.{option_map, sym, ap, ◌∙◌}
use Rattle.rel_flaws.specs.Flaws.{fault_at, either}
use Rattle.rel_flaws.specs.View.{flaws_of, fault_of, pass_of}
use Rattle.rel_types.proofs.Both.{some_first, none_first}
use Rattle.rel_types.proofs.InModules.{unwrapped}
use Rattle.rel_types.proofs.modules.module_fault.Goals as goal

pub returns-in-Some : goal.returns-in-Some
returns-in-Some c i seen =
    let given = unwrapped i c.args.interface _ _ c.unwrap_or-given.ensures c.no_interface-none.ensures seen in
    some_first _ _ _ (sym (ap (option_map fault_of) c.in-Some.is) ∙ c.fault.ensures
    ∙ ap (fault_at (pass_of c.args.pass) c.args.item.now.at) (c.either.ensures ∙ ap (either (flaws_of c.args.more)) (c.in_ok-flaws.ensures i given seen)))

pub returns : goal.returns
returns c i seen =
    let given = unwrapped i c.args.interface _ _ c.unwrap_or-given.ensures c.no_interface-none.ensures seen in
    none_first _ _ _ (sym (ap (option_map fault_of) c.in-None.is) ∙ c.fault.ensures
    ∙ ap (fault_at (pass_of c.args.pass) c.args.item.now.at) (c.either.ensures ∙ ap (either (flaws_of c.args.more)) (c.in_ok-flaws.ensures i given seen)))
    (c.in_ok-fault-in-None.ensures i given)
