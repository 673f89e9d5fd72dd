use Rattle.std.proofs.Common.{option_map, sym, ap, ◌∙◌}
use Rattle.rel_lang.specs.Scope.{module_globals, globals_of}
use Rattle.rel_lang.specs.State.{ByModule, Scope}
use Rattle.rel_lang.specs.View.{module_of}
use Rattle.rel_flaws.specs.View.{fault_of, variables_seen, layers_seen}
use Rattle.rel_types.specs.Items.{init_in_module, globals_of_interface}
use Rattle.rel_types.specs.Lookups.{SameLookups}
use Rattle.rel_types.proofs.Both.{some_first, none_first}
use Rattle.rel_types.proofs.Heads.{seen_same}
use Rattle.rel_types.proofs.Lookups.{same_after}
use Rattle.rel_types.proofs.InModules.{declared_alone, given_callees}
use Rattle.rel_types.proofs.modules.inside_fault.Goals as goal

pub returns-in-Some : goal.returns-in-Some
returns-in-Some c i given =
    let m = module_of c.args.item.now in
    let own = declared_alone (ByModule m.name) m.globals c.add_all.new.index c.new-own.result c.new-own.ensures c.in_ok-add_all.ensures in
    some_first _ _ _ (sym (ap (option_map fault_of) c.in-Some.is) ∙ c.in_ok-fault.ensures (globals_of (init_in_module i m))
    (seen_same _ _ _ c.alone-seen.ensures
    (same_after (variables_seen c.args.given.now.globals) (variables_seen c.add_all.new.index) (globals_of_interface i) (module_globals m) given.globals own)))

pub returns : goal.returns
returns c i given =
    let m = module_of c.args.item.now in
    let own = declared_alone (ByModule m.name) m.globals c.add_all.new.index c.new-own.result c.new-own.ensures c.in_ok-add_all.ensures in
    none_first _ _ _ (sym (ap (option_map fault_of) c.in-None.is) ∙ c.in_ok-fault.ensures (globals_of (init_in_module i m))
    (seen_same _ _ _ c.alone-seen.ensures
    (same_after (variables_seen c.args.given.now.globals) (variables_seen c.add_all.new.index) (globals_of_interface i) (module_globals m) given.globals own)))
    (c.in_ok-fault-in-None.ensures i given (record {
      interface = given.globals;
      own = own;
      callees = given_callees c.args.given.now c.args.none.now c.requires i given;
    }))
