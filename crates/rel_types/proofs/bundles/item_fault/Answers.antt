use Rattle.std.proofs.Common.{ap, ◌∙◌}
use Rattle.rel_flaws.specs.Inference.{is_among}
use Rattle.rel_flaws.specs.View.{pass_of}
use Rattle.rel_types.specs.Items.{twice_where}
use Rattle.rel_types.specs.Lookups.{names_in}
use Rattle.rel_types.proofs.ItemLoop.{of_class, of_interface, of_module, of_unit, of_client}
use Rattle.rel_types.proofs.bundles.item_fault.Goals as goal

pub returns-in_ok-class_fault-in-Class-clause-fault : goal.returns-in_ok-class_fault-in-Class-clause-fault
returns-in_ok-class_fault-in-Class-clause-fault c b k =
    of_class b c.args.known.now k (pass_of c.args.pass) (names_in c.args.seen.now) (names_in c.args.fields.now) c.args.item.now _
    (c.twice_where-more.ensures ∙ ap twice_where (c.is_named.ensures ∙ ap (λ x. is_among x (names_in c.args.seen.now)) c.name_of.ensures)) _
    c.in-Class.class c.in-Class.is c.in_ok-class_fault-in-Class.ensures.fault

pub returns-in_ok-interface_fault-in-Interface-clause-fault : goal.returns-in_ok-interface_fault-in-Interface-clause-fault
returns-in_ok-interface_fault-in-Interface-clause-fault c b k =
    of_interface b c.args.known.now k (pass_of c.args.pass) (names_in c.args.seen.now) (names_in c.args.fields.now) c.args.item.now _
    (c.twice_where-more.ensures ∙ ap twice_where (c.is_named.ensures ∙ ap (λ x. is_among x (names_in c.args.seen.now)) c.name_of.ensures)) _
    c.in-Interface.interface c.in-Interface.is c.in_ok-interface_fault-in-Interface.ensures

pub returns-in_ok-module_fault-in-Module-clause-fault : goal.returns-in_ok-module_fault-in-Module-clause-fault
returns-in_ok-module_fault-in-Module-clause-fault c b k =
    of_module b c.args.known.now k (pass_of c.args.pass) (names_in c.args.seen.now) (names_in c.args.fields.now) c.args.item.now _
    (c.twice_where-more.ensures ∙ ap twice_where (c.is_named.ensures ∙ ap (λ x. is_among x (names_in c.args.seen.now)) c.name_of.ensures)) _
    c.in-Module.module _ _ c.in-Module.is c.as_str.ensures c.find-interface.ensures c.in_ok-module_fault-in-Module.ensures

pub returns-in_ok-unit_fault-in-UnitItem-clause-fault : goal.returns-in_ok-unit_fault-in-UnitItem-clause-fault
returns-in_ok-unit_fault-in-UnitItem-clause-fault c b k =
    of_unit b c.args.known.now k (pass_of c.args.pass) (names_in c.args.seen.now) (names_in c.args.fields.now) c.args.item.now _
    (c.twice_where-more.ensures ∙ ap twice_where (c.is_named.ensures ∙ ap (λ x. is_among x (names_in c.args.seen.now)) c.name_of.ensures)) _
    c.in-UnitItem.unit c.in-UnitItem.is c.in_ok-unit_fault-in-UnitItem.ensures

pub returns-in_ok-client_fault-in-Client-clause-fault : goal.returns-in_ok-client_fault-in-Client-clause-fault
returns-in_ok-client_fault-in-Client-clause-fault c b k =
    of_client b c.args.known.now k (pass_of c.args.pass) (names_in c.args.seen.now) (names_in c.args.fields.now) c.args.item.now _
    (c.twice_where-more.ensures ∙ ap twice_where (c.is_named.ensures ∙ ap (λ x. is_among x (names_in c.args.seen.now)) c.name_of.ensures)) _
    c.in-Client.client _ _ c.in-Client.is c.as_str-in-Client.ensures c.find-interface-in-Client.ensures c.in_ok-client_fault-in-Client.ensures
