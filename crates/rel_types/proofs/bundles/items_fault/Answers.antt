use Rattle.std.proofs.Common.{sym, ap, option_map, ◌∙◌, [], map}
use Rattle.rel_flaws.specs.View.{pass_of, fault_of}
use Rattle.rel_lang.specs.View.{item_of}
use Rattle.rel_types.specs.Items as definition
use Rattle.rel_types.specs.Lookups.{names_in}
use Rattle.rel_types.proofs.ItemLoop.{item_here, item_passed, none_left}
use Rattle.rel_types.proofs.bundles.items_fault.Goals as goal

pub loop-item-preserved : goal.loop-item-preserved
loop-item-preserved c b k =
    item_passed b (pass_of c.args.pass) _ c.args.items.now c.loop-item.item-index c.item-item.result (cc) c.loop-item-test.true c.item-item.is
    (definition.items_fault b (pass_of c.args.pass) [] [] (map item_of c.args.items.now))
    (names_in c.loop-item.seen) (names_in c.loop-item.fields) (names_in c.add_name.new.names) (names_in c.item_fault.new.fields) c.name_of.result.now
    (c.loop-item.invariant b k) (sym (ap (option_map fault_of) c.in-None.is) ∙ c.in_ok-fault.ensures.fault b k)
    c.name_of.ensures c.in_ok-add_name.ensures.added c.in_ok-fault.ensures.added

pub returns-in-Some : goal.returns-in-Some
returns-in-Some c b k =
    item_here b (pass_of c.args.pass) _ c.args.items.now c.loop-item.item-index c.item-item.result (cc) c.loop-item-test.true c.item-item.is
    (definition.items_fault b (pass_of c.args.pass) [] [] (map item_of c.args.items.now)) (names_in c.loop-item.seen) (names_in c.loop-item.fields) _
    (c.loop-item.invariant b k) (sym (ap (option_map fault_of) c.in-Some.is) ∙ c.in_ok-fault.ensures.fault b k)

pub returns : goal.returns
returns c b k =
    none_left b (pass_of c.args.pass) (definition.items_fault b (pass_of c.args.pass) [] [] (map item_of c.args.items.now)) (names_in c.loop-item.seen) (names_in c.loop-item.fields)
    _ c.args.items.now c.loop-item.item-index (cc) c.loop-item-test.false (c.loop-item.invariant b k)
