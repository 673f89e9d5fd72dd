use Rattle.std.proofs.Common.{[], map, refl, sym, subst}
use Rattle.rel_lang.specs.Lookup.{interfaces_of}
use Rattle.rel_lang.specs.View.{item_of}
use Rattle.rel_types.specs.ByName.{Adds}
use Rattle.rel_types.specs.Known.{IsInterfaceSeen}
use Rattle.rel_types.proofs.Knowing.{adds_none, adds_next, adds_all, from_none}
use Rattle.rel_types.proofs.KnownItems.{interfaces_both}
use Rattle.rel_types.proofs.by_name.interfaces_by_name.Goals as goal

pub loop-item-init : goal.loop-item-init
loop-item-init c = subst (λ es. Adds IsInterfaceSeen (λ i. i.name) [] es []) (sym c.new-interfaces.ensures) (adds_none IsInterfaceSeen (λ i. i.name) [])

pub loop-item-preserved : goal.loop-item-preserved
loop-item-preserved c =
    adds_next IsInterfaceSeen (λ i. i.name) interfaces_of interfaces_both item_of [] c.loop-item.interfaces c.add_interface.new.interfaces c.as_slice-item-items.result.now c.loop-item.item-index c.item-item.result
    c.loop-item-test.true c.item-item.is c.loop-item.invariant c.in_ok-add_interface.ensures

pub returns : goal.returns
returns c =
    from_none IsInterfaceSeen (λ i. i.name) [] c.loop-item.interfaces (interfaces_of (map item_of c.args.items.now)) refl
    (adds_all IsInterfaceSeen (λ i. i.name) interfaces_of item_of [] c.loop-item.interfaces c.as_slice-item-items.result.now c.args.items.now c.loop-item.item-index
    c.loop-item-test.false c.as_slice-item-items.ensures c.loop-item.invariant)
