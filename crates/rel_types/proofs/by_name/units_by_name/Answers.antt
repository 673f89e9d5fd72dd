use Rattle.std.proofs.Common.{[], map, refl, sym, subst}
use Rattle.rel_lang.specs.Lookup.{units_of}
use Rattle.rel_lang.specs.View.{item_of}
use Rattle.rel_types.specs.ByName.{Adds}
use Rattle.rel_types.specs.Known.{IsUnitSeen}
use Rattle.rel_types.proofs.Knowing.{adds_none, adds_next, adds_all, from_none}
use Rattle.rel_types.proofs.KnownItems.{units_both}
use Rattle.rel_types.proofs.by_name.units_by_name.Goals as goal

pub loop-item-init : goal.loop-item-init
loop-item-init c = subst (λ es. Adds IsUnitSeen (λ u. u.name) [] es []) (sym c.new-units.ensures) (adds_none IsUnitSeen (λ u. u.name) [])

pub loop-item-preserved : goal.loop-item-preserved
loop-item-preserved c =
    adds_next IsUnitSeen (λ u. u.name) units_of units_both item_of [] c.loop-item.units c.add_unit.new.units c.as_slice-item-items.result.now c.loop-item.item-index c.item-item.result
    c.loop-item-test.true c.item-item.is c.loop-item.invariant c.in_ok-add_unit.ensures

pub returns : goal.returns
returns c =
    from_none IsUnitSeen (λ u. u.name) [] c.loop-item.units (units_of (map item_of c.args.items.now)) refl
    (adds_all IsUnitSeen (λ u. u.name) units_of item_of [] c.loop-item.units c.as_slice-item-items.result.now c.args.items.now c.loop-item.item-index
    c.loop-item-test.false c.as_slice-item-items.ensures c.loop-item.invariant)
