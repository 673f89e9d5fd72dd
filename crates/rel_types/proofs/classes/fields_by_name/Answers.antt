use Rattle.std.proofs.Common.{[], map, refl, sym, subst}
use Rattle.rel_lang.specs.State.{class_items, fields_of}
use Rattle.rel_lang.specs.View.{item_of}
use Rattle.rel_types.specs.ByName.{Adds, IsFieldSeen}
use Rattle.rel_types.proofs.Knowing.{adds_none, adds_next, adds_all, from_none}
use Rattle.rel_types.proofs.KnownItems.{class_fields_both}
use Rattle.rel_types.proofs.classes.fields_by_name.Goals as goal

pub loop-item-init : goal.loop-item-init
loop-item-init c = subst (λ es. Adds IsFieldSeen (λ d. d.name) [] es []) (sym c.new-fields.ensures) (adds_none IsFieldSeen (λ d. d.name) [])

pub loop-item-preserved : goal.loop-item-preserved
loop-item-preserved c =
    adds_next IsFieldSeen (λ d. d.name) (λ is. fields_of (class_items is)) class_fields_both item_of [] c.loop-item.fields c.add_fields_of.new.fields c.as_slice-item-items.result.now
    c.loop-item.item-index c.item-item.result c.loop-item-test.true c.item-item.is c.loop-item.invariant c.in_ok-add_fields_of.ensures

pub returns : goal.returns
returns c =
    from_none IsFieldSeen (λ d. d.name) [] c.loop-item.fields (fields_of (class_items (map item_of c.args.items.now))) refl
    (adds_all IsFieldSeen (λ d. d.name) (λ is. fields_of (class_items is)) item_of [] c.loop-item.fields c.as_slice-item-items.result.now c.args.items.now c.loop-item.item-index
    c.loop-item-test.false c.as_slice-item-items.ensures c.loop-item.invariant)
