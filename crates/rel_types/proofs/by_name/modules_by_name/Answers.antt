use Rattle.std.proofs.Common.{[], map, refl, sym, subst}
use Rattle.rel_lang.specs.Lookup.{modules_of}
use Rattle.rel_lang.specs.View.{item_of}
use Rattle.rel_types.specs.ByName.{Adds}
use Rattle.rel_types.specs.Known.{IsModuleSeen}
use Rattle.rel_types.proofs.Knowing.{adds_none, adds_next, adds_all, from_none}
use Rattle.rel_types.proofs.KnownItems.{modules_both}
use Rattle.rel_types.proofs.by_name.modules_by_name.Goals as goal

pub loop-item-init : goal.loop-item-init
loop-item-init c = subst (λ es. Adds IsModuleSeen (λ m. m.name) [] es []) (sym c.new-modules.ensures) (adds_none IsModuleSeen (λ m. m.name) [])

pub loop-item-preserved : goal.loop-item-preserved
loop-item-preserved c =
    adds_next IsModuleSeen (λ m. m.name) modules_of modules_both item_of [] c.loop-item.modules c.add_module.new.modules c.as_slice-item-items.result.now c.loop-item.item-index c.item-item.result
    c.loop-item-test.true c.item-item.is c.loop-item.invariant c.in_ok-add_module.ensures

pub returns : goal.returns
returns c =
    from_none IsModuleSeen (λ m. m.name) [] c.loop-item.modules (modules_of (map item_of c.args.items.now)) refl
    (adds_all IsModuleSeen (λ m. m.name) modules_of item_of [] c.loop-item.modules c.as_slice-item-items.result.now c.args.items.now c.loop-item.item-index
    c.loop-item-test.false c.as_slice-item-items.ensures c.loop-item.invariant)
