use Rattle.std.proofs.Common.{[], map, refl, sym, subst}
use Rattle.rel_lang.specs.Lookup.{judgements_of}
use Rattle.rel_lang.specs.View.{item_of}
use Rattle.rel_types.specs.ByName.{Adds, IsAbout}
use Rattle.rel_types.proofs.Knowing.{adds_none, adds_next, adds_all, from_none}
use Rattle.rel_types.proofs.KnownItems.{judgements_both}
use Rattle.rel_types.proofs.by_name.judgements_by_name.Goals as goal

pub loop-item-init : goal.loop-item-init
loop-item-init c = subst (λ es. Adds IsAbout (λ j. j.name) [] es []) (sym c.new-judgements.ensures) (adds_none IsAbout (λ j. j.name) [])

pub loop-item-preserved : goal.loop-item-preserved
loop-item-preserved c =
    adds_next IsAbout (λ j. j.name) judgements_of judgements_both item_of [] c.loop-item.judgements c.add_judgement.new.judgements c.as_slice-item-items.result.now c.loop-item.item-index c.item-item.result
    c.loop-item-test.true c.item-item.is c.loop-item.invariant c.in_ok-add_judgement.ensures

pub returns : goal.returns
returns c =
    from_none IsAbout (λ j. j.name) [] c.loop-item.judgements (judgements_of (map item_of c.args.items.now)) refl
    (adds_all IsAbout (λ j. j.name) judgements_of item_of [] c.loop-item.judgements c.as_slice-item-items.result.now c.args.items.now c.loop-item.item-index
    c.loop-item-test.false c.as_slice-item-items.ensures c.loop-item.invariant)
