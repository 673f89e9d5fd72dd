use Rattle.std.proofs.Common.{map, take, refl, ap, ◌∙◌, subst}
use Rattle.std.proofs.lemmas.List.{take_all}
use Rattle.rel_lang.specs.View.{item_of}
use Rattle.rel_flaws.specs.Entries.{find_entry}
use Rattle.rel_types.specs.ByName.{AreNumbered, AreCounted, class_names}
use Rattle.rel_types.proofs.Knowing.{gives_next}
use Rattle.rel_types.proofs.KnownItems.{class_names_both}
use Rattle.rel_types.proofs.classes.classes_by_name.Goals as goal

pub loop-item-init : goal.loop-item-init
loop-item-init c = record { numbers = λ x. ap (find_entry x) c.new-classes.ensures; count = refl }

pub loop-item-preserved : goal.loop-item-preserved
loop-item-preserved c =
    subst (λ names. AreCounted names c.add_class.new.classes c.in_ok-count.count)
    (gives_next class_names class_names_both item_of c.as_slice-item-items.result.now c.loop-item.item-index c.item-item.result c.loop-item-test.true c.item-item.is)
    (c.in_ok-count.ensures (class_names (map item_of (take c.loop-item.item-index c.as_slice-item-items.result.now))) c.loop-item.invariant)

pub returns : goal.returns
returns c =
    let all = take_all c.loop-item.item-index c.as_slice-item-items.result.now c.loop-item-test.false ∙ c.as_slice-item-items.ensures in
    subst (λ items. AreNumbered (class_names (map item_of items)) c.loop-item.classes) all c.loop-item.invariant.numbers
