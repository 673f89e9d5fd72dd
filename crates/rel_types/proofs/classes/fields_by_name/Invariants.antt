use Rattle.std.proofs.Common.{[], map, take}
use Rattle.rel_lang.specs.State.{class_items, fields_of}
use Rattle.rel_lang.specs.View.{item_of}
use Rattle.rel_types.specs.ByName.{Adds, IsFieldSeen}
use Rattle.rel_types.proofs.classes.fields_by_name.Given as goal

abbrev pub invariant-loop-item : goal.invariant-loop-item
invariant-loop-item l = Adds IsFieldSeen (λ d. d.name) [] l.fields (fields_of (class_items (map item_of (take l.item-index l.item-items))))
