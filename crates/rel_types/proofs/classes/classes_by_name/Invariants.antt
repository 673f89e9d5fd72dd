use Rattle.std.proofs.Common.{map, take}
use Rattle.rel_lang.specs.View.{item_of}
use Rattle.rel_types.specs.ByName.{AreCounted, class_names}
use Rattle.rel_types.proofs.classes.classes_by_name.Given as goal

abbrev pub invariant-loop-item : goal.invariant-loop-item
invariant-loop-item l = AreCounted (class_names (map item_of (take l.item-index l.item-items))) l.classes l.count
