use Rattle.std.proofs.Common.{[], map, take}
use Rattle.rel_lang.specs.Lookup.{modules_of}
use Rattle.rel_lang.specs.View.{item_of}
use Rattle.rel_types.specs.ByName.{Adds}
use Rattle.rel_types.specs.Known.{IsModuleSeen}
use Rattle.rel_types.proofs.by_name.modules_by_name.Given as goal

abbrev pub invariant-loop-item : goal.invariant-loop-item
invariant-loop-item l = Adds IsModuleSeen (λ m. m.name) [] l.modules (modules_of (map item_of (take l.item-index l.item-items)))
