use Rattle.std.proofs.Common.{[], map, take}
use Rattle.rel_lang.specs.Lookup.{interfaces_of}
use Rattle.rel_lang.specs.View.{item_of}
use Rattle.rel_types.specs.ByName.{Adds}
use Rattle.rel_types.specs.Known.{IsInterfaceSeen}
use Rattle.rel_types.proofs.by_name.interfaces_by_name.Given as goal

abbrev pub invariant-loop-item : goal.invariant-loop-item
invariant-loop-item l = Adds IsInterfaceSeen (λ i. i.name) [] l.interfaces (interfaces_of (map item_of (take l.item-index l.item-items)))
