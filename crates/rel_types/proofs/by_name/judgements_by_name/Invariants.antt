use Rattle.std.proofs.Common.{[], map, take}
use Rattle.rel_lang.specs.Lookup.{judgements_of}
use Rattle.rel_lang.specs.View.{item_of}
use Rattle.rel_types.specs.ByName.{Adds, IsAbout}
use Rattle.rel_types.proofs.by_name.judgements_by_name.Given as goal

abbrev pub invariant-loop-item : goal.invariant-loop-item
invariant-loop-item l = Adds IsAbout (λ j. j.name) [] l.judgements (judgements_of (map item_of (take l.item-index l.item-items)))
