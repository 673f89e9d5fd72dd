use Rattle.std.proofs.Common.{◌≡◌, [], map, drop}
use Rattle.rel_flaws.specs.View.{pass_of}
use Rattle.rel_lang.specs.Syntax.{Bundle}
use Rattle.rel_lang.specs.View.{item_of}
use Rattle.rel_types.specs.Items as definition
use Rattle.rel_types.specs.Known.{IsKnown}
use Rattle.rel_types.specs.Lookups.{names_in}
use Rattle.rel_types.proofs.bundles.items_fault.Given as goal

abbrev pub invariant-loop-item : goal.invariant-loop-item
invariant-loop-item l =
    (b : Bundle) → IsKnown b l.known → definition.items_fault b (pass_of l.pass) [] [] (map item_of l.items)
    ≡ definition.items_fault b (pass_of l.pass) (names_in l.seen) (names_in l.fields) (map item_of (drop l.item-index l.items))
