use Rattle.std.proofs.Common.{◌≡◌, map, take}
use Rattle.rel_lang.specs.View.{place_of}
use Rattle.rel_types.specs.Items as items
use Rattle.rel_flaws.specs.View.{tables_seen, scope_of, flaws_of}
use Rattle.rel_types.proofs.items.flaws_of_places.Given as goal

abbrev pub invariant-loop-place : goal.invariant-loop-place
invariant-loop-place l =
    flaws_of l.flaws ≡ items.flaws_of_all (tables_seen l.tables) (items.flaws_of_place (tables_seen l.tables) (scope_of l.scope)) (map place_of (take l.place-index l.place-items))
