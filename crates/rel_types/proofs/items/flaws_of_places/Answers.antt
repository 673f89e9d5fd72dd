use Rattle.std.proofs.Common.{ap₂, ◌∙◌}
use Rattle.rel_lang.specs.View.{place_of}
use Rattle.rel_flaws.specs.Flaws.{either}
use Rattle.rel_types.specs.Items as items
use Rattle.rel_flaws.specs.View.{tables_seen, scope_of}
use Rattle.rel_types.proofs.Gathered.{all_more}
use Rattle.rel_types.proofs.items.flaws_of_places.Goals as goal

pub loop-place-preserved : goal.loop-place-preserved
loop-place-preserved c =
    c.either-flaws.ensures ∙ ap₂ either c.loop-place.invariant c.flaws_of_place.ensures
    ∙ all_more (tables_seen c.args.tables.now) (items.flaws_of_place (tables_seen c.args.tables.now) (scope_of c.args.scope.now)) place_of
    c.as_slice-place-items.result.now c.loop-place.place-index c.place-item.result c.loop-place-test.true c.place-item.is
