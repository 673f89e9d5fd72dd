use Rattle.std.proofs.Common.{[], map, ap₂, ◌∙◌}
use Rattle.rel_lang.specs.View.{place_of, effect_of}
use Rattle.rel_flaws.specs.Flaws.{either}
use Rattle.rel_flaws.specs.View.{tables_seen, scope_of}
use Rattle.rel_types.specs.Items.{flaws_of_place, flaws_of_effect}
use Rattle.rel_types.specs.OwnView.{globals_in}
use Rattle.rel_types.proofs.Heads.{seen_same, no_globals}
use Rattle.rel_types.proofs.Settings.{place_same, effect_same, all_same}
use Rattle.rel_types.proofs.interfaces.flaws_of_interface.Goals as goal

pub returns : goal.returns
returns c sc h =
    let tables = tables_seen c.args.tables.now in
    let globals = globals_in c.args.globals in
    let scope = scope_of c.new-scope.result in
    let same = seen_same scope globals sc (c.new-scope.ensures ∙ c.alone.ensures) h in
    c.either-2.ensures
    ∙ ap₂ either (c.in_ok-variables.ensures [] (no_globals c.args.none.now c.requires))
    (c.either.ensures
    ∙ ap₂ either
    (c.flaws_of_places-boundary.ensures ∙ all_same tables (flaws_of_place tables scope) (flaws_of_place tables sc) (place_same tables scope sc same) (map place_of c.args.interface.now.boundary))
    (c.flaws_of_effects-writes.ensures
    ∙ all_same tables (flaws_of_effect tables globals scope) (flaws_of_effect tables sc sc) (effect_same tables globals sc scope sc h same) (map effect_of c.args.interface.now.init_writes)))
