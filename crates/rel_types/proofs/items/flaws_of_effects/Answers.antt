use Rattle.std.proofs.Common.{ap₂, ◌∙◌}
use Rattle.rel_lang.specs.View.{effect_of}
use Rattle.rel_flaws.specs.Flaws.{either}
use Rattle.rel_types.specs.Items as items
use Rattle.rel_flaws.specs.View.{tables_seen, scope_of}
use Rattle.rel_types.specs.OwnView.{globals_in}
use Rattle.rel_types.proofs.Gathered.{all_more}
use Rattle.rel_types.proofs.items.flaws_of_effects.Goals as goal

pub loop-effect-preserved : goal.loop-effect-preserved
loop-effect-preserved c =
    c.either-flaws.ensures ∙ ap₂ either c.loop-effect.invariant c.flaws_of_effect.ensures
    ∙ all_more (tables_seen c.args.tables.now) (items.flaws_of_effect (tables_seen c.args.tables.now) (globals_in c.args.globals) (scope_of c.args.scope.now)) effect_of
    c.as_slice-effect-items.result.now c.loop-effect.effect-index c.effect-item.result c.loop-effect-test.true c.effect-item.is
