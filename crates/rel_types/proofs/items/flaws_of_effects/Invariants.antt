use Rattle.std.proofs.Common.{◌≡◌, map, take}
use Rattle.rel_lang.specs.View.{effect_of}
use Rattle.rel_types.specs.Items as items
use Rattle.rel_flaws.specs.View.{tables_seen, scope_of, flaws_of}
use Rattle.rel_types.specs.OwnView.{globals_in}
use Rattle.rel_types.proofs.items.flaws_of_effects.Given as goal

abbrev pub invariant-loop-effect : goal.invariant-loop-effect
invariant-loop-effect l =
    flaws_of l.flaws ≡ items.flaws_of_all (tables_seen l.tables) (items.flaws_of_effect (tables_seen l.tables) (globals_in l.globals) (scope_of l.scope)) (map effect_of (take l.effect-index l.effect-items))
