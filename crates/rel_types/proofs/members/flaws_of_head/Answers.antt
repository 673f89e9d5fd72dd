use Rattle.std.proofs.Common.{ap₂, ◌∙◌, map}
use Rattle.rel_lang.specs.Scope.{globals_of, pre_scope}
use Rattle.rel_lang.specs.View.{effect_of, type_of}
use Rattle.rel_flaws.specs.Flaws.{either}
use Rattle.rel_flaws.specs.View.{tables_seen, scope_of, layers_seen}
use Rattle.rel_types.specs.Items.{flaws_of_effect}
use Rattle.rel_types.specs.OwnView.{decls_in, setting_of}
use Rattle.rel_types.proofs.Declaring.{same_self}
use Rattle.rel_types.proofs.Settings.{effect_same, all_same}
use Rattle.rel_types.proofs.Heads.{declared_flaws, unknown_of_both, seen_same}
use Rattle.rel_types.proofs.members.flaws_of_head.Goals as goal

pub returns : goal.returns
returns c =
    let tables = tables_seen c.args.tables.now in
    let setting = setting_of c.args.globals c.args.own in
    let scope = scope_of c.new-scope.result in
    c.either.ensures
    ∙ ap₂ either
    (declared_flaws _ _ _ _ _ c.none.ensures c.in_ok-repeats.ensures
    (unknown_of_both tables (decls_in c.args.own.params) (decls_in c.args.own.locals) (type_of c.args.ty.now) _ _ _ c.unknown_in.ensures c.unknown_in-2.ensures c.names_unknown_class.ensures))
    (c.flaws_of_effects.ensures
    ∙ all_same tables (flaws_of_effect tables (globals_of setting) scope) (flaws_of_effect tables (globals_of setting) (pre_scope setting))
    (effect_same tables (globals_of setting) (globals_of setting) scope (pre_scope setting) (same_self (globals_of setting))
    (seen_same scope (layers_seen c.pre.result) (pre_scope setting) c.new-scope.ensures (c.pre.ensures c.args.own c.requires))) (map effect_of c.args.writes.now))
