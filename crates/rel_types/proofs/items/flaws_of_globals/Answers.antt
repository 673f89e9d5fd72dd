use Rattle.std.proofs.Common.{ap, ◌∙◌, ◌++◌, map}
use Rattle.rel_lang.specs.View.{decl_of}
use Rattle.rel_flaws.specs.View.{tables_seen}
use Rattle.rel_types.specs.Items.{repeats, seen_by_members, declared_names}
use Rattle.rel_types.specs.Lookups.{names_in}
use Rattle.rel_types.specs.OwnView.{globals_in}
use Rattle.rel_types.proofs.Heads.{declared_flaws}
use Rattle.rel_types.proofs.SameMembers.{globals_same}
use Rattle.rel_types.proofs.items.flaws_of_globals.Goals as goal

pub returns : goal.returns
returns c sc h =
    let before = globals_in c.args.before in
    let decls = map decl_of c.args.decls.now in
    declared_flaws _ _ _ _ _ c.none.ensures
    (c.in_ok-twice.ensures.repeated ∙ ap (λ l. repeats (names_in l ++ seen_by_members before) (declared_names decls)) c.new-names.ensures) c.have_unknown_types.ensures
    ∙ globals_same (tables_seen c.args.tables.now) before sc h decls
