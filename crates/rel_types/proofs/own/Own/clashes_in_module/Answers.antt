use Rattle.std.proofs.Common.{◌||◌, ap, ap₂}
use Rattle.rel_types.specs.Items.{seen_by_members}
use Rattle.rel_types.specs.Lookups.{names_in}
use Rattle.rel_types.specs.OwnView.{decls_in, globals_in}
use Rattle.rel_types.proofs.Owned.{repeated_locals}
use Rattle.rel_types.proofs.own.Own.clashes_in_module.Goals as goal

pub returns : goal.returns
returns c =
    ap₂ (λ a b. a || b) c.has_names_of.ensures
    (repeated_locals (seen_by_members (globals_in c.args.globals)) (names_in c.new-names.result) (names_in c.add_own_names.new.own)
    (decls_in c.args.self.params) (decls_in c.args.self.locals) _ (ap names_in c.new-names.ensures) c.in_ok-add_own_names.ensures.added c.in_ok-locals.ensures.repeated)
