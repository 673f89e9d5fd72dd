use Rattle.std.proofs.Common.{ap}
use Rattle.rel_lang.specs.Scope.{globals_of}
use Rattle.rel_types.specs.Items.{seen_by_members}
use Rattle.rel_types.specs.Lookups.{names_in}
use Rattle.rel_types.specs.OwnView.{decls_in, setting_of}
use Rattle.rel_types.proofs.Owned.{repeated_own}
use Rattle.rel_types.proofs.own.Own.repeats.Goals as goal

pub returns : goal.returns
returns c =
    repeated_own (seen_by_members (globals_of (setting_of c.args.globals c.args.self))) (names_in c.new-names.result) (names_in c.add_own_names.new.own)
    (decls_in c.args.self.params) (decls_in c.args.self.locals) _ _ (ap names_in c.new-names.ensures)
    c.in_ok-params.ensures.repeated c.in_ok-params.ensures.added c.in_ok-locals.ensures.repeated
