use Rattle.std.proofs.Common.{ap, sym, subst}
use Rattle.rel_lang.specs.Scope.{declared}
use Rattle.rel_lang.specs.State.{ByCall, ByQuantifier}
use Rattle.rel_flaws.specs.View.{variables_seen}
use Rattle.rel_types.specs.Lookups.{SameLookups}
use Rattle.rel_types.specs.OwnView.{decls_in}
use Rattle.rel_types.proofs.Declaring.{same_declared}
use Rattle.rel_types.proofs.Owned.{alone}
use Rattle.rel_types.proofs.own.variables_of.Goals as goal

pub returns-in_ok-add_all-in-Some : goal.returns-in_ok-add_all-in-Some
returns-in_ok-add_all-in-Some c =
    subst (λ o. SameLookups (variables_seen c.add_all.new.index) (declared ByCall c.args.is_assignable (decls_in o))) (sym c.in-Some.is)
    (alone _ _ _ _ (ap variables_seen c.new-index.ensures) c.in_ok-add_all-in-Some.ensures (same_declared ByQuantifier ByCall c.args.is_assignable _))
