use Rattle.std.proofs.Common.{◌++◌, ◌∷◌, [], sym, ap₂, subst}
use Rattle.rel_lang.specs.State.{ByQuantifier, Variable}
use Rattle.rel_lang.specs.Scope.{declared}
use Rattle.rel_lang.specs.View.{decl_of}
use Rattle.rel_types.specs.Lookups.{SameLookups}
use Rattle.rel_flaws.specs.View.{variables_seen}
use Rattle.rel_types.proofs.Declaring.{insert_same}
use Rattle.rel_types.proofs.declarations.add.Goals as goal

pub returns : goal.returns
returns c =
    subst (λ new. SameLookups (variables_seen new) (variables_seen c.args.index.now ++ declared ByQuantifier c.args.is_assignable (decl_of c.args.decl.now ∷ []))) (sym c.in_ok-insert.ensures)
    (insert_same _ c.as_str.result.now _ _ (ap₂ {C = Variable} (λ n t. record { name = n; owner = ByQuantifier; ty = t; is_assignable = c.args.is_assignable }) c.as_str.ensures c.of.ensures))
