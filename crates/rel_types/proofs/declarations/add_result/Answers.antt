use Rattle.std.proofs.Common.{◌++◌, ◌∷◌, [], true, Some, refl, sym, subst}
use Rattle.rel_lang.specs.State.{ByCall, ByQuantifier, Scope, Variable}
use Rattle.rel_lang.specs.Scope.{result_name, result_variable}
use Rattle.rel_types.specs.Lookups.{SameLookups}
use Rattle.rel_flaws.specs.View.{type_seen, variables_seen}
use Rattle.rel_types.proofs.Lookups.{same_after}
use Rattle.rel_types.proofs.Declaring.{insert_same, same_declared, same_self, same_then}
use Rattle.rel_types.proofs.declarations.add_result.Goals as goal

pub returns : goal.returns
returns c =
    let base : Scope = variables_seen c.args.own.now in
    let seen : Variable = record { name = result_name; owner = ByQuantifier; ty = type_seen c.args.ty; is_assignable = true } in
    let out : Scope = result_variable (Some (type_seen c.args.ty)) in
    subst (λ new. SameLookups (variables_seen new) (base ++ out)) (sym c.in_ok-insert.ensures)
    (same_then _ (base ++ seen ∷ []) (base ++ out)
    (insert_same _ _ _ _ refl)
    (same_after base (seen ∷ []) base out (same_self base) (same_declared ByQuantifier ByCall true (record { name = result_name; ty = type_seen c.args.ty } ∷ []))))
