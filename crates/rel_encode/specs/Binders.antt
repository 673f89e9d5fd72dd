-- What stands in scope under quantifiers. The innermost of them comes first.
use Rattle.std.specs.Prelude.{List, [], ◌∷◌, map}
use Rattle.rel_lang.specs.Syntax.{Word, Side, Left, Right, Decl}
use Rattle.rel_logic.specs.Syntax.{Trm, bound}
use Rattle.rel_encode.specs.Terms.{Store, lifted, lifted_store, bound_store, member_declared}

-- what a quantifier binds: a name of one side, with its class, or the bijection
pub data Binding : Type 0 where
  OfLeft : Word → Word → Binding
  OfRight : Word → Word → Binding
  OfBijection : Binding

abbrev pub scope_under : Side → List Binding → List Decl → List Decl
scope_under s [] sc = sc
scope_under Left (OfLeft x c ∷ bs) sc = member_declared x c ∷ scope_under Left bs sc
scope_under Right (OfRight x c ∷ bs) sc = member_declared x c ∷ scope_under Right bs sc
scope_under s (_ ∷ bs) sc = scope_under s bs sc

abbrev pub store_under : Side → List Binding → Store → Store
store_under s [] st = st
store_under Left (OfLeft x c ∷ bs) st = bound_store (store_under Left bs st)
store_under Right (OfRight x c ∷ bs) st = bound_store (store_under Right bs st)
store_under s (_ ∷ bs) st = lifted_store (store_under s bs st)

abbrev pub bijection_under : List Binding → Trm → Trm
bijection_under [] p = p
bijection_under (OfBijection ∷ bs) p = bound 0
bijection_under (_ ∷ bs) p = lifted 1 (bijection_under bs p)
