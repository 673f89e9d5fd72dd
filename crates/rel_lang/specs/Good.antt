-- When a module is good for its interface.
use Rattle.std.specs.Prelude.{◌≡◌, IsTrue, IsSomeAnd}
use Rattle.std.specs.List.{AllByRecursion}
use Rattle.rel_list.specs.References.{Obj}
use Rattle.rel_list.specs.Regions.{is_within}
use Rattle.rel_lang.specs.Syntax.{Word, Sig, Interface, Module}
use Rattle.rel_lang.specs.State.{Tables, State, value_in, IsWellFormed}
use Rattle.rel_lang.specs.Lookup.{find_body}
use Rattle.rel_lang.specs.Run.{module_program}
use Rattle.rel_lang.specs.Meets.{is_met, Meets, invariant_scope, invariant_of, init_contract, method_contract}
use Rattle.rel_lang.specs.Boundary.{in_boundary}

-- The two states are alike for the module's side: its globals and the boundary's locations have the same values, and no object has gone.
pub record IsSameInside (tables : Tables) (i : Interface) (m : Module) (s t : State) : Type 0 where
  pub globals : AllByRecursion (λ v. value_in t v ≡ value_in s v) (invariant_scope i m)
  pub grown : IsTrue (is_within s.alloc t.alloc)
  pub boundary : (o : Obj) (f : Word) → IsTrue (in_boundary tables i s o f) → t.heap o f ≡ s.heap o f

-- What happens outside the boundary leaves the invariant true.
abbrev pub IsFramed : Tables → Interface → Module → Type 0
IsFramed tables i m =
    (s t : State) → IsWellFormed tables (invariant_scope i m) s → IsWellFormed tables (invariant_scope i m) t → IsSameInside tables i m s t
    → IsTrue (is_met tables s s (invariant_of i m)) → IsTrue (is_met tables t t (invariant_of i m))

-- the module's body for the method meets its specification, with the invariant
abbrev pub IsGoodMethod : Tables → Interface → Module → Sig → Type 0
IsGoodMethod tables i m q = IsSomeAnd (find_body q.name m.methods) (λ b. Meets (module_program tables) (method_contract i m q b) b.commands)

pub record IsGood (tables : Tables) (i : Interface) (m : Module) : Type 0 where
  pub framed : IsFramed tables i m
  pub init : Meets (module_program tables) (init_contract i m) m.init.commands
  pub methods : AllByRecursion (IsGoodMethod tables i m) i.methods
