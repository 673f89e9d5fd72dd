-- Visible agreement of two states: they are related in all that a client can see.
use Rattle.std.specs.Prelude.{IsTrue, IsFalse}
use Rattle.std.specs.List.{AllByRecursion}
use Rattle.rel_list.specs.References.{Obj}
use Rattle.rel_list.specs.Pairs.{Pairs, has}
use Rattle.rel_lang.specs.Syntax.{Word, Interface, Client}
use Rattle.rel_lang.specs.State.{Tables, has_field, value_in, State}
use Rattle.rel_lang.specs.Scope.{client_globals}
use Rattle.rel_lang.specs.Relation.{related}
use Rattle.rel_lang.specs.Boundary.{in_boundary}

-- a field of two partners has related values where it is outside both boundaries
abbrev pub IsVisibleHeap : Tables → Interface → Pairs → State → State → Type 0
IsVisibleHeap tables i q s t =
    (a b : Obj) (f : Word) → IsTrue (has q a b) → IsTrue (has_field tables f a) → IsFalse (in_boundary tables i s a f) → IsFalse (in_boundary tables i t b f)
    → IsTrue (related q (s.heap a f) (t.heap b f))

pub record IsVisible (tables : Tables) (i : Interface) (c : Client) (q : Pairs) (s t : State) : Type 0 where
  pub heap : IsVisibleHeap tables i q s t
  pub globals : AllByRecursion (λ v. IsTrue (related q (value_in s v) (value_in t v))) (client_globals c)
