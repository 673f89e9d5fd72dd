-- When two modules are interchangeable for every client that respects their interface.
use Rattle.std.specs.Prelude.{◌≡◌, ◌≢◌, ℕ, IsTrue, IfSome}
use Rattle.rel_list.specs.Pairs.{Pairs, Extends}
use Rattle.rel_lang.specs.Syntax.{Proc, Interface, Module, Client}
use Rattle.rel_lang.specs.State.{Tables, State, ByCall}
use Rattle.rel_lang.specs.Scope.{result_name}
use Rattle.rel_lang.specs.Lookup.{find_main}
use Rattle.rel_lang.specs.Run.{Picks, Outcome, Done, Fault}
use Rattle.rel_lang.specs.Relation.{IsBijection, related}
use Rattle.rel_lang.specs.Good.{IsGood}
use Rattle.rel_lang.specs.Linked.{linked}
use Rattle.rel_lang.specs.Visible.{IsVisible}
use Rattle.rel_lang.specs.Respects.{IsLinkedStart, Respects}

-- Some extension of the bijection is one of the final states, makes them visibly agree, and relates the two results of main.
pub record EndsVisible (tables : Tables) (i : Interface) (c : Client) (t t' : State) (q : Pairs) : Type 0 where
  pub more : Pairs
  pub extends : Extends q more
  pub bijection : IsBijection more t t'
  pub visible : IsVisible tables i c more t t'
  pub results : IsTrue (related more (t.vars ByCall result_name) (t'.vars ByCall result_name))

-- Neither run is a fault, and where both are done they end alike.
pub record RunsAlike (tables : Tables) (i : Interface) (c : Client) (q : Pairs) (left right : Outcome) : Type 0 where
  pub left_safe : left ≢ Fault
  pub right_safe : right ≢ Fault
  pub alike : (t t' : State) (k k' : Picks) → left ≡ Done t k → right ≡ Done t' k' → EndsVisible tables i c t t' q

-- two states in which the client may start with the one module and with the other, in visible agreement under a bijection
pub record AreVisibleStarts (tables : Tables) (i : Interface) (a b : Module) (c : Client) (main : Proc) (s s' : State) (q : Pairs) : Type 0 where
  pub left : IsLinkedStart tables i a c main s
  pub right : IsLinkedStart tables i b c main s'
  pub bijection : IsBijection q s s'
  pub visible : IsVisible tables i c q s s'

-- from every two such starts, at every two bounds and with all picks
abbrev pub RunAlike : Tables → Interface → Module → Module → Client → Proc → Type 0
RunAlike tables i a b c main =
    (s s' : State) (q : Pairs) → AreVisibleStarts tables i a b c main s s' q
    → (n n' : ℕ) (k k' : Picks) → RunsAlike tables i c q (linked tables i a c main n s k) (linked tables i b c main n' s' k')

pub record AreInterchangeable (tables : Tables) (i : Interface) (a b : Module) : Type 0 where
  pub left_good : IsGood tables i a
  pub right_good : IsGood tables i b
  pub clients : (c : Client) → Respects tables i c → IfSome (find_main c) (RunAlike tables i a b c)
