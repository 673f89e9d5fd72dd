-- The formulas of a node are closed.
use Rattle.std.proofs.Common.{◌≡◌, ℕ, ◌<◌, ◌^◌, length, true, Option, Some, None, slice_get, MatchOption, subst}
use Rattle.std.proofs.lemmas.Option.{slice_get_within, get_or_from_slice_get}
use Rattle.rel_logic.specs.Syntax.{Fml, Nod}
use Rattle.rel_logic.specs.Bounds.{free_bound_of}
use Rattle.rel_logic.specs.Sorting.{is_well_sorted}
use Rattle.rel_logic.proofs.Sorts.{well_sorted_closed}
use Rattle.std.proofs.lemmas.List.{length-map}
use Rattle.rel_logic.specs.declared.sequent.Node.{Node}
use Rattle.rel_logic.specs.View.{node_of}
use Rattle.rules_table.specs.Nodes.{IsSound}

pub has_room : (n : Node) → IsSound (node_of n) → length n.sorts < 2 ^ 31
has_room n sound = simp length-map at sound.variables

pub closed_form : (n : Nod) → IsSound n → (i : ℕ) (f : Fml) → slice_get n.forms i ≡ Some f → free_bound_of f ≡ 0
closed_form n sound i f e =
    well_sorted_closed n.sorts f (subst (λ g. is_well_sorted n.sorts g ≡ true) (get_or_from_slice_get n.forms i f f e) (sound.sorted i f (slice_get_within n.forms i f e)))

pub closed_at : {X : Type 0} (view : X → Fml) (n : Nod) → IsSound n → (i : ℕ) (o : Option X)
    → MatchOption o (slice_get n.forms i ≡ None) (λ f. slice_get n.forms i ≡ Some (view f))
    → MatchOption o (slice_get n.forms i ≡ None) (λ f. (slice_get n.forms i ≡ Some (view f)) × (free_bound_of (view f) ≡ 0))
closed_at view n sound i None h = h
closed_at view n sound i (Some x) h = (h, closed_form n sound i (view x) h)
