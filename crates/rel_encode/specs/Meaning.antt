-- When terms stand for a state.
use Rattle.std.specs.Prelude.{◌≡◌, List, [], ◌∷◌}
use Rattle.rel_list.specs.References.{Obj}
use Rattle.rel_list.specs.Pairs.{Pairs}
use Rattle.rel_lang.specs.Syntax.{Word, Ty, Int, Rgn, Class}
use Rattle.rel_lang.specs.State.{find_field, ClassField, Tables, Value, Number, Reference, Objects, as_number, as_reference, as_region, State, Scope, value_in, read_field, LocationFits, IsWellFormed}
use Rattle.rel_lang.specs.Relation.{Moment}
use Rattle.rel_logic.specs.Syntax.{Trm}
use Rattle.rel_logic.specs.Truth.{Elem, number, ref, rgn, map_int, map_ref, map_rgn, bij, Valuation, value}
use Rattle.rel_encode.specs.Terms.{Store, PairStore}

-- the same value in the logic
abbrev pub elem_of : Value → Elem
elem_of (Number n) = number n
elem_of (Reference r) = ref r
elem_of (Objects g) = rgn g

-- What a field holds in each reference, as a map. In null it holds the default, as a read of a field at null gives.
abbrev pub field_map : Tables → Word → Ty → State → Elem
field_map tables f Int s = map_int (λ o. as_number (read_field tables o f s))
field_map tables f Rgn s = map_rgn (λ o. as_region (read_field tables o f s))
field_map tables f (Class c) s = map_ref (λ o. as_reference (read_field tables o f s))

-- every location holds what fits its field's type, as in a well-formed state
abbrev pub HasTypedHeap : Tables → State → Type 0
HasTypedHeap tables s = (o : Obj) (f : Word) → LocationFits tables (find_field tables f) s.alloc (s.heap o f) o

-- Under a valuation and values of the bound numbers, each term has the value of the variable at its place.
abbrev pub AreValues : Valuation → List Elem → Scope → List Trm → State → Type 0
AreValues r bs [] [] s = Unit {0}
AreValues r bs (v ∷ vs) (t ∷ ts) s = (value r bs t ≡ elem_of (value_in s v)) × AreValues r bs vs ts s
AreValues r bs _ _ s = ⊥

-- and each is the map of the field at its place
abbrev pub AreMaps : Tables → Valuation → List Elem → List ClassField → List Trm → State → Type 0
AreMaps tables r bs [] [] s = Unit {0}
AreMaps tables r bs (d ∷ ds) (m ∷ ms) s = (value r bs m ≡ field_map tables d.name d.ty s) × AreMaps tables r bs ds ms s
AreMaps tables r bs _ _ s = ⊥

-- The terms stand for the state: for the values of the variables, for the maps of the fields, and for the region of what is allocated.
pub record StandsFor (tables : Tables) (sc : Scope) (r : Valuation) (bs : List Elem) (st : Store) (s : State) : Type 0 where
  pub variables : AreValues r bs sc st.vars s
  pub maps : AreMaps tables r bs tables.fields st.maps s
  pub alloc : value r bs st.alloc ≡ rgn s.alloc

-- two sides, with the set of pairs
pub record StandsForBoth (tables : Tables) (r : Valuation) (bs : List Elem) (st : PairStore) (a b : Moment) (q : Pairs) : Type 0 where
  pub left : StandsFor tables a.scope r bs st.left a.now
  pub left_entry : StandsFor tables a.scope r bs st.left_entry a.entry
  pub right : StandsFor tables b.scope r bs st.right b.now
  pub right_entry : StandsFor tables b.scope r bs st.right_entry b.entry
  pub bij : value r bs st.bij ≡ bij q

-- both states of a side are well-formed
pub record HasWellFormedStates (tables : Tables) (m : Moment) : Type 0 where
  pub entry : IsWellFormed tables m.scope m.entry
  pub now : IsWellFormed tables m.scope m.now
