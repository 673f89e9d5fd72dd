-- Stores under quantifiers stand for the states that they stood for outside, and for those with the quantified variable.
use Rattle.std.proofs.Common.{◌≡◌, Bool, true, false, ◌&&◌, if◌then◌else◌, IsNone, List, [], ◌∷◌, map, Some, None, refl, sym, ap, ◌∙◌, true≢false}
use Rattle.std.specs.Prelude.{bytes_eq}
use Rattle.std.specs.List.{AllByRecursion}
use Rattle.std.proofs.lemmas.Slice.Eq.{bytes_eq-Decides}
use Rattle.rel_list.specs.References.{Obj, Ref}
use Rattle.rel_lang.specs.Syntax.{Word, Ty, Int, Rgn, Class}
use Rattle.rel_lang.specs.State.{ClassField, Tables, Reference, as_number, as_reference, as_region, same_owner, ByQuantifier, State, Scope, find_variable, value_in, read_field}
use Rattle.rel_lang.specs.Truth.{quantified, with_quantified}
use Rattle.rel_logic.specs.Syntax.{Trm}
use Rattle.rel_logic.specs.Truth.{Elem, ref, map_int, map_ref, map_rgn, Valuation}
use Rattle.rel_encode.specs.Terms.{Store, lifted, lifted_store, bound_store}
use Rattle.rel_encode.specs.Meaning.{elem_of, field_map, AreValues, AreMaps, StandsFor}
use Rattle.rel_encode.proofs.Small.{under_one}

-- ---- a quantified variable

not_set : {A : Type 0} (a b : Bool) (p q : A) → b ≡ false → (if a && b then p else q) ≡ q
not_set true b p q e = ap (λ c. if c then p else q) e
not_set false b p q e = refl

is_other : (x y : Word) → bytes_eq x y ≡ false → bytes_eq y x ≡ false
is_other x y e = cases (bytes_eq y x) refl
  where
    cases : (b : Bool) → bytes_eq y x ≡ b → b ≡ false
    cases true same = absurd (true≢false (sym ((bytes_eq-Decides x y).1 (sym ((bytes_eq-Decides y x).0 same))) ∙ e))
    cases false same = refl

-- the two states give the variables the same values
abbrev pub HaveSameValues : Scope → State → State → Type 0
HaveSameValues sc s u = AllByRecursion (λ v. value_in u v ≡ value_in s v) sc

pub same_values : (sc : Scope) (s : State) → HaveSameValues sc s s
same_values [] s = tt
same_values (v ∷ vs) s = (refl, same_values vs s)

module _ (x : Word) (o : Obj) (s : State) where
  -- a variable of the scope isn't the quantified one
  pub others_stay : (sc : Scope) → IsNone (find_variable x sc) → HaveSameValues sc s (with_quantified x o s)
  others_stay [] none = tt
  others_stay (v ∷ vs) none = cases (bytes_eq x v.name) refl none (others_stay vs)
    where
      cases : (b : Bool) → bytes_eq x v.name ≡ b → IsNone (if b then Some v else find_variable x vs)
          → (IsNone (find_variable x vs) → HaveSameValues vs s (with_quantified x o s)) → HaveSameValues (v ∷ vs) s (with_quantified x o s)
      cases true e none later = absurd (true≢false none)
      cases false e none later =
          (not_set (same_owner v.owner ByQuantifier) (bytes_eq v.name x) (Reference (Some o)) (value_in s v) (is_other x v.name e), later none)

  pub quantified_value : (c : Word) → value_in (with_quantified x o s) (quantified x c) ≡ Reference (Some o)
  quantified_value c = ap (λ b. if b then Reference (Some o) else s.vars ByQuantifier x) ((bytes_eq-Decides x x).1 refl)

  same_read : (tables : Tables) (f : Word) (p : Ref) → read_field tables p f (with_quantified x o s) ≡ read_field tables p f s
  same_read tables f None = refl
  same_read tables f (Some p) = refl

  pub same_map : (tables : Tables) (f : Word) (ty : Ty) → field_map tables f ty (with_quantified x o s) ≡ field_map tables f ty s
  same_map tables f Int = λ i. map_int (λ p. as_number (same_read tables f p i))
  same_map tables f Rgn = λ i. map_rgn (λ p. as_region (same_read tables f p i))
  same_map tables f (Class c) = λ i. map_ref (λ p. as_reference (same_read tables f p i))

-- ---- stores

module _ (tables : Tables) (r : Valuation) (bs : List Elem) (x : Elem) where
  lifted_values : (sc : Scope) (ts : List Trm) (s u : State) → HaveSameValues sc s u → AreValues r bs sc ts s → AreValues r (x ∷ bs) sc (map (lifted 1) ts) u
  lifted_values [] [] s u same h = tt
  lifted_values [] (t ∷ ts) s u same h = absurd h
  lifted_values (v ∷ vs) [] s u same h = absurd h
  lifted_values (v ∷ vs) (t ∷ ts) s u same h = (under_one r bs x t ∙ h.0 ∙ ap elem_of (sym same.0), lifted_values vs ts s u same.1 h.1)

  lifted_maps : (ds : List ClassField) (ms : List Trm) (s u : State) → ((f : Word) (ty : Ty) → field_map tables f ty u ≡ field_map tables f ty s)
      → AreMaps tables r bs ds ms s → AreMaps tables r (x ∷ bs) ds (map (lifted 1) ms) u
  lifted_maps [] [] s u same h = tt
  lifted_maps [] (m ∷ ms) s u same h = absurd h
  lifted_maps (d ∷ ds) [] s u same h = absurd h
  lifted_maps (d ∷ ds) (m ∷ ms) s u same h = (under_one r bs x m ∙ h.0 ∙ sym (same d.name d.ty), lifted_maps ds ms s u same h.1)

  pub lifted_stands : (sc : Scope) (st : Store) (s : State) → StandsFor tables sc r bs st s → StandsFor tables sc r (x ∷ bs) (lifted_store st) s
  lifted_stands sc st s h = record {
    variables = lifted_values sc st.vars s s (same_values sc s) h.variables;
    maps = lifted_maps tables.fields st.maps s s (λ f ty. refl) h.maps;
    alloc = under_one r bs x st.alloc ∙ h.alloc;
  }

module _ (tables : Tables) (r : Valuation) (bs : List Elem) (x c : Word) (o : Obj) where
  pub bound_stands : (sc : Scope) (st : Store) (s : State) → IsNone (find_variable x sc) → StandsFor tables sc r bs st s
      → StandsFor tables (quantified x c ∷ sc) r (ref (Some o) ∷ bs) (bound_store st) (with_quantified x o s)
  bound_stands sc st s none h = record {
    variables = (ap elem_of (sym (quantified_value x o s c)), lifted_values tables r bs (ref (Some o)) sc st.vars s (with_quantified x o s) (others_stay x o s sc none) h.variables);
    maps = lifted_maps tables r bs (ref (Some o)) tables.fields st.maps s (with_quantified x o s) (same_map x o s tables) h.maps;
    alloc = under_one r bs (ref (Some o)) st.alloc ∙ h.alloc;
  }
