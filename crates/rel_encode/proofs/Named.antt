-- A name's term has the value of what it names.
use Rattle.std.proofs.Common.{◌≡◌, Bool, true, false, if◌then◌else◌, List, [], ◌∷◌, map, Some, refl, sym, ◌∙◌}
use Rattle.std.specs.Prelude.{bytes_eq}
use Rattle.std.proofs.lemmas.Slice.Eq.{bytes_eq-Decides}
use Rattle.rel_lang.specs.Syntax.{Word}
use Rattle.rel_lang.specs.State.{find_named, ClassField, Tables, State, Scope, find_variable, read_variable, find_field}
use Rattle.rel_logic.specs.Syntax.{Trm}
use Rattle.rel_logic.specs.Truth.{Elem, Valuation, value}
use Rattle.rel_encode.specs.Numbers.{numbered_field, numbered, declarations_of}
use Rattle.rel_encode.specs.Terms.{Store, term_named, field_term, variable_term}
use Rattle.rel_encode.specs.Meaning.{elem_of, field_map, AreValues, AreMaps, StandsFor}

module _ (r : Valuation) (bs : List Elem) (s : State) (x : Word) where
  named_value : (sc : Scope) (ts : List Trm) → AreValues r bs sc ts s
      → value r bs (term_named (λ d. d.name) x (declarations_of sc) ts) ≡ elem_of (read_variable (find_variable x sc) s)
  named_value [] [] h = refl
  named_value [] (t ∷ ts) h = absurd h
  named_value (v ∷ vs) [] h = absurd h
  named_value (v ∷ vs) (t ∷ ts) h =
      elim (bytes_eq x v.name) as (λ b. value r bs (if b then t else term_named (λ d. d.name) x (declarations_of vs) ts) ≡ elem_of (read_variable (if b then Some v else find_variable x vs) s)) [
        | true ↦ h.0
        | false ↦ named_value vs ts h.1
      ]

module _ (tables : Tables) (r : Valuation) (bs : List Elem) where
  -- 0 where there is no such variable
  pub variable_value : (sc : Scope) (x : Word) (st : Store) (s : State) → StandsFor tables sc r bs st s
      → value r bs (variable_term (numbered tables) (declarations_of sc) x st) ≡ elem_of (read_variable (find_variable x sc) s)
  variable_value sc x st s h = named_value r bs s x sc st.vars h.variables

  named_map : (f : Word) (d : ClassField) (s : State) (ds : List ClassField) (ms : List Trm) → AreMaps tables r bs ds ms s → find_named (λ d. d.name) f ds ≡ Some d
      → value r bs (term_named (λ d. d.name) f (map (numbered_field tables) ds) ms) ≡ field_map tables f d.ty s
  named_map f d s [] ms h is = cc
  named_map f d s (e ∷ es) [] h is = absurd h
  named_map f d s (e ∷ es) (m ∷ ms) h is = cases (bytes_eq f e.name) refl is (named_map f d s es ms h.1)
    where
      cases : (b : Bool) → bytes_eq f e.name ≡ b → (if b then Some e else find_named (λ d. d.name) f es) ≡ Some d
          → (find_named (λ d. d.name) f es ≡ Some d → value r bs (term_named (λ d. d.name) f (map (numbered_field tables) es) ms) ≡ field_map tables f d.ty s)
          → value r bs (if b then m else term_named (λ d. d.name) f (map (numbered_field tables) es) ms) ≡ field_map tables f d.ty s
      cases true same is later =
          let names : e.name ≡ f = sym ((bytes_eq-Decides f e.name).0 same) in
          let fields : e ≡ d = cc in
          h.0 ∙ (λ i. field_map tables (names i) (fields i).ty s)
      cases false same is later = later is

  pub map_value : (sc : Scope) (f : Word) (d : ClassField) (st : Store) (s : State) → find_field tables f ≡ Some d → StandsFor tables sc r bs st s
      → value r bs (field_term (numbered tables) (declarations_of sc) f st) ≡ field_map tables f d.ty s
  map_value sc f d st s is h = named_map f d s tables.fields st.maps h.maps is
