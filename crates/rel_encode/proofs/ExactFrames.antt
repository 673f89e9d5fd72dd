-- The frame is true exactly where only what is listed has changed.
use Rattle.std.proofs.Common.{◌≡◌, ◌↔◌, ℕ, zero, suc, Bool, true, false, ◌&&◌, ◌||◌, if◌then◌else◌, IsTrue, IsFalse, IfSome, MatchBool, List, [], ◌∷◌, ◌++◌, map, take, Option, Some, None, refl, sym, ap, subst, ◌∙◌, true≢false}
use Rattle.std.specs.Prelude.{bytes_eq}
use Rattle.std.specs.List.{AllByRecursion, list_any}
use Rattle.std.proofs.lemmas.Slice.Eq.{bytes_eq-Decides}
use Rattle.rel_list.specs.References.{Obj, Region, is_in}
use Rattle.rel_lang.specs.Syntax.{Word, Ty, Int, Rgn, Class, Effect, Global, Locations, Place, Decl}
use Rattle.rel_lang.specs.State.{find_named, ClassField, Tables, find_field, is_of_field, has_field, Value, Number, Reference, Objects, as_number, as_reference, as_region, default, default_of, State, Variable, Scope, value_in, LocationFits}
use Rattle.rel_lang.specs.Value.{value_of}
use Rattle.rel_lang.specs.Typed.{IsTypedEffect}
use Rattle.rel_lang.specs.Meets.{lists_location}
use Rattle.rel_lang.proofs.Values.{Fits}
use Rattle.rel_lang.proofs.Writes.{all_append, all_left, all_right}
use Rattle.rel_logic.specs.Syntax.{Trm, bound, sel, Fml, eq, member, no, imp}
use Rattle.rel_logic.specs.Truth.{Elem, number, ref, rgn, as_rgn, selected, Valuation, value, IsTrueAt}
use Rattle.rel_logic.specs.Equal.{same_trm}
use Rattle.rel_logic.proofs.SameTrees.{same_trm_is}
use Rattle.rel_encode.specs.Numbers.{Numbers, numbered_field, numbered, declarations_of}
use Rattle.rel_encode.specs.Terms.{Store, lifted, term_of}
use Rattle.rel_encode.specs.Frame.{lists_global, kept_variables, outside_places, kept_field, kept_fields, frame_of}
use Rattle.rel_encode.specs.Meaning.{elem_of, field_map, HasTypedHeap, AreValues, AreMaps, StandsFor}
use Rattle.rel_encode.specs.Laws.{ChangesListed, IsExactFrame}
use Rattle.rel_encode.proofs.Regions.{along, both_ways, parts, each_of_region}
use Rattle.rel_encode.proofs.OfKind.{selected_value}
use Rattle.rel_encode.proofs.ExactTerms.{region_value, term_value}
use Rattle.rel_encode.proofs.Small.{under_one, conj_true}

-- ---- values

-- the value in the logic tells the value
pub elem_tells : (v w : Value) → elem_of v ≡ elem_of w → v ≡ w
elem_tells (Number m) (Number n) e = let h : m ≡ n = cc in ap Number h
elem_tells (Reference m) (Reference n) e = let h : m ≡ n = cc in ap Reference h
elem_tells (Objects m) (Objects n) e = let h : m ≡ n = cc in ap Objects h
elem_tells v w e = cc

-- equal values of a field are equal in its map, whatever type the map is of
same_selected : (tables : Tables) (f : Word) (ty : Ty) (s t : State) (o : Obj) → t.heap o f ≡ s.heap o f → selected (field_map tables f ty t) (Some o) ≡ selected (field_map tables f ty s) (Some o)
same_selected tables f Int s t o e = ap (λ v. number (as_number v)) e
same_selected tables f Rgn s t o e = ap (λ v. rgn (as_region v)) e
same_selected tables f (Class c) s t o e = ap (λ v. ref (as_reference v)) e

-- a location whose object isn't of the field's class holds the default
default_elsewhere : (tables : Tables) (d : Option ClassField) (g : Region) (v : Value) (o : Obj) → is_of_field tables d o ≡ false → LocationFits tables d g v o → v ≡ default_of d
default_elsewhere tables None g v o e fits = fits
default_elsewhere tables (Some d) g v o e fits = not_there (is_in o g) (subst (λ b. MatchBool (is_in o g && b) (Fits tables g d.ty v) (v ≡ default d.ty)) e fits)
  where
    not_there : (b : Bool) → MatchBool (b && false) (Fits tables g d.ty v) (v ≡ default d.ty) → v ≡ default d.ty
    not_there true h = h
    not_there false h = h

appended : {A : Type 0} (P : A → Type 0) (xs ys : List A) → AllByRecursion P (xs ++ ys) ↔ (AllByRecursion P xs × AllByRecursion P ys)
appended P xs ys = (λ h. (all_left P xs ys h, all_right P xs ys h), λ h. all_append P xs ys h.0 h.1)

-- what holds of all holds of the one that is found, which has the name
found_named : {A : Type 0} (P : A → Type 0) (name : A → Word) (x : Word) (xs : List A) → AllByRecursion P xs → IfSome (find_named name x xs) (λ a. P a × (x ≡ name a))
found_named P name x [] all = tt
found_named P name x (a ∷ rest) all =
    elim (bytes_eq x (name a)) as (λ b. bytes_eq x (name a) ≡ b → IfSome (if b then Some a else find_named name x rest) (λ y. P y × (x ≡ name y))) [
      | true ↦ λ e. (all.0, (bytes_eq-Decides x (name a)).0 e)
      | false ↦ λ e. found_named P name x rest all.1
    ] refl

-- ---- variables

module _ (r : Valuation) (bs : List Elem) (writes : List Effect) (s t : State) where
  abbrev Kept : Variable → Type 0
  Kept v = IsFalse (lists_global writes v.name) → value_in t v ≡ value_in s v

  variable_kept : (v : Variable) (b a : Trm) → value r bs b ≡ elem_of (value_in s v) → value r bs a ≡ elem_of (value_in t v) → (x y : Bool) → (IsTrue y → b ≡ a)
      → AllByRecursion (IsTrueAt r bs) (if x || y then [] else eq a b ∷ []) ↔ (IsFalse x → value_in t v ≡ value_in s v)
  variable_kept v b a is_b is_a true y same = (λ h e. absurd (true≢false e), λ h. tt)
  variable_kept v b a is_b is_a false true same = (λ h e. elem_tells _ _ (sym is_a ∙ ap (value r bs) (sym (same refl)) ∙ is_b), λ h. tt)
  variable_kept v b a is_b is_a false false same = (λ h e. elem_tells _ _ (sym is_a ∙ h.0 ∙ is_b), λ h. (is_a ∙ ap elem_of (h refl) ∙ sym is_b, tt))

  variables_kept : (n : ℕ) (sc : Scope) (us ts : List Trm) → AreValues r bs sc us s → AreValues r bs sc ts t
      → AllByRecursion (IsTrueAt r bs) (kept_variables writes (take n (declarations_of sc)) us ts) ↔ AllByRecursion Kept (take n sc)
  variables_kept zero sc us ts before after = (λ h. tt, λ h. tt)
  variables_kept (suc n) [] us ts before after = (λ h. tt, λ h. tt)
  variables_kept (suc n) (v ∷ vs) [] ts before after = absurd before
  variables_kept (suc n) (v ∷ vs) (b ∷ us) [] before after = absurd after
  variables_kept (suc n) (v ∷ vs) (b ∷ us) (a ∷ ts) before after =
      both_ways (appended (IsTrueAt r bs) (if lists_global writes v.name || same_trm b a then [] else eq a b ∷ []) (kept_variables writes (take n (declarations_of vs)) us ts))
      (parts (variable_kept v b a before.0 after.0 (lists_global writes v.name) (same_trm b a) (same_trm_is b a).0) (variables_kept n vs us ts before.1 after.1))

-- ---- fields

-- the maps have one value at the innermost reference
abbrev same_at : Trm → Trm → Fml
same_at b a = eq (sel (lifted 1 a) (bound 0)) (sel (lifted 1 b) (bound 0))

module _ (tables : Tables) (globals sc : Scope) (r : Valuation) (bs : List Elem) (before : Store) (s t : State) where
  -- the object is in the place's region, where the place is of the field
  abbrev names_object : Obj → Word → Effect → Bool
  names_object o f (Global x) = false
  names_object o f (Locations p) = bytes_eq f p.field && is_in o (as_region (value_of tables sc p.region s s))

  -- at objects of the field's class this is what the list says
  same_places : (o : Obj) (f : Word) → has_field tables f o ≡ true → (es : List Effect) → list_any (lists_location tables sc s o f) es ≡ list_any (names_object o f) es
  same_places o f e [] = refl
  same_places o f e (Global x ∷ es) = same_places o f e es
  same_places o f e (Locations p ∷ es) =
      λ i. (bytes_eq f p.field && (e i && is_in o (as_region (value_of tables sc p.region s s)))) || same_places o f e es i

  module _ (typed_s : HasTypedHeap tables s) (typed_t : HasTypedHeap tables t) where
    kept_elsewhere : (o : Obj) (f : Word) → has_field tables f o ≡ false → t.heap o f ≡ s.heap o f
    kept_elsewhere o f e =
        default_elsewhere tables (find_field tables f) t.alloc (t.heap o f) o e (typed_t o f) ∙ sym (default_elsewhere tables (find_field tables f) s.alloc (s.heap o f) o e (typed_s o f))

    abbrev FieldKept : List Effect → Word → Type 0
    FieldKept writes f = (o : Obj) → IsTrue (is_in o s.alloc) → IsFalse (list_any (lists_location tables sc s o f) writes) → t.heap o f ≡ s.heap o f

    -- the same of two maps
    abbrev MapKept : List Effect → Word → Elem → Elem → Type 0
    MapKept writes f m n = (o : Obj) → IsTrue (is_in o s.alloc) → IsFalse (list_any (names_object o f) writes) → selected n (Some o) ≡ selected m (Some o)

    map_from_field : (writes : List Effect) (f : Word) (ty : Ty) → FieldKept writes f → MapKept writes f (field_map tables f ty s) (field_map tables f ty t)
    map_from_field writes f ty kept o within free = same_selected tables f ty s t o (by_test (has_field tables f o) refl)
      where
        by_test : (b : Bool) → has_field tables f o ≡ b → t.heap o f ≡ s.heap o f
        by_test true e = kept o within (same_places o f e writes ∙ free)
        by_test false e = kept_elsewhere o f e

    field_from_map : (writes : List Effect) (f : Word) (d : ClassField) → find_field tables f ≡ Some d → MapKept writes f (field_map tables f d.ty s) (field_map tables f d.ty t) → FieldKept writes f
    field_from_map writes f d is kept o within free = by_test (has_field tables f o) refl
      where
        by_test : (b : Bool) → has_field tables f o ≡ b → t.heap o f ≡ s.heap o f
        by_test true e = elem_tells _ _ (sym (selected_value tables f d t is typed_t (Some o)) ∙ kept o within (sym (same_places o f e writes) ∙ free) ∙ selected_value tables f d s is typed_s (Some o))
        by_test false e = kept_elsewhere o f e

    module _ (stands : StandsFor tables sc r bs before s) where
      abbrev region_term : Place → Trm
      region_term p = term_of (numbered tables) (declarations_of sc) p.region before before

      region_is : (p : Place) (o : Obj) → IsTypedEffect tables globals sc (Locations p)
          → as_rgn (value r (ref (Some o) ∷ bs) (lifted 1 (region_term p))) ≡ as_region (value_of tables sc p.region s s)
      region_is p o typed =
          region_value _ _ (under_one r bs (ref (Some o)) (region_term p) ∙ term_value tables sc r bs p.region Rgn false before before s s typed_s typed_s stands stands typed.0)

      place_outside : (o : Obj) (B : Type 0) (rest : Fml) (g : Trm) (k : Region) → as_rgn (value r (ref (Some o) ∷ bs) (lifted 1 g)) ≡ k → (x w z : Bool) → is_in o k ≡ w
          → IsTrueAt r (ref (Some o) ∷ bs) rest ↔ (IsFalse z → B)
          → IsTrueAt r (ref (Some o) ∷ bs) (if x then imp (no (member (bound 0) (lifted 1 g))) rest else rest) ↔ (IsFalse ((x && w) || z) → B)
      place_outside o B rest g k is false w z in_k h = h
      place_outside o B rest g k is true true z in_k h = (λ i e. absurd (true≢false e), λ i out. absurd (out (ap (is_in o) is ∙ in_k)))
      place_outside o B rest g k is true false z in_k h = (λ i. h.0 (i (λ e. true≢false (sym e ∙ ap (is_in o) is ∙ in_k))), λ i out. h.1 i)

      places_outside : (o : Obj) (f : Word) (body : Fml) (es : List Effect) → AllByRecursion (IsTypedEffect tables globals sc) es
          → IsTrueAt r (ref (Some o) ∷ bs) (outside_places (numbered tables) (declarations_of sc) before es f body)
          ↔ (IsFalse (list_any (names_object o f) es) → IsTrueAt r (ref (Some o) ∷ bs) body)
      places_outside o f body [] typed = (λ h e. h, λ h. h refl)
      places_outside o f body (Global x ∷ es) typed = places_outside o f body es typed.1
      places_outside o f body (Locations p ∷ es) typed =
          place_outside o (IsTrueAt r (ref (Some o) ∷ bs) body) (outside_places (numbered tables) (declarations_of sc) before es f body) (region_term p)
          (as_region (value_of tables sc p.region s s)) (region_is p o typed.0) (bytes_eq f p.field) (is_in o (as_region (value_of tables sc p.region s s)))
          (list_any (names_object o f) es) refl (places_outside o f body es typed.1)

      module _ (writes : List Effect) (typed : AllByRecursion (IsTypedEffect tables globals sc) writes) where
        field_kept : (f : Word) (b a : Trm) → IsTrueAt r bs (kept_field (numbered tables) (declarations_of sc) before writes f b a) ↔ MapKept writes f (value r bs b) (value r bs a)
        field_kept f b a = each_of_region r bs before.alloc s.alloc (ap as_rgn stands.alloc) (outside_places (numbered tables) (declarations_of sc) before writes f (same_at b a))
            (λ o. IsFalse (list_any (names_object o f) writes) → selected (value r bs a) (Some o) ≡ selected (value r bs b) (Some o)) at
          where
            body_is : (o : Obj) → IsTrueAt r (ref (Some o) ∷ bs) (same_at b a) ≡ (selected (value r bs a) (Some o) ≡ selected (value r bs b) (Some o))
            body_is o = λ i. selected (under_one r bs (ref (Some o)) a i) (Some o) ≡ selected (under_one r bs (ref (Some o)) b i) (Some o)

            at : (o : Obj) → IsTrueAt r (ref (Some o) ∷ bs) (outside_places (numbered tables) (declarations_of sc) before writes f (same_at b a))
                ↔ (IsFalse (list_any (names_object o f) writes) → selected (value r bs a) (Some o) ≡ selected (value r bs b) (Some o))
            at o = subst (λ B. IsTrueAt r (ref (Some o) ∷ bs) (outside_places (numbered tables) (declarations_of sc) before writes f (same_at b a)) ↔ (IsFalse (list_any (names_object o f) writes) → B))
                (body_is o) (places_outside o f (same_at b a) writes typed)

        if_kept : (f : Word) (b a : Trm) (x : Bool) → (IsTrue x → b ≡ a)
            → AllByRecursion (IsTrueAt r bs) (if x then [] else kept_field (numbered tables) (declarations_of sc) before writes f b a ∷ []) ↔ MapKept writes f (value r bs b) (value r bs a)
        if_kept f b a true same = (λ h o within free. ap (λ u. selected (value r bs u) (Some o)) (sym (same refl)), λ h. tt)
        if_kept f b a false same = (λ h. (field_kept f b a).0 h.0, λ h. ((field_kept f b a).1 h, tt))

        -- one field: from the formula where it is the first of its name, and back
        abbrev FirstKept : ClassField → Type 0
        FirstKept d = find_field tables d.name ≡ Some d → FieldKept writes d.name

        maps_of : (d : ClassField) (b a : Trm) → value r bs b ≡ field_map tables d.name d.ty s → value r bs a ≡ field_map tables d.name d.ty t
            → AllByRecursion (IsTrueAt r bs) (if same_trm b a then [] else kept_field (numbered tables) (declarations_of sc) before writes d.name b a ∷ [])
            ↔ MapKept writes d.name (field_map tables d.name d.ty s) (field_map tables d.name d.ty t)
        maps_of d b a is_b is_a =
            both_ways (if_kept d.name b a (same_trm b a) (same_trm_is b a).0) (along (λ i. MapKept writes d.name (is_b i) (is_a i)))

        fields_forth : (ds : List ClassField) (us ts : List Trm) → AreMaps tables r bs ds us s → AreMaps tables r bs ds ts t
            → AllByRecursion (IsTrueAt r bs) (kept_fields (numbered tables) (declarations_of sc) before writes (map (numbered_field tables) ds) us ts) → AllByRecursion FirstKept ds
        fields_forth [] us ts of_s of_t h = tt
        fields_forth (d ∷ ds) [] ts of_s of_t h = absurd of_s
        fields_forth (d ∷ ds) (b ∷ us) [] of_s of_t h = absurd of_t
        fields_forth (d ∷ ds) (b ∷ us) (a ∷ ts) of_s of_t h =
            let both = (appended (IsTrueAt r bs) (if same_trm b a then [] else kept_field (numbered tables) (declarations_of sc) before writes d.name b a ∷ []) _).0 h in
            (λ first. field_from_map writes d.name d first ((maps_of d b a of_s.0 of_t.0).0 both.0), fields_forth ds us ts of_s.1 of_t.1 both.1)

        fields_back : (ds : List ClassField) (us ts : List Trm) → AreMaps tables r bs ds us s → AreMaps tables r bs ds ts t
            → ((f : Word) → FieldKept writes f) → AllByRecursion (IsTrueAt r bs) (kept_fields (numbered tables) (declarations_of sc) before writes (map (numbered_field tables) ds) us ts)
        fields_back [] us ts of_s of_t h = tt
        fields_back (d ∷ ds) [] ts of_s of_t h = absurd of_s
        fields_back (d ∷ ds) (b ∷ us) [] of_s of_t h = absurd of_t
        fields_back (d ∷ ds) (b ∷ us) (a ∷ ts) of_s of_t h =
            all_append (IsTrueAt r bs) (if same_trm b a then [] else kept_field (numbered tables) (declarations_of sc) before writes d.name b a ∷ []) _
            ((maps_of d b a of_s.0 of_t.0).1 (map_from_field writes d.name d.ty (h d.name))) (fields_back ds us ts of_s.1 of_t.1 h)

        -- every field: those that aren't declared hold 0
        every_field : AllByRecursion FirstKept tables.fields → (f : Word) → FieldKept writes f
        every_field all f = by_field (find_field tables f) refl (found_named FirstKept (λ d. d.name) f tables.fields all)
          where
            by_field : (d : Option ClassField) → find_field tables f ≡ d → IfSome d (λ d. FirstKept d × (f ≡ d.name)) → FieldKept writes f
            by_field None is h = λ o within free. kept_elsewhere o f (ap (λ d. is_of_field tables d o) is)
            by_field (Some d) is h = subst (FieldKept writes) (sym h.1) (h.0 (subst (λ g. find_field tables g ≡ Some d) h.1 is))

module _ (tables : Tables) (sc : Scope) (framed : ℕ) (writes : List Effect) (before after : Store) where
  abbrev kept_of_variables : List Fml
  kept_of_variables = kept_variables writes (take framed (declarations_of sc)) before.vars after.vars

  abbrev kept_of_fields : List Fml
  kept_of_fields = kept_fields (numbered tables) (declarations_of sc) before writes (map (numbered_field tables) tables.fields) before.maps after.maps

  frame_here : (globals : Scope) → AllByRecursion (IsTypedEffect tables globals sc) writes
      → (r : Valuation) (bs : List Elem) (s t : State) → HasTypedHeap tables s → HasTypedHeap tables t → StandsFor tables sc r bs before s → StandsFor tables sc r bs after t
      → IsTrueAt r bs (frame_of (numbered tables) (declarations_of sc) framed writes before after) ↔ ChangesListed tables sc (take framed sc) writes s t
  frame_here globals typed r bs s t typed_s typed_t stands_s stands_t = both_ways (conj_true r bs (kept_of_variables ++ kept_of_fields)) (forth, back)
    where
      variables : AllByRecursion (IsTrueAt r bs) kept_of_variables ↔ AllByRecursion (Kept r bs writes s t) (take framed sc)
      variables = variables_kept r bs writes s t framed sc before.vars after.vars stands_s.variables stands_t.variables

      forth : AllByRecursion (IsTrueAt r bs) (kept_of_variables ++ kept_of_fields) → ChangesListed tables sc (take framed sc) writes s t
      forth h = record {
        variables = variables.0 (all_left (IsTrueAt r bs) kept_of_variables kept_of_fields h);
        locations = λ o f. every_field tables globals sc r bs before s t typed_s typed_t stands_s writes typed
            (fields_forth tables globals sc r bs before s t typed_s typed_t stands_s writes typed tables.fields before.maps after.maps stands_s.maps stands_t.maps
            (all_right (IsTrueAt r bs) kept_of_variables kept_of_fields h)) f o;
      }

      back : ChangesListed tables sc (take framed sc) writes s t → AllByRecursion (IsTrueAt r bs) (kept_of_variables ++ kept_of_fields)
      back h = all_append (IsTrueAt r bs) kept_of_variables kept_of_fields (variables.1 h.variables)
          (fields_back tables globals sc r bs before s t typed_s typed_t stands_s writes typed tables.fields before.maps after.maps stands_s.maps stands_t.maps (λ f o. h.locations o f))

pub exact_frame : (numbers : Numbers) (ds : List Decl) (framed : ℕ) (writes : List Effect) (before after : Store)
    → IsExactFrame numbers ds framed writes before after (frame_of numbers ds framed writes before after)
exact_frame numbers ds framed writes before after tables globals sc is_numbers is_ds typed r bs s t typed_s typed_t stands_s stands_t =
    subst (λ n. IsTrueAt r bs (frame_of n ds framed writes before after) ↔ ChangesListed tables sc (take framed sc) writes s t) (sym is_numbers)
    (subst (λ d. IsTrueAt r bs (frame_of (numbered tables) d framed writes before after) ↔ ChangesListed tables sc (take framed sc) writes s t) (sym is_ds)
    (frame_here tables sc framed writes before after globals typed r bs s t typed_s typed_t stands_s stands_t))
