-- The facts hold in every well-formed state.
use Rattle.std.proofs.Common.{◌≡◌, Bool, true, false, ◌&&◌, if◌then◌else◌, IsTrue, MatchBool, List, [], ◌∷◌, map, Option, Some, None, refl, sym, ap, subst, ◌∙◌, inl, inr}
use Rattle.std.specs.Prelude.{bytes_eq}
use Rattle.std.specs.List.{AllByRecursion}
use Rattle.std.proofs.lemmas.Slice.Eq.{bytes_eq-Decides}
use Rattle.std.proofs.lemmas.Bool.Decides.{Decides-eqb}
use Rattle.rel_list.specs.References.{Ref, Region, is_in}
use Rattle.rel_list.proofs.Sets.{and_both}
use Rattle.rel_lang.specs.Syntax.{Word, Ty, Int, Rgn, Class, Decl}
use Rattle.rel_lang.specs.State.{find_named, ClassField, Tables, class_number, find_field, is_of_field, Value, Number, Reference, Objects, as_region, default, default_of, State, Scope, value_in, read_field, LocationFits}
use Rattle.rel_lang.specs.Typed.{IsAmong, AreDistinct}
use Rattle.rel_lang.proofs.Values.{Within, is_within_each, Fits, default_fits}
use Rattle.rel_lang.proofs.Writes.{all_append}
use Rattle.rel_logic.specs.Syntax.{Trm, bound, sel, Fml}
use Rattle.rel_logic.specs.Truth.{Elem, ref, rgn, as_ref, as_rgn, selected, Valuation, value, IsMember, IsOfClass, IsTrueAt}
use Rattle.rel_encode.specs.Numbers.{Numbers, numbered_field, numbered, number_of_class, declarations_of}
use Rattle.rel_encode.specs.Terms.{Store, lifted}
use Rattle.rel_encode.specs.Facts.{is_a_variable, null_or_of_class, variable_facts, map_facts, facts_of_variables, facts_of_maps, basics}
use Rattle.rel_encode.specs.Meaning.{elem_of, field_map, HasTypedHeap, AreValues, AreMaps}
use Rattle.rel_encode.specs.Laws.{AreTrueFacts}
use Rattle.rel_encode.proofs.Small.{under_one, under_two, subset_true}
use Rattle.rel_encode.proofs.OfKind.{same_objects, selected_value}

-- ---- lists without two of a name

behind : {A : Type 0} (b : Bool) (x : A) (o p : Option A) → (b ≡ true → ⊥) → o ≡ p → (if b then Some x else o) ≡ p
behind true x o p h e = absurd (h refl)
behind false x o p h e = e

firsts_later : {A : Type 0} (name : A → Word) (x : A) (xs ys : List A) → ¬ (IsAmong (name x) (map name ys)) → AllByRecursion (λ a. find_named name (name a) xs ≡ Some a) ys
    → AllByRecursion (λ a. find_named name (name a) (x ∷ xs) ≡ Some a) ys
firsts_later name x xs [] h all = tt
firsts_later name x xs (y ∷ ys) h all = (
  behind (bytes_eq (name y) (name x)) x _ _ (λ e. h (inl (sym ((bytes_eq-Decides (name y) (name x)).0 e)))) all.0,
  firsts_later name x xs ys (λ e. h (inr e)) all.1,
)

-- each of them is the first of its name
pub first_of_names : {A : Type 0} (name : A → Word) (xs : List A) → AreDistinct (map name xs) → AllByRecursion (λ a. find_named name (name a) xs ≡ Some a) xs
first_of_names name [] h = tt
first_of_names name (x ∷ xs) h = (
  ap (λ b. if b then Some x else find_named name (name x) xs) ((bytes_eq-Decides (name x) (name x)).1 refl),
  firsts_later name x xs xs h.0 (first_of_names name xs h.1),
)

-- ---- the facts of a variable

module _ (tables : Tables) (r : Valuation) where
  class_fact : (bs : List Elem) (c : Word) (t alloc : Trm) (v : Value) (g : Region) → value r bs t ≡ elem_of v → value r bs alloc ≡ rgn g → Fits tables g (Class c) v
      → IsTrueAt r bs (null_or_of_class (number_of_class (numbered tables) c) t alloc)
  class_fact bs c t alloc (Number n) g is is_g fits = cc
  class_fact bs c t alloc (Reference None) g is is_g fits = λ neither. neither.0 is
  class_fact bs c t alloc (Reference (Some o)) g is is_g fits =
      let both = and_both _ _ fits in
      λ neither. neither.1 (
        subst (λ v. IsOfClass (class_number tables c) (as_ref v)) (sym is) ((Decides-eqb o.class (class_number tables c)).0 both.1),
        subst (λ v. IsMember (as_ref v) (as_rgn (value r bs alloc))) (sym is) (subst (λ v. IsTrue (is_in o (as_rgn v))) (sym is_g) both.0),
      )
  class_fact bs c t alloc (Objects k) g is is_g fits = cc

  -- a region that fits is within what is allocated
  region_within : (v : Value) (g : Region) → Fits tables g Rgn v → Within (as_region v) g
  region_within (Number n) g fits = cc
  region_within (Reference x) g fits = cc
  region_within (Objects k) g fits = is_within_each k g fits

  variable_facts_true : (bs : List Elem) (ty : Ty) (t alloc : Trm) (v : Value) (g : Region) → value r bs t ≡ elem_of v → value r bs alloc ≡ rgn g → Fits tables g ty v
      → AllByRecursion (IsTrueAt r bs) (variable_facts (numbered tables) alloc ty t)
  variable_facts_true bs Int t alloc v g is is_g fits = tt
  variable_facts_true bs Rgn t alloc v g is is_g fits =
      ((subset_true r bs t alloc).1 (λ o e. subst (λ k. IsTrue (is_in o k)) (sym (ap as_rgn is_g)) (region_within v g fits o (subst (λ k. IsTrue (is_in o k)) (ap as_rgn is ∙ same_objects v) e))), tt)
  variable_facts_true bs (Class c) t alloc v g is is_g fits = (class_fact bs c t alloc v g is is_g fits, tt)

  if_true : (bs : List Elem) (b : Bool) (fs : List Fml) → AllByRecursion (IsTrueAt r bs) fs → AllByRecursion (IsTrueAt r bs) (if b then fs else [])
  if_true bs true fs h = h
  if_true bs false fs h = tt

  variables_true : (bs : List Elem) (alloc : Trm) (s : State) (sc : Scope) (ts : List Trm) → value r bs alloc ≡ rgn s.alloc
      → AllByRecursion (λ v. Fits tables s.alloc v.ty (value_in s v)) sc → AreValues r bs sc ts s
      → AllByRecursion (IsTrueAt r bs) (facts_of_variables (numbered tables) alloc (declarations_of sc) ts)
  variables_true bs alloc s [] ts is_g fits are = tt
  variables_true bs alloc s (v ∷ vs) [] is_g fits are = absurd are
  variables_true bs alloc s (v ∷ vs) (t ∷ ts) is_g fits are =
      all_append (IsTrueAt r bs) (if is_a_variable t then variable_facts (numbered tables) alloc v.ty t else []) (facts_of_variables (numbered tables) alloc (declarations_of vs) ts)
      (if_true bs (is_a_variable t) (variable_facts (numbered tables) alloc v.ty t) (variable_facts_true bs v.ty t alloc (value_in s v) s.alloc are.0 is_g fits.0))
      (variables_true bs alloc s vs ts is_g fits.1 are.1)

  -- ---- the facts of a field's map

  -- what a field holds fits its type, whosever the object is, and null too
  read_fits : (f : Word) (d : ClassField) (x : Ref) (s : State) → find_field tables f ≡ Some d → HasTypedHeap tables s → Fits tables s.alloc d.ty (read_field tables x f s)
  read_fits f d None s is typed = subst (λ w. Fits tables s.alloc d.ty (default_of w)) (sym is) (default_fits tables d.ty s.alloc)
  read_fits f d (Some o) s is typed =
      elim (is_in o s.alloc && is_of_field tables (Some d) o) as (λ b. MatchBool b (Fits tables s.alloc d.ty (s.heap o f)) (s.heap o f ≡ default d.ty) → Fits tables s.alloc d.ty (s.heap o f)) [
        | true ↦ λ h. h
        | false ↦ λ h. subst (Fits tables s.alloc d.ty) (sym h) (default_fits tables d.ty s.alloc)
      ] (subst (λ w. LocationFits tables w s.alloc (s.heap o f) o) is (typed o f))

  module _ (bs : List Elem) (m alloc : Trm) (f : Word) (s : State) (is_g : value r bs alloc ≡ rgn s.alloc) where
    map_facts_true : (ty : Ty) → value r bs m ≡ field_map tables f ty s → ((x : Ref) → selected (field_map tables f ty s) x ≡ elem_of (read_field tables x f s))
        → ((x : Ref) → Fits tables s.alloc ty (read_field tables x f s)) → AllByRecursion (IsTrueAt r bs) (map_facts (numbered tables) alloc ty m)
    map_facts_true Int is each fits = tt
    map_facts_true Rgn is each fits = (λ x y. at x y, tt)
      where
        here : (x y : Ref) → as_rgn (selected (value r (ref y ∷ ref x ∷ bs) (lifted 2 m)) x) ≡ as_region (read_field tables x f s)
        here x y = ap (λ e. as_rgn (selected e x)) (under_two r bs (ref y) (ref x) m ∙ is) ∙ ap as_rgn (each x) ∙ same_objects (read_field tables x f s)

        at : (x y : Ref) → IsMember y (as_rgn (selected (value r (ref y ∷ ref x ∷ bs) (lifted 2 m)) x)) → IsMember y (as_rgn (value r (ref y ∷ ref x ∷ bs) (lifted 2 alloc)))
        at x None e = e
        at x (Some o) e =
            subst (λ v. IsTrue (is_in o (as_rgn v))) (sym (under_two r bs (ref (Some o)) (ref x) alloc ∙ is_g))
            (region_within (read_field tables x f s) s.alloc (fits x) o (subst (λ k. IsTrue (is_in o k)) (here x (Some o)) e))
    map_facts_true (Class c) is each fits = (λ x. at x, tt)
      where
        at : (x : Ref) → IsTrueAt r (ref x ∷ bs) (null_or_of_class (number_of_class (numbered tables) c) (sel (lifted 1 m) (bound 0)) (lifted 1 alloc))
        at x = class_fact (ref x ∷ bs) c (sel (lifted 1 m) (bound 0)) (lifted 1 alloc) (read_field tables x f s) s.alloc
            (ap (λ v. selected v x) (under_one r bs (ref x) m ∙ is) ∙ each x) (under_one r bs (ref x) alloc ∙ is_g) (fits x)

  maps_true : (bs : List Elem) (alloc : Trm) (s : State) (ds : List ClassField) (ms : List Trm) → value r bs alloc ≡ rgn s.alloc → HasTypedHeap tables s
      → AllByRecursion (λ d. find_field tables d.name ≡ Some d) ds → AreMaps tables r bs ds ms s
      → AllByRecursion (IsTrueAt r bs) (facts_of_maps (numbered tables) alloc (map (numbered_field tables) ds) ms)
  maps_true bs alloc s [] ms is_g typed firsts are = tt
  maps_true bs alloc s (d ∷ ds) [] is_g typed firsts are = absurd are
  maps_true bs alloc s (d ∷ ds) (m ∷ ms) is_g typed firsts are =
      all_append (IsTrueAt r bs) (if is_a_variable m then map_facts (numbered tables) alloc d.ty m else []) (facts_of_maps (numbered tables) alloc (map (numbered_field tables) ds) ms)
      (if_true bs (is_a_variable m) (map_facts (numbered tables) alloc d.ty m)
      (map_facts_true bs m alloc d.name s is_g d.ty are.0 (selected_value tables d.name d s firsts.0 typed) (λ x. read_fits d.name d x s firsts.0 typed)))
      (maps_true bs alloc s ds ms is_g typed firsts.1 are.1)

pub true_facts : (numbers : Numbers) (ds : List Decl) (st : Store) → AreTrueFacts numbers ds st (basics numbers ds st)
true_facts numbers ds st tables sc is_numbers is_ds distinct r bs s formed stands =
    subst (λ n. AllByRecursion (IsTrueAt r bs) (basics n ds st)) (sym is_numbers)
    (subst (λ d. AllByRecursion (IsTrueAt r bs) (basics (numbered tables) d st)) (sym is_ds)
    (all_append (IsTrueAt r bs) (facts_of_variables (numbered tables) st.alloc (declarations_of sc) st.vars) (facts_of_maps (numbered tables) st.alloc (numbered tables).fields st.maps)
    (variables_true tables r bs st.alloc s sc st.vars stands.alloc formed.variables stands.variables)
    (maps_true tables r bs st.alloc s tables.fields st.maps stands.alloc formed.locations (first_of_names (λ d. d.name) tables.fields distinct) stands.maps)))
