-- Values of one kind: numbers, regions or references. In a typed heap each field's values are of one.
use Rattle.std.proofs.Common.{◌≡◌, ◌≢◌, true, false, ◌&&◌, IsTrue, MatchBool, IsSomeAnd, Option, Some, None, refl, sym, subst}
use Rattle.rel_list.specs.References.{Obj, Ref, Region, is_in, just}
use Rattle.rel_list.specs.Regions.{united_over}
use Rattle.rel_lang.specs.Syntax.{Word, Ty, Int, Rgn, Class}
use Rattle.rel_lang.specs.State as state
use Rattle.rel_lang.specs.State.{ClassField, Tables, find_field, is_of_field, Value, Number, Reference, Objects, as_reference, as_region, objects_in, default, default_of, fits_type, State, read_field, LocationFits}
use Rattle.rel_logic.specs.Truth.{number, ref, rgn, as_number, as_ref, as_rgn, selected, image}
use Rattle.rel_encode.specs.Meaning.{elem_of, field_map, HasTypedHeap}

abbrev pub IsOfKind : Ty → Value → Type 0
IsOfKind Int (Number n) = Unit {0}
IsOfKind Rgn (Objects g) = Unit {0}
IsOfKind (Class c) (Reference r) = Unit {0}
IsOfKind ty v = ⊥

-- ---- a value in the logic

pub same_number : (v : Value) → as_number (elem_of v) ≡ state.as_number v
same_number (Number n) = refl
same_number (Reference r) = refl
same_number (Objects g) = refl

pub same_reference : (v : Value) → as_ref (elem_of v) ≡ as_reference v
same_reference (Number n) = refl
same_reference (Reference r) = refl
same_reference (Objects g) = refl

pub same_objects : (v : Value) → as_rgn (elem_of v) ≡ as_region v
same_objects (Number n) = refl
same_objects (Reference r) = refl
same_objects (Objects g) = refl

pub is_number : (v : Value) → IsOfKind Int v → number (state.as_number v) ≡ elem_of v
is_number (Number n) h = refl
is_number (Reference r) h = absurd h
is_number (Objects g) h = absurd h

pub is_region : (v : Value) → IsOfKind Rgn v → rgn (as_region v) ≡ elem_of v
is_region (Number n) h = absurd h
is_region (Reference r) h = absurd h
is_region (Objects g) h = refl

pub is_reference : (c : Word) (v : Value) → IsOfKind (Class c) v → ref (as_reference v) ≡ elem_of v
is_reference c (Number n) h = absurd h
is_reference c (Reference r) h = refl
is_reference c (Objects g) h = absurd h

-- ---- what fits is of the kind

pub default_kind : (ty : Ty) → IsOfKind ty (default ty)
default_kind Int = tt
default_kind Rgn = tt
default_kind (Class c) = tt

module _ (tables : Tables) where
  pub fits_kind : (ty : Ty) (alloc : Region) (v : Value) → IsTrue (fits_type tables ty alloc v) → IsOfKind ty v
  fits_kind Int alloc (Number n) fits = tt
  fits_kind Int alloc (Reference r) fits = cc
  fits_kind Int alloc (Objects g) fits = cc
  fits_kind Rgn alloc (Number n) fits = cc
  fits_kind Rgn alloc (Reference r) fits = cc
  fits_kind Rgn alloc (Objects g) fits = tt
  fits_kind (Class c) alloc (Number n) fits = cc
  fits_kind (Class c) alloc (Reference r) fits = tt
  fits_kind (Class c) alloc (Objects g) fits = cc

  location_kind : (d : ClassField) (alloc : Region) (v : Value) (o : Obj) → LocationFits tables (Some d) alloc v o → IsOfKind d.ty v
  location_kind d alloc v o fits =
      elim (is_in o alloc && is_of_field tables (Some d) o) as (λ b. MatchBool b (IsTrue (fits_type tables d.ty alloc v)) (v ≡ default d.ty) → IsOfKind d.ty v) [
        | true ↦ λ h. fits_kind d.ty alloc v h
        | false ↦ λ h. subst (IsOfKind d.ty) (sym h) (default_kind d.ty)
      ] fits

  module _ (f : Word) (d : ClassField) (s : State) (is : find_field tables f ≡ Some d) (typed : HasTypedHeap tables s) where
    pub heap_kind : (o : Obj) → IsOfKind d.ty (s.heap o f)
    heap_kind o = location_kind d s.alloc (s.heap o f) o (subst (λ w. LocationFits tables w s.alloc (s.heap o f) o) is (typed o f))

    pub read_kind : (r : Ref) → IsOfKind d.ty (read_field tables r f s)
    read_kind None = subst (λ w. IsOfKind d.ty (default_of w)) (sym is) (default_kind d.ty)
    read_kind (Some o) = heap_kind o

  -- ---- a field as a map

  selected_kind : (ty : Ty) (f : Word) (s : State) (r : Ref) → IsOfKind ty (read_field tables r f s) → selected (field_map tables f ty s) r ≡ elem_of (read_field tables r f s)
  selected_kind Int f s r h = is_number _ h
  selected_kind Rgn f s r h = is_region _ h
  selected_kind (Class c) f s r h = is_reference c _ h

  region_objects : (v : Value) → IsOfKind Rgn v → as_region v ≡ objects_in v
  region_objects (Number n) h = absurd h
  region_objects (Reference r) h = absurd h
  region_objects (Objects g) h = refl

  image_kind : (ty : Ty) (f : Word) (s : State) (g : Region) → ty ≢ Int → ((o : Obj) → IsOfKind ty (s.heap o f))
      → image (field_map tables f ty s) g ≡ united_over (λ o. objects_in (s.heap o f)) g
  image_kind Int f s g other h = absurd (other refl)
  image_kind Rgn f s g other h = λ i. united_over (λ o. region_objects (s.heap o f) (h o) i) g
  image_kind (Class c) f s g other h = λ i. united_over (λ o. reference_objects (s.heap o f) (h o) i) g
    where
      reference_objects : (v : Value) → IsOfKind (Class c) v → just (as_reference v) ≡ objects_in v
      reference_objects (Number n) h = absurd h
      reference_objects (Reference r) h = refl
      reference_objects (Objects g) h = absurd h

  module _ (f : Word) (d : ClassField) (s : State) (is : find_field tables f ≡ Some d) (typed : HasTypedHeap tables s) where
    pub selected_value : (r : Ref) → selected (field_map tables f d.ty s) r ≡ elem_of (read_field tables r f s)
    selected_value r = selected_kind d.ty f s r (read_kind f d s is typed r)

    pub image_value : (g : Region) → d.ty ≢ Int → image (field_map tables f d.ty s) g ≡ united_over (λ o. objects_in (s.heap o f)) g
    image_value g other = image_kind d.ty f s g other (heap_kind f d s is typed)

-- the one that there is
pub is_there : {A : Type 0} {P : A → Type 0} (o : Option A) → IsSomeAnd o P → (a : A) × (o ≡ Some a) × P a
is_there None h = absurd h
is_there (Some a) h = (a, refl, h)
