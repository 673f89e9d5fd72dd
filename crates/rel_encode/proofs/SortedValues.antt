-- The values of a well-formed state have their terms' sorts.
use Rattle.std.proofs.Common.{◌≡◌, ◌⊎◌, inl, inr, ⊎_elim, pos, Bool, true, false, ◌&&◌, MatchBool, Contains, List, [], ◌∷◌, map, Option, Some, None, refl, sym, ap, subst, ◌∙◌, arith}
use Rattle.std.specs.List.{list_any}
use Rattle.std.specs.FinSet as set
use Rattle.std.specs.Ordering.{eq_by_cmp}
use Rattle.std.proofs.lemmas.List.Elements.{Contains-append_right}
use Rattle.rel_list.specs.References.{Obj, obj_cmp, Ref, Region, is_in}
use Rattle.rel_list.specs.Regions.{nothing}
use Rattle.rel_list.specs.Maps.{IsFinite}
use Rattle.rel_list.proofs.Sets.{ties, or_one}
use Rattle.rel_lang.specs.Syntax.{Word, Ty, Int, Rgn, Class}
use Rattle.rel_lang.specs.State.{find_field, ClassField, Tables, is_of_field, Value, as_number, as_reference, as_region, default, default_of, State, value_in, read_field, LocationFits}
use Rattle.rel_lang.proofs.Values.{Fits}
use Rattle.rel_lang.proofs.Writes.{all_weaker, all_everywhere}
use Rattle.rel_logic.specs.Truth.{HasSort}
use Rattle.rel_encode.specs.Relations.{sort_of_type}
use Rattle.rel_encode.specs.Meaning.{elem_of, field_map, HasTypedHeap}
use Rattle.rel_encode.specs.Laws.{sort_of_map, WellFormedStatesHaveSortedValues}
use Rattle.rel_encode.proofs.OfKind.{is_number, is_region, is_reference, fits_kind}

-- ---- variables

module _ (tables : Tables) where
  sorted : (ty : Ty) (g : Region) (v : Value) → Fits tables g ty v → HasSort (sort_of_type ty) (elem_of v)
  sorted Int g v fits = (as_number v, sym (is_number v (fits_kind tables Int g v fits)))
  sorted Rgn g v fits = (as_region v, sym (is_region v (fits_kind tables Rgn g v fits)))
  sorted (Class c) g v fits = (as_reference v, sym (is_reference c v (fits_kind tables (Class c) g v fits)))

-- ---- the maps of fields are finite

among : (o : Obj) (xs : List Obj) → list_any (eq_by_cmp obj_cmp o) xs ≡ true → Contains (map Some xs) (Some o)
among o [] e = cc
among o (x ∷ xs) e =
    ⊎_elim (λ t. (0, omega arith, ap Some (sym (ties o x t)))) (λ t. Contains-append_right (Some x ∷ []) (map Some xs) (Some o) (among o xs t)) (or_one _ _ e)

-- a location whose object isn't allocated holds a default
default_there : (tables : Tables) (f : Word) (s : State) (o : Obj) → LocationFits tables (find_field tables f) s.alloc (s.heap o f) o → is_in o s.alloc ≡ false
    → s.heap o f ≡ default_of (find_field tables f)
default_there tables f s o fits outside =
    elim (find_field tables f) as (λ d. LocationFits tables d s.alloc (s.heap o f) o → s.heap o f ≡ default_of d) [
      | None ↦ λ h. h
      | Some d ↦ λ h. subst (λ b. MatchBool (b && is_of_field tables (Some d) o) (Fits tables s.alloc d.ty (s.heap o f)) (s.heap o f ≡ default d.ty)) outside h
    ] fits

-- every default counts as the default of each type
number_of_default : (ty : Ty) → as_number (default ty) ≡ pos 0
number_of_default Int = refl
number_of_default Rgn = refl
number_of_default (Class c) = refl

reference_of_default : (ty : Ty) → as_reference (default ty) ≡ None
reference_of_default Int = refl
reference_of_default Rgn = refl
reference_of_default (Class c) = refl

region_of_default : (ty : Ty) → as_region (default ty) ≡ nothing
region_of_default Int = refl
region_of_default Rgn = refl
region_of_default (Class c) = refl

module _ (tables : Tables) (f : Word) (s : State) (typed : HasTypedHeap tables s) where
  -- outside what is allocated the field holds its default
  finite : {V : Type 0} (part : Value → V) (v : V) → ((ty : Ty) → part (default ty) ≡ v) → IsFinite v (λ x. part (read_field tables x f s))
  finite part v defaults = (map Some (set.items s.alloc), λ x. at x)
    where
      of_field : (d : Option ClassField) → part (default_of d) ≡ v
      of_field None = defaults Int
      of_field (Some d) = defaults d.ty

      by_test : (o : Obj) (b : Bool) → is_in o s.alloc ≡ b → (part (s.heap o f) ≡ v) ⊎ Contains (map Some (set.items s.alloc)) (Some o)
      by_test o true e = inr (among o (set.items s.alloc) (sym (set.contains-items s.alloc o) ∙ e))
      by_test o false e = inl (ap part (default_there tables f s o (typed o f) e) ∙ of_field (find_field tables f))

      at : (x : Ref) → (part (read_field tables x f s) ≡ v) ⊎ Contains (map Some (set.items s.alloc)) x
      at None = inl (of_field (find_field tables f))
      at (Some o) = by_test o (is_in o s.alloc) refl

  sorted_map : (ty : Ty) → HasSort (sort_of_map ty) (field_map tables f ty s)
  sorted_map Int = (record { at = λ x. as_number (read_field tables x f s); is_finite = finite as_number (pos 0) number_of_default }, refl)
  sorted_map Rgn = (record { at = λ x. as_region (read_field tables x f s); is_finite = finite as_region nothing region_of_default }, refl)
  sorted_map (Class c) = (record { at = λ x. as_reference (read_field tables x f s); is_finite = finite as_reference None reference_of_default }, refl)

pub sorted_values : WellFormedStatesHaveSortedValues
sorted_values tables sc s formed = record {
  variables = all_weaker _ _ (λ v. sorted tables v.ty s.alloc (value_in s v)) sc formed.variables;
  maps = all_everywhere _ (λ d. sorted_map tables d.name s formed.locations d.ty) tables.fields;
}
