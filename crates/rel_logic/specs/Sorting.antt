-- The sorts of terms, and the formulas that are closed and well sorted.
use Rattle.std.specs.Prelude.{Bool, true, false, ◌&&◌, if◌then◌else◌, List, [], ◌∷◌, slice_get, Option, Some, None}
use Rattle.rel_logic.specs.Syntax.{Srt, int_sort, ref_sort, rgn_sort, map_int_sort, map_ref_sort, map_rgn_sort, bij_sort, Trm, var, bound, int, add, sub, mul, null, sel, sto, empty, one, cup, cap, less, img, of, link, Fml, verum, falsum, eq, lt, le, member, is, paired, ext, no, and, or, imp, every, some}

abbrev pub same_srt : Srt → Srt → Bool
same_srt int_sort int_sort = true
same_srt ref_sort ref_sort = true
same_srt rgn_sort rgn_sort = true
same_srt map_int_sort map_int_sort = true
same_srt map_ref_sort map_ref_sort = true
same_srt map_rgn_sort map_rgn_sort = true
same_srt bij_sort bij_sort = true
same_srt _ _ = false

abbrev pub is_of : Srt → Option Srt → Bool
is_of s None = false
is_of s (Some t) = same_srt s t

-- both have the one sort
abbrev pub are_of_one : Option Srt → Option Srt → Bool
are_of_one None o = false
are_of_one (Some s) o = is_of s o

-- the result, where the argument's sort is the wanted one
abbrev pub takes : Srt → Option Srt → Option Srt → Option Srt
takes want given result = if is_of want given then result else None

-- the sort of the values of a map
abbrev pub value_sort : Option Srt → Option Srt
value_sort (Some map_int_sort) = Some int_sort
value_sort (Some map_ref_sort) = Some ref_sort
value_sort (Some map_rgn_sort) = Some rgn_sort
value_sort _ = None

-- a region's sort, where the argument is a map whose values make one
abbrev pub image_sort : Option Srt → Option Srt
image_sort (Some map_ref_sort) = Some rgn_sort
image_sort (Some map_rgn_sort) = Some rgn_sort
image_sort _ = None

-- the map's sort, where its values have the other one
abbrev pub stored_sort : Option Srt → Option Srt → Option Srt
stored_sort m o = if are_of_one (value_sort m) o then m else None

-- the sort of a term where it has one, from those of the variables and of the bound numbers
module _ (sorts : List Srt) (bounds : List Srt) where
  abbrev pub sort_at : Trm → Option Srt
  sort_at (var n) = slice_get sorts n
  sort_at (bound n) = slice_get bounds n
  sort_at (int n) = Some int_sort
  sort_at (add a b) = takes int_sort (sort_at a) (takes int_sort (sort_at b) (Some int_sort))
  sort_at (sub a b) = takes int_sort (sort_at a) (takes int_sort (sort_at b) (Some int_sort))
  sort_at (mul k a) = takes int_sort (sort_at a) (Some int_sort)
  sort_at null = Some ref_sort
  sort_at (sel m a) = takes ref_sort (sort_at a) (value_sort (sort_at m))
  sort_at (sto m a b) = takes ref_sort (sort_at a) (stored_sort (sort_at m) (sort_at b))
  sort_at empty = Some rgn_sort
  sort_at (one a) = takes ref_sort (sort_at a) (Some rgn_sort)
  sort_at (cup g h) = takes rgn_sort (sort_at g) (takes rgn_sort (sort_at h) (Some rgn_sort))
  sort_at (cap g h) = takes rgn_sort (sort_at g) (takes rgn_sort (sort_at h) (Some rgn_sort))
  sort_at (less g h) = takes rgn_sort (sort_at g) (takes rgn_sort (sort_at h) (Some rgn_sort))
  sort_at (img m g) = takes rgn_sort (sort_at g) (image_sort (sort_at m))
  sort_at (of c g) = takes rgn_sort (sort_at g) (Some rgn_sort)
  sort_at (link p a b) = takes bij_sort (sort_at p) (takes ref_sort (sort_at a) (takes ref_sort (sort_at b) (Some bij_sort)))

  abbrev pub has_sort : Srt → Trm → Bool
  has_sort s t = is_of s (sort_at t)

-- every bound number is taken by a quantifier or has its sort in the list, and the sorts fit
abbrev pub is_sorted : List Srt → List Srt → Fml → Bool
is_sorted sorts bounds verum = true
is_sorted sorts bounds falsum = true
is_sorted sorts bounds (eq a b) = are_of_one (sort_at sorts bounds a) (sort_at sorts bounds b)
is_sorted sorts bounds (lt a b) = has_sort sorts bounds int_sort a && has_sort sorts bounds int_sort b
is_sorted sorts bounds (le a b) = has_sort sorts bounds int_sort a && has_sort sorts bounds int_sort b
is_sorted sorts bounds (member a g) = has_sort sorts bounds ref_sort a && has_sort sorts bounds rgn_sort g
is_sorted sorts bounds (is c a) = has_sort sorts bounds ref_sort a
is_sorted sorts bounds (paired p a b) = has_sort sorts bounds bij_sort p && (has_sort sorts bounds ref_sort a && has_sort sorts bounds ref_sort b)
is_sorted sorts bounds (ext p q) = has_sort sorts bounds bij_sort p && has_sort sorts bounds bij_sort q
is_sorted sorts bounds (no f) = is_sorted sorts bounds f
is_sorted sorts bounds (and f g) = is_sorted sorts bounds f && is_sorted sorts bounds g
is_sorted sorts bounds (or f g) = is_sorted sorts bounds f && is_sorted sorts bounds g
is_sorted sorts bounds (imp f g) = is_sorted sorts bounds f && is_sorted sorts bounds g
is_sorted sorts bounds (every s f) = is_sorted sorts (s ∷ bounds) f
is_sorted sorts bounds (some s f) = is_sorted sorts (s ∷ bounds) f

-- closed and well sorted over the variables of these sorts
abbrev pub is_well_sorted : List Srt → Fml → Bool
is_well_sorted sorts f = is_sorted sorts [] f
