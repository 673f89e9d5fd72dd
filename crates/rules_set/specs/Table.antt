-- The rules on references, classes and regions, rows 27 to 42 of the table.
use Rattle.std.specs.Prelude.{ℕ, ◌==◌, Bool, true, false, not, ◌&&◌, if◌then◌else◌, List, [], ◌∷◌, length, Option, Some, None}
use Rattle.rel_logic.specs.Syntax.{Srt, ref_sort, rgn_sort, map_rgn_sort, Trm, var, null, sel, empty, one, cup, cap, less, img, of, Fml, eq, member, is, paired, no, Nod}
use Rattle.rel_logic.specs.Sorting.{has_sort}
use Rattle.rel_logic.specs.Equal.{same_trm}
use Rattle.rules_table.specs.Nodes.{Stp, Addition, Outcome, not_mine, bad, kids}
use Rattle.rules_table.specs.Table.{adds, holds, formula, term, on, only, the_formula, formula_by_term, one_child, two_children}

-- ---- arguments

-- the reference and the region of a formula that says that the first is in the second
abbrev pub membership : Option Fml → Option (Trm × Trm)
membership (Some (member a g)) = Some (a, g)
membership _ = None

-- the same where it says that it isn't
abbrev pub non_membership : Option Fml → Option (Trm × Trm)
non_membership (Some (no (member a g))) = Some (a, g)
non_membership _ = None

-- a rule on both, where they are there
abbrev pub on_both : (Trm → Trm → Outcome) → Option (Trm × Trm) → Outcome
on_both rule None = bad
on_both rule (Some p) = rule p.0 p.1

-- ---- references and classes

abbrev pub isnt_null : Trm → Fml
isnt_null a = no (eq a null)

-- 27: what is in a region, of a class or a partner isn't null
abbrev pub nonnull_row : Fml → Outcome
nonnull_row (member a g) = one_child (isnt_null a ∷ [])
nonnull_row (is c a) = one_child (isnt_null a ∷ [])
nonnull_row (paired p a b) = one_child (isnt_null a ∷ isnt_null b ∷ [])
nonnull_row _ = bad

-- 28: nothing is of two classes
abbrev pub are_apart : Option Fml → Option Fml → Bool
are_apart (Some (is c a)) (Some (is d b)) = same_trm a b && not (c == d)
are_apart _ _ = false

abbrev pub istwo_row : Nod → Stp → Outcome
istwo_row n s = if holds 2 0 0 s && are_apart (formula n s 0) (formula n s 1) then kids [] else bad

-- ---- members of regions, by what the region is

-- 29: nothing is in the empty region
abbrev pub is_empty : Trm → Bool
is_empty empty = true
is_empty _ = false

abbrev pub inempty_row : Trm → Outcome
inempty_row g = if is_empty g then kids [] else bad

-- 30, 31: the region of one reference
abbrev pub insingle_row : Trm → Trm → Outcome
insingle_row a (one b) = one_child (eq a b ∷ isnt_null a ∷ [])
insingle_row a _ = bad

abbrev pub ninsingle_row : Trm → Trm → Outcome
ninsingle_row a (one b) = two_children (no (eq a b) ∷ []) (eq a null ∷ [])
ninsingle_row a _ = bad

-- 32, 33: a union
abbrev pub inunion_row : Trm → Trm → Outcome
inunion_row a (cup g h) = two_children (member a g ∷ []) (member a h ∷ [])
inunion_row a _ = bad

abbrev pub ninunion_row : Trm → Trm → Outcome
ninunion_row a (cup g h) = one_child (no (member a g) ∷ no (member a h) ∷ [])
ninunion_row a _ = bad

-- 34, 35: what two regions have in common
abbrev pub inmeet_row : Trm → Trm → Outcome
inmeet_row a (cap g h) = one_child (member a g ∷ member a h ∷ [])
inmeet_row a _ = bad

abbrev pub ninmeet_row : Trm → Trm → Outcome
ninmeet_row a (cap g h) = two_children (no (member a g) ∷ []) (no (member a h) ∷ [])
ninmeet_row a _ = bad

-- 36, 37: a difference
abbrev pub inminus_row : Trm → Trm → Outcome
inminus_row a (less g h) = one_child (member a g ∷ no (member a h) ∷ [])
inminus_row a _ = bad

abbrev pub ninminus_row : Trm → Trm → Outcome
ninminus_row a (less g h) = two_children (no (member a g) ∷ []) (member a h ∷ [])
ninminus_row a _ = bad

-- 38, 39: the members of a class
abbrev pub infilter_row : Trm → Trm → Outcome
infilter_row a (of c g) = one_child (member a g ∷ is c a ∷ [])
infilter_row a _ = bad

abbrev pub ninfilter_row : Trm → Trm → Outcome
ninfilter_row a (of c g) = two_children (no (member a g) ∷ []) (no (is c a) ∷ [])
ninfilter_row a _ = bad

-- the map gives a at o, or, where it gives regions, one that has a
abbrev pub gives : Bool → Trm → Trm → Trm → Fml
gives regions m o a = if regions then member a (sel m o) else eq (sel m o) a

-- 40, 41: an image
abbrev pub given_by : ℕ → Bool → Trm → Trm → Trm → Addition
given_by fresh regions m g a = record { fresh = ref_sort ∷ []; forms = member (var fresh) g ∷ gives regions m (var fresh) a ∷ [] }

abbrev pub inimage_row : List Srt → Trm → Trm → Outcome
inimage_row sorts a (img m g) = kids (given_by (length sorts) (has_sort sorts [] map_rgn_sort m) m g a ∷ [])
inimage_row sorts a _ = bad

abbrev pub ninimage_row : List Srt → Trm → Trm → Trm → Outcome
ninimage_row sorts t a (img m g) =
    only (has_sort sorts [] ref_sort t) (kids (adds (no (member t g) ∷ []) ∷ adds (no (gives (has_sort sorts [] map_rgn_sort m) m t a) ∷ []) ∷ adds (eq a null ∷ []) ∷ []))
ninimage_row sorts t a _ = bad

-- 42: of two regions that differ, one has a member that the other doesn't have
abbrev pub has_alone : ℕ → Trm → Trm → Addition
has_alone fresh g h = record { fresh = ref_sort ∷ []; forms = member (var fresh) g ∷ no (member (var fresh) h) ∷ [] }

abbrev pub has_not : ℕ → Trm → Trm → Addition
has_not fresh g h = record { fresh = ref_sort ∷ []; forms = no (member (var fresh) g) ∷ member (var fresh) h ∷ [] }

abbrev pub ext_row : List Srt → Fml → Outcome
ext_row sorts (no (eq g h)) = only (has_sort sorts [] rgn_sort g) (kids (has_alone (length sorts) g h ∷ has_not (length sorts) g h ∷ []))
ext_row sorts _ = bad

-- ---- the table

abbrev pub regions : Nod → Stp → Outcome
regions n s =
    if s.row == 27 then on nonnull_row (the_formula n s) else
    if s.row == 28 then istwo_row n s else
    if s.row == 29 then on_both (λ a g. inempty_row g) (membership (the_formula n s)) else
    if s.row == 30 then on_both insingle_row (membership (the_formula n s)) else
    if s.row == 31 then on_both ninsingle_row (non_membership (the_formula n s)) else
    if s.row == 32 then on_both inunion_row (membership (the_formula n s)) else
    if s.row == 33 then on_both ninunion_row (non_membership (the_formula n s)) else
    if s.row == 34 then on_both inmeet_row (membership (the_formula n s)) else
    if s.row == 35 then on_both ninmeet_row (non_membership (the_formula n s)) else
    if s.row == 36 then on_both inminus_row (membership (the_formula n s)) else
    if s.row == 37 then on_both ninminus_row (non_membership (the_formula n s)) else
    if s.row == 38 then on_both infilter_row (membership (the_formula n s)) else
    if s.row == 39 then on_both ninfilter_row (non_membership (the_formula n s)) else
    if s.row == 40 then on_both (inimage_row n.sorts) (membership (the_formula n s)) else
    if s.row == 41 then on_both (λ a g. on (λ t. ninimage_row n.sorts t a g) (term s 0)) (non_membership (formula_by_term n s)) else
    if s.row == 42 then on (ext_row n.sorts) (the_formula n s) else
    not_mine

-- ---- the rows without children

abbrev pub is_in_empty : Option (Trm × Trm) → Bool
is_in_empty None = false
is_in_empty (Some p) = is_empty p.1

-- the step's row has no children, and its needs are met
abbrev pub closes : Nod → Stp → Bool
closes n s =
    if s.row == 28 then holds 2 0 0 s && are_apart (formula n s 0) (formula n s 1) else
    if s.row == 29 then is_in_empty (membership (the_formula n s)) else
    false
