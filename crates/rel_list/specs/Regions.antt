-- What formulas do with regions.
use Rattle.std.specs.Prelude.{ℕ, Bool, false, ◌&&◌, ◌==◌, List, [], ◌∷◌, Some, None}
use Rattle.std.specs.List.{list_all, list_any}
use Rattle.std.specs.FinSet as set
use Rattle.rel_list.specs.References.{Obj, Ref, Region, is_in}

abbrev pub nothing : Region
nothing = set.empty

abbrev pub union : Region → Region → Region
union = set.union

abbrev pub meet : Region → Region → Region
meet = set.intersection

abbrev pub minus : Region → Region → Region
minus = set.difference

-- the members of the class
abbrev pub of_class : ℕ → Region → Region
of_class c g = set.retain g (λ o. o.class == c)

abbrev pub united : (Obj → Region) → List Obj → Region
united f [] = nothing
united f (o ∷ os) = union (f o) (united f os)

-- the union of what the function gives at the members
abbrev pub united_over : (Obj → Region) → Region → Region
united_over f g = united f (set.items g)

-- null is in no region
abbrev pub is_member : Ref → Region → Bool
is_member None g = false
is_member (Some o) g = is_in o g

abbrev pub is_within : Region → Region → Bool
is_within = set.is_subset

-- a test of some member of the class
abbrev pub some : ℕ → Region → (Obj → Bool) → Bool
some c g p = list_any (λ o. o.class == c && p o) (set.items g)

-- each member of the first has one in the second with which it passes the test
abbrev pub are_matched : (Obj → Obj → Bool) → Region → Region → Bool
are_matched p g h = list_all (λ a. list_any (p a) (set.items h)) (set.items g)
