-- References and regions. No program holds one: they are what contracts speak of.
use Rattle.std.specs.Prelude.{ℕ, Bool, true, false, not, ◌&&◌, ◌||◌, ◌==◌, List, [], ◌∷◌, Option, Some, None}
use Rattle.std.specs.declared.cmp.Ordering.{Ordering}
use Rattle.std.specs.Ordering.{nat_cmp, on, then_cmp}
use Rattle.std.specs.List.{list_all}
use Rattle.std.specs.FinSet as set

-- a reference that is not null: its class, in the order of declaration, and its number
pub record Obj : Type 0 where
  pub class : ℕ
  pub number : ℕ

abbrev pub obj_cmp : Obj → Obj → Ordering
obj_cmp = then_cmp (on (λ o. o.number) nat_cmp) (on (λ o. o.class) nat_cmp)

abbrev pub same_obj : Obj → Obj → Bool
same_obj a b = a.number == b.number && a.class == b.class

-- null, or a reference that is not
abbrev pub Ref : Type 0
Ref = Option Obj

abbrev pub same_ref : Ref → Ref → Bool
same_ref None None = true
same_ref (Some a) (Some b) = same_obj a b
same_ref _ _ = false

-- a finite set of references without null; two with the same members are equal
abbrev pub Region : Type 0
Region = set.FinSet obj_cmp

abbrev pub is_in : Obj → Region → Bool
is_in o g = set.contains g o

abbrev pub one : Obj → Region
one o = set.insert set.empty o

abbrev pub just : Ref → Region
just None = set.empty
just (Some o) = one o

-- the members of the class
abbrev pub of_class : ℕ → Region → Region
of_class c g = set.retain g (λ o. o.class == c)

-- the regions of all of the references, united
abbrev pub united : (Obj → Region) → List Obj → Region
united f [] = set.empty
united f (o ∷ os) = set.union (f o) (united f os)

-- the regions of all members, united
abbrev pub united_over : (Obj → Region) → Region → Region
united_over f g = united f (set.items g)

abbrev pub same_region : Region → Region → Bool
same_region g h = set.is_subset g h && set.is_subset h g

-- a test of each member of the class, in the order of the region's items
abbrev pub each : ℕ → Region → (Obj → Bool) → Bool
each c g p = list_all (λ o. not (o.class == c) || p o) (set.items g)
