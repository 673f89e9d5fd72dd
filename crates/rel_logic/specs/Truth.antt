-- The value of a term, the truth of a formula under a valuation, and the valid sequents.
use Rattle.std.specs.Prelude.{◌≡◌, ℕ, ◌==◌, ◌<◌, ℤ, pos, ◌+ℤ◌, ◌-ℤ◌, ◌*ℤ◌, ◌<ℤ◌, ◌≤ℤ◌, if◌then◌else◌, IsTrue, List, [], ◌∷◌, length, get_or, slice_get, All, Some, None}
use Rattle.std.specs.FinSet as set
use Rattle.rel_list.specs.References.{Ref, Region, is_in, just, of_class, united_over}
use Rattle.rel_list.specs.Maps.{IsFinite, with_value}
use Rattle.rel_list.specs.Pairs.{Pairs, has, IsOneToOne, Extends, linked}
use Rattle.rel_logic.specs.Syntax.{Srt, int_sort, ref_sort, rgn_sort, map_int_sort, map_ref_sort, map_rgn_sort, bij_sort, Trm, var, bound, int, add, sub, mul, null, sel, sto, empty, one, cup, cap, less, img, of, link, Fml, verum, falsum, eq, lt, le, member, is, paired, ext, no, and, or, imp, every, some, Sqt}

-- a map gives a value to every reference, null included; two with equal values everywhere are equal
pub record MapTo (V : Type 0) (default : V) : Type 0 where
  pub at : Ref → V
  pub is_finite : IsFinite default at

abbrev pub MapI : Type 0
MapI = MapTo ℤ (pos 0)

abbrev pub MapR : Type 0
MapR = MapTo Ref None

abbrev pub MapG : Type 0
MapG = MapTo Region set.empty

-- a finite partial bijection of references
pub record Bij : Type 0 where
  pub pairs : Pairs
  pub one_to_one : IsOneToOne pairs

-- a value of some sort; which maps and pairs are of a sort, the carriers say
pub data Elem : Type 0 where
  number : ℤ → Elem
  ref : Ref → Elem
  rgn : Region → Elem
  map_int : (Ref → ℤ) → Elem
  map_ref : (Ref → Ref) → Elem
  map_rgn : (Ref → Region) → Elem
  bij : Pairs → Elem

-- the values of a sort
abbrev pub Carrier : Srt → Type 0
Carrier int_sort = ℤ
Carrier ref_sort = Ref
Carrier rgn_sort = Region
Carrier map_int_sort = MapI
Carrier map_ref_sort = MapR
Carrier map_rgn_sort = MapG
Carrier bij_sort = Bij

abbrev pub elem : (s : Srt) → Carrier s → Elem
elem int_sort v = number v
elem ref_sort v = ref v
elem rgn_sort v = rgn v
elem map_int_sort v = map_int v.at
elem map_ref_sort v = map_ref v.at
elem map_rgn_sort v = map_rgn v.at
elem bij_sort v = bij v.pairs

abbrev pub HasSort : Srt → Elem → Type 0
HasSort s e = (v : Carrier s) × (e ≡ elem s v)

-- a value of another sort counts as 0, null, the empty region, or no pairs
abbrev pub as_number : Elem → ℤ
as_number (number n) = n
as_number _ = pos 0

abbrev pub as_ref : Elem → Ref
as_ref (ref r) = r
as_ref _ = None

abbrev pub as_rgn : Elem → Region
as_rgn (rgn g) = g
as_rgn _ = set.empty

abbrev pub as_pairs : Elem → Pairs
as_pairs (bij p) = p
as_pairs _ = set.empty

-- the value of each variable
abbrev pub Valuation : Type 0
Valuation = ℕ → Elem

-- r with the value at variable n
abbrev pub changed : Valuation → ℕ → Elem → Valuation
changed r n v m = if m == n then v else r m

abbrev pub null_elem : Elem
null_elem = ref None

-- what a map gives a reference
abbrev pub selected : Elem → Ref → Elem
selected (map_int m) r = number (m r)
selected (map_ref m) r = ref (m r)
selected (map_rgn m) r = rgn (m r)
selected _ r = null_elem

-- a map with the value at a reference, null or not
abbrev pub stored : Elem → Ref → Elem → Elem
stored (map_int m) r v = map_int (with_value m r (as_number v))
stored (map_ref m) r v = map_ref (with_value m r (as_ref v))
stored (map_rgn m) r v = map_rgn (with_value m r (as_rgn v))
stored m r v = m

-- the values of the members that aren't null, or the union of their regions
abbrev pub image : Elem → Region → Region
image (map_ref m) g = united_over (λ o. just (m (Some o))) g
image (map_rgn m) g = united_over (λ o. m (Some o)) g
image _ g = set.empty

-- bs are the values of the bound numbers, the innermost first
abbrev pub value : Valuation → List Elem → Trm → Elem
value r bs (var n) = r n
value r bs (bound n) = get_or bs n null_elem
value r bs (int n) = number n
value r bs (add a b) = number (as_number (value r bs a) +ℤ as_number (value r bs b))
value r bs (sub a b) = number (as_number (value r bs a) -ℤ as_number (value r bs b))
value r bs (mul k a) = number (k *ℤ as_number (value r bs a))
value r bs null = null_elem
value r bs (sel m a) = selected (value r bs m) (as_ref (value r bs a))
value r bs (sto m a b) = stored (value r bs m) (as_ref (value r bs a)) (value r bs b)
value r bs empty = rgn set.empty
value r bs (one a) = rgn (just (as_ref (value r bs a)))
value r bs (cup g h) = rgn (set.union (as_rgn (value r bs g)) (as_rgn (value r bs h)))
value r bs (cap g h) = rgn (set.intersection (as_rgn (value r bs g)) (as_rgn (value r bs h)))
value r bs (less g h) = rgn (set.difference (as_rgn (value r bs g)) (as_rgn (value r bs h)))
value r bs (img m g) = rgn (image (value r bs m) (as_rgn (value r bs g)))
value r bs (of c g) = rgn (of_class c (as_rgn (value r bs g)))
value r bs (link p a b) = bij (linked (as_pairs (value r bs p)) (as_ref (value r bs a)) (as_ref (value r bs b)))

-- null is no member
abbrev pub IsMember : Ref → Region → Type 0
IsMember None g = ⊥
IsMember (Some o) g = IsTrue (is_in o g)

-- null is of no class
abbrev pub IsOfClass : ℕ → Ref → Type 0
IsOfClass c None = ⊥
IsOfClass c (Some o) = o.class ≡ c

-- null has no partner
abbrev pub ArePartners : Pairs → Ref → Ref → Type 0
ArePartners p (Some a) (Some b) = IsTrue (has p a b)
ArePartners p _ _ = ⊥

-- `or` is "not both not", and `some` is "not each not"
abbrev pub IsTrueAt : Valuation → List Elem → Fml → Type 0
IsTrueAt r bs verum = Unit {0}
IsTrueAt r bs falsum = ⊥
IsTrueAt r bs (eq a b) = value r bs a ≡ value r bs b
IsTrueAt r bs (lt a b) = as_number (value r bs a) <ℤ as_number (value r bs b)
IsTrueAt r bs (le a b) = as_number (value r bs a) ≤ℤ as_number (value r bs b)
IsTrueAt r bs (member a g) = IsMember (as_ref (value r bs a)) (as_rgn (value r bs g))
IsTrueAt r bs (is c a) = IsOfClass c (as_ref (value r bs a))
IsTrueAt r bs (paired p a b) = ArePartners (as_pairs (value r bs p)) (as_ref (value r bs a)) (as_ref (value r bs b))
IsTrueAt r bs (ext p q) = Extends (as_pairs (value r bs p)) (as_pairs (value r bs q))
IsTrueAt r bs (no f) = ¬ (IsTrueAt r bs f)
IsTrueAt r bs (and f g) = IsTrueAt r bs f × IsTrueAt r bs g
IsTrueAt r bs (or f g) = ¬ (¬ (IsTrueAt r bs f) × ¬ (IsTrueAt r bs g))
IsTrueAt r bs (imp f g) = IsTrueAt r bs f → IsTrueAt r bs g
IsTrueAt r bs (every s f) = (v : Carrier s) → IsTrueAt r (elem s v ∷ bs) f
IsTrueAt r bs (some s f) = ¬ ((v : Carrier s) → ¬ (IsTrueAt r (elem s v ∷ bs) f))

-- variable i has the sort at i
abbrev pub FitsSorts : List Srt → Valuation → Type 0
FitsSorts sorts r = (i : ℕ) (s : Srt) → slice_get sorts i ≡ Some s → HasSort s (r i)

-- the two give each variable within the sorts the same value
abbrev pub AgreeOn : List Srt → Valuation → Valuation → Type 0
AgreeOn sorts r q = (n : ℕ) → n < length sorts → r n ≡ q n

-- each valuation that fits the sorts and makes the hypotheses true makes the goal true
abbrev pub IsValid : Sqt → Type 0
IsValid q = (r : Valuation) → FitsSorts q.sorts r → All (IsTrueAt r []) q.hyps → IsTrueAt r [] q.goal
