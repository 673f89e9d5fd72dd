-- A formula that can't be false is true.
use Rattle.std.proofs.Common.{◌≡◌, ℕ, ℤ, ◌<ℤ◌, ◌≤ℤ◌, Bool, true, false, Decides, Some, None, List, ◌∷◌, refl, ap, arith}
use Rattle.std.specs.FinSet as set
use Rattle.std.proofs.lemmas.Int.{ints, by_lt_z}
use Rattle.std.proofs.Math.IntN.{ℤ_discrete}
use Rattle.std.proofs.lemmas.Bool.Decides.{Decides-eqb}
use Rattle.rel_list.specs.References.{Ref, Region, is_in}
use Rattle.rel_list.specs.Pairs.{Pairs, has, Extends}
use Rattle.rel_list.proofs.Sets.{same_ref_is, same_region_is}
use Rattle.rel_list.proofs.Pairs.{pair_total, pair_alone}
use Rattle.rel_logic.specs.Syntax.{Fml, verum, falsum, eq, lt, le, member, is, paired, ext, no, and, or, imp, every, some}
use Rattle.rel_logic.specs.Truth.{Elem, number, ref, rgn, map_int, map_ref, map_rgn, bij, as_number, as_ref, as_rgn, as_pairs, elem, Valuation, value, selected, IsMember, IsOfClass, ArePartners, IsTrueAt}

from_dec : {A : Type 0} → Dec A → ¬ ¬ A → A
from_dec (Prim.yes a) h = a
from_dec (Prim.no f) h = absurd (h f)

from_test : {A : Type 0} (b : Bool) → Decides b A → ¬ ¬ A → A
from_test true d h = d.0 refl
from_test false d h = absurd (h (λ a. let e : false ≡ true = d.1 a in cc))

is_true : (b : Bool) → ¬ ¬ (b ≡ true) → b ≡ true
is_true true h = refl
is_true false h = absurd (h (λ e. cc))

same_bool : (a b : Bool) → ¬ ¬ (a ≡ b) → a ≡ b
same_bool true true h = refl
same_bool false false h = refl
same_bool a b h = absurd (h (λ e. cc))

same_number : (a b : ℤ) → ¬ ¬ (a ≡ b) → a ≡ b
same_number a b = from_dec (ℤ_discrete a b)

same_reference : (a b : Ref) → ¬ ¬ (a ≡ b) → a ≡ b
same_reference a b = from_test _ (same_ref_is a b)

same_set_of_references : (a b : Region) → ¬ ¬ (a ≡ b) → a ≡ b
same_set_of_references a b = from_test _ (same_region_is a b)

same_pairs : (a b : Pairs) → ¬ ¬ (a ≡ b) → a ≡ b
same_pairs a b h = set.same_set pair_total pair_alone a b (λ p. same_bool _ _ (λ differ. h (λ e. differ (ap (λ q. set.contains q p) e))))

same_map : {V : Type 0} → ((a b : V) → ¬ ¬ (a ≡ b) → a ≡ b) → (m n : Ref → V) → ¬ ¬ (m ≡ n) → m ≡ n
same_map same m n h = λ i r. same (m r) (n r) (λ differ. h (λ e. differ (ap (λ k. k r) e))) i

abbrev at_number : Ref → Elem → ℤ
at_number r e = as_number (selected e r)

abbrev at_ref : Ref → Elem → Ref
at_ref r e = as_ref (selected e r)

abbrev at_rgn : Ref → Elem → Region
at_rgn r e = as_rgn (selected e r)

pub same_elem : (a b : Elem) → ¬ ¬ (a ≡ b) → a ≡ b
same_elem (number m) (number n) h = ap number (same_number m n (λ differ. h (λ e. differ (ap as_number e))))
same_elem (ref m) (ref n) h = ap ref (same_reference m n (λ differ. h (λ e. differ (ap as_ref e))))
same_elem (rgn m) (rgn n) h = ap rgn (same_set_of_references m n (λ differ. h (λ e. differ (ap as_rgn e))))
same_elem (map_int m) (map_int n) h = ap map_int (same_map same_number m n (λ differ. h (λ e. differ (λ i r. ap (at_number r) e i))))
same_elem (map_ref m) (map_ref n) h = ap map_ref (same_map same_reference m n (λ differ. h (λ e. differ (λ i r. ap (at_ref r) e i))))
same_elem (map_rgn m) (map_rgn n) h = ap map_rgn (same_map same_set_of_references m n (λ differ. h (λ e. differ (λ i r. ap (at_rgn r) e i))))
same_elem (bij m) (bij n) h = ap bij (same_pairs m n (λ differ. h (λ e. differ (ap as_pairs e))))
same_elem a b h = absurd (h (λ e. cc))

is_lower : (a b : ℤ) → ¬ ¬ (a <ℤ b) → a <ℤ b
is_lower a b h = by_lt_z a b (λ lower. lower) (λ not_lower. absurd (h (λ lower. omega (arith, ints))))

is_at_most : (a b : ℤ) → ¬ ¬ (a ≤ℤ b) → a ≤ℤ b
is_at_most a b h = by_lt_z b a (λ lower. absurd (h (λ at_most. omega (arith, ints)))) (λ at_most. at_most)

is_member : (a : Ref) (g : Region) → ¬ ¬ (IsMember a g) → IsMember a g
is_member None g h = absurd (h (λ x. x))
is_member (Some o) g h = is_true (is_in o g) h

is_of_class : (c : ℕ) (a : Ref) → ¬ ¬ (IsOfClass c a) → IsOfClass c a
is_of_class c None h = absurd (h (λ x. x))
is_of_class c (Some o) h = from_test _ (Decides-eqb o.class c) h

are_partners : (p : Pairs) (a b : Ref) → ¬ ¬ (ArePartners p a b) → ArePartners p a b
are_partners p (Some a) (Some b) h = is_true (has p a b) h
are_partners p a b h = absurd (h (λ x. x))

extends : (p q : Pairs) → ¬ ¬ (Extends p q) → Extends p q
extends p q h a b k = is_true (has q a b) (λ differ. h (λ e. differ (e a b k)))

pub stable : (r : Valuation) (bs : List Elem) (f : Fml) → ¬ ¬ (IsTrueAt r bs f) → IsTrueAt r bs f
stable r bs verum h = tt
stable r bs falsum h = h (λ x. x)
stable r bs (eq a b) h = same_elem (value r bs a) (value r bs b) h
stable r bs (lt a b) h = is_lower (as_number (value r bs a)) (as_number (value r bs b)) h
stable r bs (le a b) h = is_at_most (as_number (value r bs a)) (as_number (value r bs b)) h
stable r bs (member a g) h = is_member (as_ref (value r bs a)) (as_rgn (value r bs g)) h
stable r bs (is c a) h = is_of_class c (as_ref (value r bs a)) h
stable r bs (paired p a b) h = are_partners (as_pairs (value r bs p)) (as_ref (value r bs a)) (as_ref (value r bs b)) h
stable r bs (ext p q) h = extends (as_pairs (value r bs p)) (as_pairs (value r bs q)) h
stable r bs (no f) h = λ holds. h (λ fails. fails holds)
stable r bs (and f g) h = (stable r bs f (λ fails. h (λ both. fails both.0)), stable r bs g (λ fails. h (λ both. fails both.1)))
stable r bs (or f g) h = λ neither. h (λ holds. holds neither)
stable r bs (imp f g) h = λ holds. stable r bs g (λ fails. h (λ implies. fails (implies holds)))
stable r bs (every s f) h = λ v. stable r (elem s v ∷ bs) f (λ fails. h (λ each. fails (each v)))
stable r bs (some s f) h = λ none. h (λ holds. holds none)
