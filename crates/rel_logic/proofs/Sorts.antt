-- What the sort of a term tells: its value has the sort, it is closed, and only variables within the sorts count.
use Rattle.std.proofs.Common.{◌≡◌, ◌↔◌, ℕ, zero, suc, ◌-◌, ◌≤◌, max, ℤ, pos, ◌+ℤ◌, ◌-ℤ◌, ◌*ℤ◌, ◌<ℤ◌, ◌≤ℤ◌, ◌⊎◌, inl, inr, Bool, true, false, ◌&&◌, if◌then◌else◌, List, [], ◌∷◌, ◌++◌, length, get_or, Contains, Option, Some, None, refl, sym, ap, subst, ◌∙◌, arith}
use Rattle.std.proofs.lemmas.Option.{slice_get_within}
use Rattle.std.proofs.lemmas.List.Elements.{Contains-push, Contains-append_left}
use Rattle.std.specs.FinSet as set
use Rattle.rel_list.specs.References.{Ref, Region, just, of_class, same_ref}
use Rattle.rel_list.specs.Maps.{IsFinite, with_value}
use Rattle.rel_list.specs.Pairs.{IsOneToOne, Extends, linked}
use Rattle.rel_list.proofs.Sets.{same_ref_is}
use Rattle.rel_list.proofs.Pairs.{linked_one_to_one}
use Rattle.rel_logic.specs.Syntax.{Srt, int_sort, ref_sort, rgn_sort, map_int_sort, map_ref_sort, map_rgn_sort, bij_sort, Trm, var, bound, int, add, sub, mul, null, sel, sto, empty, one, cup, cap, less, img, of, link, Fml, verum, falsum, eq, lt, le, member, is, paired, ext, no, and, or, imp, every, some}
use Rattle.rel_logic.specs.Truth.{Elem, number, rgn, bij, as_number, as_ref, as_rgn, as_pairs, Carrier, elem, HasSort, Valuation, AgreeOn, null_elem, selected, stored, image, value, FitsSorts, IsMember, IsOfClass, ArePartners, IsTrueAt}
use Rattle.rel_logic.specs.Bounds.{free_bound_term, free_bound_of}
use Rattle.rel_logic.specs.Sorting.{same_srt, is_of, are_of_one, takes, value_sort, image_sort, stored_sort, sort_at, has_sort, is_sorted, is_well_sorted}

same_srt_is : (a b : Srt) → same_srt a b ≡ true → a ≡ b
same_srt_is int_sort int_sort e = refl
same_srt_is ref_sort ref_sort e = refl
same_srt_is rgn_sort rgn_sort e = refl
same_srt_is map_int_sort map_int_sort e = refl
same_srt_is map_ref_sort map_ref_sort e = refl
same_srt_is map_rgn_sort map_rgn_sort e = refl
same_srt_is bij_sort bij_sort e = refl
same_srt_is a b e = cc

pub is_of_some : (s : Srt) (o : Option Srt) → is_of s o ≡ true → o ≡ Some s
is_of_some s None e = cc
is_of_some s (Some t) e = ap Some (sym (same_srt_is s t e))

-- both have some sort
pub of_one : (a b : Option Srt) → are_of_one a b ≡ true → (s : Srt) × (a ≡ Some s) × (b ≡ Some s)
of_one None b e = cc
of_one (Some s) b e = (s, refl, is_of_some s b e)

taken : (want : Srt) (given result : Option Srt) (s : Srt) → takes want given result ≡ Some s → (given ≡ Some want) × (result ≡ Some s)
taken want given result s = cases (is_of want given) refl
  where
    cases : (b : Bool) → is_of want given ≡ b → (if b then result else None) ≡ Some s → (given ≡ Some want) × (result ≡ Some s)
    cases true e h = (is_of_some want given e, h)
    cases false e h = cc

-- what is stored in a map has the sort of its values
stored_parts : (m o : Option Srt) (s : Srt) → stored_sort m o ≡ Some s → (m ≡ Some s) × ((t : Srt) × (o ≡ Some t) × (Some t ≡ value_sort (Some s)))
stored_parts m o s = cases (are_of_one (value_sort m) o) refl
  where
    cases : (b : Bool) → are_of_one (value_sort m) o ≡ b → (if b then m else None) ≡ Some s → (m ≡ Some s) × ((t : Srt) × (o ≡ Some t) × (Some t ≡ value_sort (Some s)))
    cases true e h = let k = of_one (value_sort m) o e in (h, (k.0, k.2, sym k.1 ∙ ap value_sort h))
    cases false e h = cc

pub both_true : (a b : Bool) → (a && b) ≡ true → (a ≡ true) × (b ≡ true)
both_true true b e = (refl, e)
both_true false b e = cc

-- ---- values of the sorts

int_has : (n : ℤ) (s : Srt) → int_sort ≡ s → HasSort s (number n)
int_has n s same = subst (λ s. HasSort s (number n)) same (n, refl)

rgn_has : (g : Region) (s : Srt) → rgn_sort ≡ s → HasSort s (rgn g)
rgn_has g s same = subst (λ s. HasSort s (rgn g)) same (g, refl)

selected_has : (t s : Srt) (e : Elem) (r : Ref) → value_sort (Some t) ≡ Some s → HasSort t e → HasSort s (selected e r)
selected_has map_int_sort s e r v h = let same : int_sort ≡ s = cc in subst (λ s. HasSort s (selected e r)) same (h.0.at r, ap (λ e. selected e r) h.1)
selected_has map_ref_sort s e r v h = let same : ref_sort ≡ s = cc in subst (λ s. HasSort s (selected e r)) same (h.0.at r, ap (λ e. selected e r) h.1)
selected_has map_rgn_sort s e r v h = let same : rgn_sort ≡ s = cc in subst (λ s. HasSort s (selected e r)) same (h.0.at r, ap (λ e. selected e r) h.1)
selected_has t s e r v h = cc

with_value_finite : {V : Type 0} (d : V) (m : Ref → V) (r : Ref) (v : V) → IsFinite d m → IsFinite d (with_value m r v)
with_value_finite d m r v h = (h.0 ++ r ∷ [], λ q. at q (same_ref q r) refl (h.1 q))
  where
    at : (q : Ref) (b : Bool) → same_ref q r ≡ b → (m q ≡ d) ⊎ Contains h.0 q → ((if b then v else m q) ≡ d) ⊎ Contains (h.0 ++ r ∷ []) q
    at q true e k = inr (subst (λ x. Contains (h.0 ++ r ∷ []) x) (sym ((same_ref_is q r).0 e)) (Contains-push h.0 r))
    at q false e (inl k) = inl k
    at q false e (inr k) = inr (Contains-append_left h.0 (r ∷ []) q k)

stored_has : (s t : Srt) (e f : Elem) (r : Ref) → Some t ≡ value_sort (Some s) → HasSort s e → HasSort t f → HasSort s (stored e r f)
stored_has map_int_sort t e f r same h k = let m = h.0 in (record { at = with_value m.at r (as_number f); is_finite = with_value_finite (pos 0) m.at r (as_number f) m.is_finite }, ap (λ e. stored e r f) h.1)
stored_has map_ref_sort t e f r same h k = let m = h.0 in (record { at = with_value m.at r (as_ref f); is_finite = with_value_finite None m.at r (as_ref f) m.is_finite }, ap (λ e. stored e r f) h.1)
stored_has map_rgn_sort t e f r same h k = let m = h.0 in (record { at = with_value m.at r (as_rgn f); is_finite = with_value_finite set.empty m.at r (as_rgn f) m.is_finite }, ap (λ e. stored e r f) h.1)
stored_has s t e f r same h k = cc

-- the bound numbers have values of their sorts
abbrev pub FitsBounds : List Srt → List Elem → Type 0
FitsBounds bounds bs = FitsSorts bounds (λ n. get_or bs n null_elem)

value_sorted : (m : Option Srt) (s : Srt) → value_sort m ≡ Some s → (t : Srt) × (m ≡ Some t)
value_sorted None s e = cc
value_sorted (Some t) s e = (t, refl)

image_sorted : (m : Option Srt) (s : Srt) → image_sort m ≡ Some s → (t : Srt) × (m ≡ Some t)
image_sorted None s e = cc
image_sorted (Some t) s e = (t, refl)

image_is_rgn : (m : Option Srt) (s : Srt) → image_sort m ≡ Some s → rgn_sort ≡ s
image_is_rgn (Some map_ref_sort) s e = cc
image_is_rgn (Some map_rgn_sort) s e = cc
image_is_rgn m s e = cc

some_same : (a b : Srt) → Some a ≡ Some b → a ≡ b
some_same a b e = cc

taken_one : (want : Srt) (a : Option Srt) (t s : Srt) → takes want a (Some t) ≡ Some s → (a ≡ Some want) × (t ≡ s)
taken_one want a t s e = let h = taken want a (Some t) s e in (h.0, some_same t s h.1)

taken_two : (v w : Srt) (a b : Option Srt) (t s : Srt) → takes v a (takes w b (Some t)) ≡ Some s → (a ≡ Some v) × (b ≡ Some w) × (t ≡ s)
taken_two v w a b t s e = let h = taken v a (takes w b (Some t)) s e in let k = taken_one w b t s h.1 in (h.0, k.0, k.1)

-- the sorts of a sorted term's parts
module _ (sorts bounds : List Srt) where
  abbrev pub Has : Trm → Srt → Type 0
  Has t s = sort_at sorts bounds t ≡ Some s

  abbrev pub Parts : Trm → Srt → Type 0
  Parts (var n) s = Has (var n) s
  Parts (bound n) s = Has (bound n) s
  Parts (int n) s = int_sort ≡ s
  Parts (add a b) s = Has a int_sort × Has b int_sort × (int_sort ≡ s)
  Parts (sub a b) s = Has a int_sort × Has b int_sort × (int_sort ≡ s)
  Parts (mul k a) s = Has a int_sort × (int_sort ≡ s)
  Parts null s = ref_sort ≡ s
  Parts (sel m a) s = (t : Srt) × Has m t × Has a ref_sort × (value_sort (Some t) ≡ Some s)
  Parts (sto m a b) s = (t : Srt) × Has m s × Has a ref_sort × Has b t × (Some t ≡ value_sort (Some s))
  Parts empty s = rgn_sort ≡ s
  Parts (one a) s = Has a ref_sort × (rgn_sort ≡ s)
  Parts (cup g h) s = Has g rgn_sort × Has h rgn_sort × (rgn_sort ≡ s)
  Parts (cap g h) s = Has g rgn_sort × Has h rgn_sort × (rgn_sort ≡ s)
  Parts (less g h) s = Has g rgn_sort × Has h rgn_sort × (rgn_sort ≡ s)
  Parts (img m g) s = (t : Srt) × Has m t × Has g rgn_sort × (rgn_sort ≡ s)
  Parts (of c g) s = Has g rgn_sort × (rgn_sort ≡ s)
  Parts (link p a b) s = Has p bij_sort × Has a ref_sort × Has b ref_sort × (bij_sort ≡ s)

  pub parts : (t : Trm) (s : Srt) → Has t s → Parts t s
  parts (var n) s e = e
  parts (bound n) s e = e
  parts (int n) s e = some_same int_sort s e
  parts (add a b) s e = taken_two int_sort int_sort (sort_at sorts bounds a) (sort_at sorts bounds b) int_sort s e
  parts (sub a b) s e = taken_two int_sort int_sort (sort_at sorts bounds a) (sort_at sorts bounds b) int_sort s e
  parts (mul k a) s e = taken_one int_sort (sort_at sorts bounds a) int_sort s e
  parts null s e = some_same ref_sort s e
  parts (sel m a) s e =
      let h = taken ref_sort (sort_at sorts bounds a) (value_sort (sort_at sorts bounds m)) s e in
      let t = value_sorted (sort_at sorts bounds m) s h.1 in
      (t.0, t.1, h.0, ap value_sort (sym t.1) ∙ h.1)
  parts (sto m a b) s e =
      let h = taken ref_sort (sort_at sorts bounds a) (stored_sort (sort_at sorts bounds m) (sort_at sorts bounds b)) s e in
      let k = stored_parts (sort_at sorts bounds m) (sort_at sorts bounds b) s h.1 in
      (k.1.0, k.0, h.0, k.1.1, k.1.2)
  parts empty s e = some_same rgn_sort s e
  parts (one a) s e = taken_one ref_sort (sort_at sorts bounds a) rgn_sort s e
  parts (cup g h) s e = taken_two rgn_sort rgn_sort (sort_at sorts bounds g) (sort_at sorts bounds h) rgn_sort s e
  parts (cap g h) s e = taken_two rgn_sort rgn_sort (sort_at sorts bounds g) (sort_at sorts bounds h) rgn_sort s e
  parts (less g h) s e = taken_two rgn_sort rgn_sort (sort_at sorts bounds g) (sort_at sorts bounds h) rgn_sort s e
  parts (img m g) s e =
      let h = taken rgn_sort (sort_at sorts bounds g) (image_sort (sort_at sorts bounds m)) s e in
      let t = image_sorted (sort_at sorts bounds m) s h.1 in
      (t.0, t.1, h.0, image_is_rgn (sort_at sorts bounds m) s h.1)
  parts (of c g) s e = taken_one rgn_sort (sort_at sorts bounds g) rgn_sort s e
  parts (link p a b) s e =
      let h = taken bij_sort (sort_at sorts bounds p) (takes ref_sort (sort_at sorts bounds a) (takes ref_sort (sort_at sorts bounds b) (Some bij_sort))) s e in
      let k = taken_two ref_sort ref_sort (sort_at sorts bounds a) (sort_at sorts bounds b) bij_sort s h.1 in
      (h.0, k.0, k.1, k.2)

linked_has : (e : Elem) (a b : Ref) → HasSort bij_sort e → HasSort bij_sort (bij (linked (as_pairs e) a b))
linked_has e a b h =
    (record { pairs = linked (as_pairs e) a b; one_to_one = linked_one_to_one (as_pairs e) a b (subst IsOneToOne (sym (ap as_pairs h.1)) h.0.one_to_one) }, refl)

fits_head : (bounds : List Srt) (bs : List Elem) (s : Srt) (v : Carrier s) → FitsBounds bounds bs → FitsBounds (s ∷ bounds) (elem s v ∷ bs)
fits_head bounds bs s v h zero t e = let same : s ≡ t = cc in subst (λ t. HasSort t (elem s v)) same (v, refl)
fits_head bounds bs s v h (suc i) t e = h i t e

-- a term's value has the term's sort
module _ (sorts bounds : List Srt) (r : Valuation) (bs : List Elem) (fits : FitsSorts sorts r) (fits_bounds : FitsBounds bounds bs) where
  pub value_has : (t : Trm) (s : Srt) → sort_at sorts bounds t ≡ Some s → HasSort s (value r bs t)
  value_has (var n) s e = fits n s e
  value_has (bound n) s e = fits_bounds n s e
  value_has (int n) s e = int_has _ s (parts sorts bounds (int n) s e)
  value_has (add a b) s e = int_has _ s (parts sorts bounds (add a b) s e).2
  value_has (sub a b) s e = int_has _ s (parts sorts bounds (sub a b) s e).2
  value_has (mul k a) s e = int_has _ s (parts sorts bounds (mul k a) s e).1
  value_has null s e = subst (λ s. HasSort s null_elem) (parts sorts bounds null s e) (None, refl)
  value_has (sel m a) s e =
      let h = parts sorts bounds (sel m a) s e in
      selected_has h.0 s (value r bs m) (as_ref (value r bs a)) h.3 (value_has m h.0 h.1)
  value_has (sto m a b) s e =
      let h = parts sorts bounds (sto m a b) s e in
      stored_has s h.0 (value r bs m) (value r bs b) (as_ref (value r bs a)) h.4 (value_has m s h.1) (value_has b h.0 h.3)
  value_has empty s e = rgn_has _ s (parts sorts bounds empty s e)
  value_has (one a) s e = rgn_has _ s (parts sorts bounds (one a) s e).1
  value_has (cup g h) s e = rgn_has _ s (parts sorts bounds (cup g h) s e).2
  value_has (cap g h) s e = rgn_has _ s (parts sorts bounds (cap g h) s e).2
  value_has (less g h) s e = rgn_has _ s (parts sorts bounds (less g h) s e).2
  value_has (img m g) s e = rgn_has _ s (parts sorts bounds (img m g) s e).3
  value_has (of c g) s e = rgn_has _ s (parts sorts bounds (of c g) s e).1
  value_has (link p a b) s e =
      let h = parts sorts bounds (link p a b) s e in
      subst (λ s. HasSort s (value r bs (link p a b))) h.3 (linked_has (value r bs p) (as_ref (value r bs a)) (as_ref (value r bs b)) (value_has p bij_sort h.0))

-- only the variables within the sorts, and the bound numbers within theirs, count
module _ (sorts bounds : List Srt) (r q : Valuation) (bs cs : List Elem) (agree : AgreeOn sorts r q) (agree_bounds : AgreeOn bounds (λ n. get_or bs n null_elem) (λ n. get_or cs n null_elem)) where
  pub same_value : (t : Trm) (s : Srt) → sort_at sorts bounds t ≡ Some s → value r bs t ≡ value q cs t
  same_value (var n) s e = agree n (slice_get_within sorts n s e)
  same_value (bound n) s e = agree_bounds n (slice_get_within bounds n s e)
  same_value (int n) s e = refl
  same_value (add a b) s e = let h = parts sorts bounds (add a b) s e in λ i. number (as_number (same_value a _ h.0 i) +ℤ as_number (same_value b _ h.1 i))
  same_value (sub a b) s e = let h = parts sorts bounds (sub a b) s e in λ i. number (as_number (same_value a _ h.0 i) -ℤ as_number (same_value b _ h.1 i))
  same_value (mul k a) s e = let h = parts sorts bounds (mul k a) s e in λ i. number (k *ℤ as_number (same_value a _ h.0 i))
  same_value null s e = refl
  same_value (sel m a) s e = let h = parts sorts bounds (sel m a) s e in λ i. selected (same_value m _ h.1 i) (as_ref (same_value a _ h.2 i))
  same_value (sto m a b) s e = let h = parts sorts bounds (sto m a b) s e in λ i. stored (same_value m _ h.1 i) (as_ref (same_value a _ h.2 i)) (same_value b _ h.3 i)
  same_value empty s e = refl
  same_value (one a) s e = let h = parts sorts bounds (one a) s e in λ i. rgn (just (as_ref (same_value a _ h.0 i)))
  same_value (cup g k) s e = let h = parts sorts bounds (cup g k) s e in λ i. rgn (set.union (as_rgn (same_value g _ h.0 i)) (as_rgn (same_value k _ h.1 i)))
  same_value (cap g k) s e = let h = parts sorts bounds (cap g k) s e in λ i. rgn (set.intersection (as_rgn (same_value g _ h.0 i)) (as_rgn (same_value k _ h.1 i)))
  same_value (less g k) s e = let h = parts sorts bounds (less g k) s e in λ i. rgn (set.difference (as_rgn (same_value g _ h.0 i)) (as_rgn (same_value k _ h.1 i)))
  same_value (img m g) s e = let h = parts sorts bounds (img m g) s e in λ i. rgn (image (same_value m _ h.1 i) (as_rgn (same_value g _ h.2 i)))
  same_value (of c g) s e = let h = parts sorts bounds (of c g) s e in λ i. rgn (of_class c (as_rgn (same_value g _ h.0 i)))
  same_value (link p a b) s e = let h = parts sorts bounds (link p a b) s e in λ i. bij (linked (as_pairs (same_value p _ h.0 i)) (as_ref (same_value a _ h.1 i)) (as_ref (same_value b _ h.2 i)))

both_below : (a b k : ℕ) → a ≤ k → b ≤ k → max a b ≤ k
both_below a b k h g = omega (arith, h, g)

-- a sorted term has no other bound numbers
module _ (sorts bounds : List Srt) where
  pub sorted_bound : (t : Trm) (s : Srt) → sort_at sorts bounds t ≡ Some s → free_bound_term t ≤ length bounds
  sorted_bound (var n) s e = omega arith
  sorted_bound (bound n) s e = let h = slice_get_within bounds n s e in omega (arith, h)
  sorted_bound (int n) s e = omega arith
  sorted_bound (add a b) s e = let h = parts sorts bounds (add a b) s e in both_below _ _ _ (sorted_bound a _ h.0) (sorted_bound b _ h.1)
  sorted_bound (sub a b) s e = let h = parts sorts bounds (sub a b) s e in both_below _ _ _ (sorted_bound a _ h.0) (sorted_bound b _ h.1)
  sorted_bound (mul k a) s e = let h = parts sorts bounds (mul k a) s e in sorted_bound a _ h.0
  sorted_bound null s e = omega arith
  sorted_bound (sel m a) s e = let h = parts sorts bounds (sel m a) s e in both_below _ _ _ (sorted_bound m _ h.1) (sorted_bound a _ h.2)
  sorted_bound (sto m a b) s e = let h = parts sorts bounds (sto m a b) s e in both_below _ _ _ (sorted_bound m _ h.1) (both_below _ _ _ (sorted_bound a _ h.2) (sorted_bound b _ h.3))
  sorted_bound empty s e = omega arith
  sorted_bound (one a) s e = let h = parts sorts bounds (one a) s e in sorted_bound a _ h.0
  sorted_bound (cup g k) s e = let h = parts sorts bounds (cup g k) s e in both_below _ _ _ (sorted_bound g _ h.0) (sorted_bound k _ h.1)
  sorted_bound (cap g k) s e = let h = parts sorts bounds (cap g k) s e in both_below _ _ _ (sorted_bound g _ h.0) (sorted_bound k _ h.1)
  sorted_bound (less g k) s e = let h = parts sorts bounds (less g k) s e in both_below _ _ _ (sorted_bound g _ h.0) (sorted_bound k _ h.1)
  sorted_bound (img m g) s e = let h = parts sorts bounds (img m g) s e in both_below _ _ _ (sorted_bound m _ h.1) (sorted_bound g _ h.2)
  sorted_bound (of c g) s e = let h = parts sorts bounds (of c g) s e in sorted_bound g _ h.0
  sorted_bound (link p a b) s e = let h = parts sorts bounds (link p a b) s e in both_below _ _ _ (sorted_bound p _ h.0) (both_below _ _ _ (sorted_bound a _ h.1) (sorted_bound b _ h.2))

-- ---- formulas

agree_under : (sorts : List Srt) (bs cs : List Elem) (s : Srt) (e : Elem) → AgreeOn sorts (λ n. get_or bs n null_elem) (λ n. get_or cs n null_elem)
    → AgreeOn (s ∷ sorts) (λ n. get_or (e ∷ bs) n null_elem) (λ n. get_or (e ∷ cs) n null_elem)
agree_under sorts bs cs s e h zero below = refl
agree_under sorts bs cs s e h (suc n) below = h n (omega (arith, below))

-- of the sorts of an atom's terms
pub one_sorted : (sorts bounds : List Srt) (s : Srt) (t : Trm) → has_sort sorts bounds s t ≡ true → sort_at sorts bounds t ≡ Some s
one_sorted sorts bounds s t e = is_of_some s (sort_at sorts bounds t) e

pub two_sorted : (sorts bounds : List Srt) (s t : Srt) (a b : Trm) → (has_sort sorts bounds s a && has_sort sorts bounds t b) ≡ true
    → (sort_at sorts bounds a ≡ Some s) × (sort_at sorts bounds b ≡ Some t)
two_sorted sorts bounds s t a b e =
    let h = both_true (has_sort sorts bounds s a) (has_sort sorts bounds t b) e in (one_sorted sorts bounds s a h.0, one_sorted sorts bounds t b h.1)

pub three_sorted : (sorts bounds : List Srt) (p a b : Trm) → (has_sort sorts bounds bij_sort p && (has_sort sorts bounds ref_sort a && has_sort sorts bounds ref_sort b)) ≡ true
    → (sort_at sorts bounds p ≡ Some bij_sort) × (sort_at sorts bounds a ≡ Some ref_sort) × (sort_at sorts bounds b ≡ Some ref_sort)
three_sorted sorts bounds p a b e =
    let h = both_true (has_sort sorts bounds bij_sort p) (has_sort sorts bounds ref_sort a && has_sort sorts bounds ref_sort b) e in
    let k = two_sorted sorts bounds ref_sort ref_sort a b h.1 in
    (one_sorted sorts bounds bij_sort p h.0, k.0, k.1)

pub same_truth : (sorts bounds : List Srt) (r q : Valuation) (bs cs : List Elem) → AgreeOn sorts r q → AgreeOn bounds (λ n. get_or bs n null_elem) (λ n. get_or cs n null_elem)
    → (f : Fml) → is_sorted sorts bounds f ≡ true → IsTrueAt r bs f ≡ IsTrueAt q cs f
same_truth sorts bounds r q bs cs g k verum e = refl
same_truth sorts bounds r q bs cs g k falsum e = refl
same_truth sorts bounds r q bs cs g k (eq a b) e =
    let h = of_one (sort_at sorts bounds a) (sort_at sorts bounds b) e in
    let v = same_value sorts bounds r q bs cs g k in
    λ i. v a _ h.1 i ≡ v b _ h.2 i
same_truth sorts bounds r q bs cs g k (lt a b) e =
    let h = two_sorted sorts bounds int_sort int_sort a b e in
    let v = same_value sorts bounds r q bs cs g k in
    λ i. as_number (v a _ h.0 i) <ℤ as_number (v b _ h.1 i)
same_truth sorts bounds r q bs cs g k (le a b) e =
    let h = two_sorted sorts bounds int_sort int_sort a b e in
    let v = same_value sorts bounds r q bs cs g k in
    λ i. as_number (v a _ h.0 i) ≤ℤ as_number (v b _ h.1 i)
same_truth sorts bounds r q bs cs g k (member a b) e =
    let h = two_sorted sorts bounds ref_sort rgn_sort a b e in
    let v = same_value sorts bounds r q bs cs g k in
    λ i. IsMember (as_ref (v a _ h.0 i)) (as_rgn (v b _ h.1 i))
same_truth sorts bounds r q bs cs g k (is c a) e =
    let h = one_sorted sorts bounds ref_sort a e in
    λ i. IsOfClass c (as_ref (same_value sorts bounds r q bs cs g k a _ h i))
same_truth sorts bounds r q bs cs g k (paired p a b) e =
    let h = three_sorted sorts bounds p a b e in
    let v = same_value sorts bounds r q bs cs g k in
    λ i. ArePartners (as_pairs (v p _ h.0 i)) (as_ref (v a _ h.1 i)) (as_ref (v b _ h.2 i))
same_truth sorts bounds r q bs cs g k (ext a b) e =
    let h = two_sorted sorts bounds bij_sort bij_sort a b e in
    let v = same_value sorts bounds r q bs cs g k in
    λ i. Extends (as_pairs (v a _ h.0 i)) (as_pairs (v b _ h.1 i))
same_truth sorts bounds r q bs cs g k (no a) e = λ i. ¬ (same_truth sorts bounds r q bs cs g k a e i)
same_truth sorts bounds r q bs cs g k (and a b) e =
    let h = both_true (is_sorted sorts bounds a) (is_sorted sorts bounds b) e in
    λ i. same_truth sorts bounds r q bs cs g k a h.0 i × same_truth sorts bounds r q bs cs g k b h.1 i
same_truth sorts bounds r q bs cs g k (or a b) e =
    let h = both_true (is_sorted sorts bounds a) (is_sorted sorts bounds b) e in
    λ i. ¬ (¬ (same_truth sorts bounds r q bs cs g k a h.0 i) × ¬ (same_truth sorts bounds r q bs cs g k b h.1 i))
same_truth sorts bounds r q bs cs g k (imp a b) e =
    let h = both_true (is_sorted sorts bounds a) (is_sorted sorts bounds b) e in
    λ i. same_truth sorts bounds r q bs cs g k a h.0 i → same_truth sorts bounds r q bs cs g k b h.1 i
same_truth sorts bounds r q bs cs g k (every s a) e =
    λ i. (v : Carrier s) → same_truth sorts (s ∷ bounds) r q (elem s v ∷ bs) (elem s v ∷ cs) g (agree_under bounds bs cs s (elem s v) k) a e i
same_truth sorts bounds r q bs cs g k (some s a) e =
    λ i. ¬ ((v : Carrier s) → ¬ (same_truth sorts (s ∷ bounds) r q (elem s v ∷ bs) (elem s v ∷ cs) g (agree_under bounds bs cs s (elem s v) k) a e i))

-- the truth of a well-sorted formula depends on the variables within its sorts alone
pub truth_depends : (sorts : List Srt) (r q : Valuation) → AgreeOn sorts r q → (f : Fml) → is_well_sorted sorts f ≡ true → IsTrueAt r [] f ≡ IsTrueAt q [] f
truth_depends sorts r q agree f e = same_truth sorts [] r q [] [] agree (λ n below. absurd (omega (arith, below))) f e

less_one : (m n : ℕ) → m ≤ suc n → m - 1 ≤ n
less_one m n h = omega (arith, h)

pub sorted_free : (sorts bounds : List Srt) (f : Fml) → is_sorted sorts bounds f ≡ true → free_bound_of f ≤ length bounds
sorted_free sorts bounds verum e = omega arith
sorted_free sorts bounds falsum e = omega arith
sorted_free sorts bounds (eq a b) e =
    let h = of_one (sort_at sorts bounds a) (sort_at sorts bounds b) e in both_below _ _ _ (sorted_bound sorts bounds a _ h.1) (sorted_bound sorts bounds b _ h.2)
sorted_free sorts bounds (lt a b) e =
    let h = two_sorted sorts bounds int_sort int_sort a b e in both_below _ _ _ (sorted_bound sorts bounds a _ h.0) (sorted_bound sorts bounds b _ h.1)
sorted_free sorts bounds (le a b) e =
    let h = two_sorted sorts bounds int_sort int_sort a b e in both_below _ _ _ (sorted_bound sorts bounds a _ h.0) (sorted_bound sorts bounds b _ h.1)
sorted_free sorts bounds (member a b) e =
    let h = two_sorted sorts bounds ref_sort rgn_sort a b e in both_below _ _ _ (sorted_bound sorts bounds a _ h.0) (sorted_bound sorts bounds b _ h.1)
sorted_free sorts bounds (is c a) e = sorted_bound sorts bounds a _ (one_sorted sorts bounds ref_sort a e)
sorted_free sorts bounds (paired p a b) e =
    let h = three_sorted sorts bounds p a b e in
    both_below _ _ _ (sorted_bound sorts bounds p _ h.0) (both_below _ _ _ (sorted_bound sorts bounds a _ h.1) (sorted_bound sorts bounds b _ h.2))
sorted_free sorts bounds (ext a b) e =
    let h = two_sorted sorts bounds bij_sort bij_sort a b e in both_below _ _ _ (sorted_bound sorts bounds a _ h.0) (sorted_bound sorts bounds b _ h.1)
sorted_free sorts bounds (no a) e = sorted_free sorts bounds a e
sorted_free sorts bounds (and a b) e =
    let h = both_true (is_sorted sorts bounds a) (is_sorted sorts bounds b) e in both_below _ _ _ (sorted_free sorts bounds a h.0) (sorted_free sorts bounds b h.1)
sorted_free sorts bounds (or a b) e =
    let h = both_true (is_sorted sorts bounds a) (is_sorted sorts bounds b) e in both_below _ _ _ (sorted_free sorts bounds a h.0) (sorted_free sorts bounds b h.1)
sorted_free sorts bounds (imp a b) e =
    let h = both_true (is_sorted sorts bounds a) (is_sorted sorts bounds b) e in both_below _ _ _ (sorted_free sorts bounds a h.0) (sorted_free sorts bounds b h.1)
sorted_free sorts bounds (every s a) e = less_one _ _ (sorted_free sorts (s ∷ bounds) a e)
sorted_free sorts bounds (some s a) e = less_one _ _ (sorted_free sorts (s ∷ bounds) a e)

pub body_bound : (sorts : List Srt) (s : Srt) (f : Fml) → is_sorted sorts (s ∷ []) f ≡ true → free_bound_of f ≤ 1
body_bound sorts s f e = sorted_free sorts (s ∷ []) f e

closed : (n : ℕ) → n ≤ 0 → n ≡ 0
closed n h = omega (arith, h)

pub sorted_term_closed : (sorts : List Srt) (t : Trm) (s : Srt) → sort_at sorts [] t ≡ Some s → free_bound_term t ≡ 0
sorted_term_closed sorts t s e = closed _ (sorted_bound sorts [] t s e)

pub sorted_value : (sorts : List Srt) (t : Trm) (s : Srt) → sort_at sorts [] t ≡ Some s → (r : Valuation) → FitsSorts sorts r → HasSort s (value r [] t)
sorted_value sorts t s e r fits = value_has sorts [] r [] fits (λ i s e. cc) t s e

pub well_sorted_closed : (sorts : List Srt) (f : Fml) → is_well_sorted sorts f ≡ true → free_bound_of f ≡ 0
well_sorted_closed sorts f e = closed _ (sorted_free sorts [] f e)

pub well_sorted_truth : (sorts : List Srt) (f : Fml) → is_well_sorted sorts f ≡ true → (r q : Valuation) → AgreeOn sorts r q → IsTrueAt r [] f ↔ IsTrueAt q [] f
well_sorted_truth sorts f e r q agree = subst (λ P. IsTrueAt r [] f ↔ P) (truth_depends sorts r q agree f e) (λ a. a, λ a. a)
