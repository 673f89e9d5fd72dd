-- Members of regions, and references of a class.
use Rattle.std.proofs.Common.{◌≡◌, ℕ, ◌==◌, Bool, true, false, not, ◌&&◌, ◌||◌, IsTrue, Some, None, refl, sym, ap, subst, ◌∙◌, ⊎_elim}
use Rattle.std.proofs.lemmas.Bool.Decides.{Decides-eqb}
use Rattle.std.specs.FinSet as set
use Rattle.rel_list.specs.References.{Obj, Ref, Region, is_in, just, of_class}
use Rattle.rel_list.specs.Pairs.{Pairs}
use Rattle.rel_list.proofs.Sets.{regions_are_sets, union_has_both, and_both, or_one}
use Rattle.rel_list.proofs.Regions.{nothing_has_none, meet_has, minus_has, of_class_has, one_has_itself, one_has_no_other, united_over_has}
use Rattle.rel_logic.specs.Syntax.{Srt, ref_sort, rgn_sort, map_ref_sort, map_rgn_sort}
use Rattle.rel_logic.specs.Sorting.{image_sort}
use Rattle.rel_logic.specs.Truth.{Elem, ref, rgn, map_ref, map_rgn, as_ref, as_rgn, HasSort, null_elem, selected, image, IsMember, IsOfClass, ArePartners}
use Rattle.rel_logic.proofs.Values.{is_false}

-- a test that isn't passed fails
fails : (b : Bool) → ¬ (IsTrue b) → b ≡ false
fails b = is_false b (λ e. e, λ e. e)

differ : (b : Bool) → not b ≡ true → ¬ (IsTrue b)
differ true e k = cc
differ false e k = cc

or_second : (a b : Bool) → b ≡ true → (a || b) ≡ true
or_second true b e = refl
or_second false b e = e

-- ---- references

-- terms of references that are seen as one are one
pub same_refs : (x y : Elem) → HasSort ref_sort x → HasSort ref_sort y → as_ref x ≡ as_ref y → x ≡ y
same_refs x y h k e = h.1 ∙ (ap (λ x. ref (as_ref x)) (sym h.1) ∙ (ap ref e ∙ (ap (λ x. ref (as_ref x)) k.1 ∙ sym k.1)))

pub member_isnt_null : (x : Elem) (g : Region) → IsMember (as_ref x) g → ¬ (x ≡ null_elem)
member_isnt_null x g k e = subst (λ x. IsMember (as_ref x) g) e k

pub classed_isnt_null : (x : Elem) (c : ℕ) → IsOfClass c (as_ref x) → ¬ (x ≡ null_elem)
classed_isnt_null x c k e = subst (λ x. IsOfClass c (as_ref x)) e k

pub partners_arent_null : (p : Pairs) (x y : Elem) → ArePartners p (as_ref x) (as_ref y) → ¬ (x ≡ null_elem) × ¬ (y ≡ null_elem)
partners_arent_null p x y k = (λ e. subst (λ x. ArePartners p (as_ref x) (as_ref y)) e k, λ e. lonely (as_ref x) (subst (λ y. ArePartners p (as_ref x) (as_ref y)) e k))
  where
    lonely : (a : Ref) → ¬ (ArePartners p a None)
    lonely None k = k
    lonely (Some o) k = k

pub one_class : (a : Ref) (c d : ℕ) → IsOfClass c a → IsOfClass d a → c ≡ d
one_class None c d k l = absurd k
one_class (Some o) c d k l = sym k ∙ l

-- ---- members

pub none_in_empty : (a : Ref) → ¬ (IsMember a set.empty)
none_in_empty None k = k
none_in_empty (Some o) k = let e : false ≡ true = sym (nothing_has_none o) ∙ k in cc

pub in_single : (a b : Ref) → IsMember a (just b) → (a ≡ b) × ¬ (a ≡ None)
in_single None b k = absurd k
in_single (Some o) None k = absurd (none_in_empty (Some o) k)
in_single (Some o) (Some p) k = (ap Some (one_has_no_other p o k), λ e. cc)

pub single_in : (a b : Ref) → a ≡ b → ¬ (a ≡ None) → IsMember a (just b)
single_in None b e h = h refl
single_in (Some o) b e h = subst (λ b. IsMember (Some o) (just b)) e (one_has_itself o)

pub in_union : (a : Ref) (g h : Region) → IsMember a (set.union g h) → ¬ (¬ (IsMember a g) × ¬ (IsMember a h))
in_union None g h k neither = k
in_union (Some o) g h k neither = ⊎_elim neither.0 neither.1 (or_one (is_in o g) (is_in o h) (sym (union_has_both g h o) ∙ k))

pub left_in_union : (a : Ref) (g h : Region) → IsMember a g → IsMember a (set.union g h)
left_in_union None g h k = k
left_in_union (Some o) g h k = union_has_both g h o ∙ ap (λ b. b || is_in o h) k

pub right_in_union : (a : Ref) (g h : Region) → IsMember a h → IsMember a (set.union g h)
right_in_union None g h k = k
right_in_union (Some o) g h k = union_has_both g h o ∙ or_second (is_in o g) (is_in o h) k

pub in_meet : (a : Ref) (g h : Region) → IsMember a (set.intersection g h) → IsMember a g × IsMember a h
in_meet None g h k = absurd k
in_meet (Some o) g h k = and_both (is_in o g) (is_in o h) (sym (meet_has g h o) ∙ k)

pub meet_in : (a : Ref) (g h : Region) → IsMember a g → IsMember a h → IsMember a (set.intersection g h)
meet_in None g h k l = k
meet_in (Some o) g h k l = meet_has g h o ∙ (λ i. k i && l i)

pub in_minus : (a : Ref) (g h : Region) → IsMember a (set.difference g h) → IsMember a g × ¬ (IsMember a h)
in_minus None g h k = absurd k
in_minus (Some o) g h k = let both = and_both (is_in o g) (not (is_in o h)) (sym (minus_has g h o) ∙ k) in (both.0, differ (is_in o h) both.1)

pub minus_in : (a : Ref) (g h : Region) → IsMember a g → ¬ (IsMember a h) → IsMember a (set.difference g h)
minus_in None g h k l = k
minus_in (Some o) g h k l = let out = fails (is_in o h) l in minus_has g h o ∙ (λ i. k i && not (out i))

pub in_filter : (a : Ref) (c : ℕ) (g : Region) → IsMember a (of_class c g) → IsMember a g × IsOfClass c a
in_filter None c g k = absurd k
in_filter (Some o) c g k = let both = and_both (is_in o g) (o.class == c) (sym (of_class_has c g o) ∙ k) in (both.0, (Decides-eqb o.class c).0 both.1)

pub filter_in : (a : Ref) (c : ℕ) (g : Region) → IsMember a g → IsOfClass c a → IsMember a (of_class c g)
filter_in None c g k l = k
filter_in (Some o) c g k l = let same = (Decides-eqb o.class c).1 l in of_class_has c g o ∙ (λ i. k i && same i)

-- ---- images

-- what a map of the sort gives is the value, or a region that has it
abbrev pub Gives : Srt → Elem → Elem → Type 0
Gives map_rgn_sort given x = IsMember (as_ref x) (as_rgn given)
Gives _ given x = given ≡ x

-- a member of an image is given by a member of the region
pub in_image : (t : Srt) → image_sort (Some t) ≡ Some rgn_sort → (m x : Elem) → HasSort t m → HasSort ref_sort x → (g : Region) → IsMember (as_ref x) (image m g)
    → (o : Obj) × IsTrue (is_in o g) × Gives t (selected m (Some o)) x
in_image map_ref_sort s m x h k g e = subst (λ m. IsMember (as_ref x) (image m g) → (o : Obj) × IsTrue (is_in o g) × (selected m (Some o) ≡ x)) (sym h.1) (given h.0.at) e
  where
    objects : (f : Ref → Ref) (a : Ref) → IsMember a (image (map_ref f) g) → (o : Obj) × IsTrue (is_in o g) × (f (Some o) ≡ a)
    objects f None e = absurd e
    objects f (Some b) e = let found = (united_over_has (λ o. just (f (Some o))) g b).0 e in (found.0, found.1, sym (in_single (Some b) (f (Some found.0)) found.2).0)

    given : (f : Ref → Ref) → IsMember (as_ref x) (image (map_ref f) g) → (o : Obj) × IsTrue (is_in o g) × (ref (f (Some o)) ≡ x)
    given f e = let found = objects f (as_ref x) e in (found.0, found.1, ap ref found.2 ∙ (ap (λ x. ref (as_ref x)) k.1 ∙ sym k.1))
in_image map_rgn_sort s m x h k g e = subst (λ m. IsMember (as_ref x) (image m g) → (o : Obj) × IsTrue (is_in o g) × IsMember (as_ref x) (as_rgn (selected m (Some o)))) (sym h.1) (given h.0.at (as_ref x)) e
  where
    given : (f : Ref → Region) (a : Ref) → IsMember a (image (map_rgn f) g) → (o : Obj) × IsTrue (is_in o g) × IsMember a (f (Some o))
    given f None e = absurd e
    given f (Some b) e = (united_over_has (λ o. f (Some o)) g b).0 e
in_image t s m x h k g e = cc

-- what a member of the region gives is in the image
pub image_in : (t : Srt) → image_sort (Some t) ≡ Some rgn_sort → (m x : Elem) → HasSort t m → HasSort ref_sort x → (g : Region) (o : Ref) → IsMember o g
    → Gives t (selected m o) x → ¬ (x ≡ null_elem) → IsMember (as_ref x) (image m g)
image_in t s m x h k g None within e isnt = absurd within
image_in map_ref_sort s m x h k g (Some o) within e isnt = subst (λ m. selected m (Some o) ≡ x → IsMember (as_ref x) (image m g)) (sym h.1) (λ e. given h.0.at (as_ref x) (ap as_ref e) (λ null. isnt (same_refs x null_elem k (None, refl) null))) e
  where
    given : (f : Ref → Ref) (a : Ref) → f (Some o) ≡ a → ¬ (a ≡ None) → IsMember a (image (map_ref f) g)
    given f None e isnt = isnt refl
    given f (Some b) e isnt = (united_over_has (λ o. just (f (Some o))) g b).1 (o, within, subst (λ a. IsTrue (is_in b (just a))) (sym e) (one_has_itself b))
image_in map_rgn_sort s m x h k g (Some o) within e isnt = subst (λ m. IsMember (as_ref x) (as_rgn (selected m (Some o))) → IsMember (as_ref x) (image m g)) (sym h.1) (given h.0.at (as_ref x)) e
  where
    given : (f : Ref → Region) (a : Ref) → IsMember a (f (Some o)) → IsMember a (image (map_rgn f) g)
    given f None e = e
    given f (Some b) e = (united_over_has (λ o. f (Some o)) g b).1 (o, within, e)
image_in t s m x h k g (Some o) within e isnt = cc

-- ---- two regions

-- terms of regions that are seen as one are one
pub same_regions : (x y : Elem) → HasSort rgn_sort x → HasSort rgn_sort y → as_rgn x ≡ as_rgn y → x ≡ y
same_regions x y h k e = h.1 ∙ (ap (λ x. rgn (as_rgn x)) (sym h.1) ∙ (ap rgn e ∙ (ap (λ x. rgn (as_rgn x)) k.1 ∙ sym k.1)))

-- regions without a reference that is in one alone are one
pub alike : (g h : Region) → ((o : Obj) → ¬ (IsTrue (is_in o g) × ¬ (IsTrue (is_in o h)))) → ((o : Obj) → ¬ (¬ (IsTrue (is_in o g)) × IsTrue (is_in o h))) → g ≡ h
alike g h left right = regions_are_sets g h (λ o. same (is_in o g) (is_in o h) (left o) (right o))
  where
    same : (a b : Bool) → ¬ (IsTrue a × ¬ (IsTrue b)) → ¬ (¬ (IsTrue a) × IsTrue b) → a ≡ b
    same true true left right = refl
    same false false left right = refl
    same true false left right = absurd (left (refl, λ e. cc))
    same false true left right = absurd (right (λ e. cc, refl))
