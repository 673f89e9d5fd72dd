-- Values of maps, pairs and links.
use Rattle.std.proofs.Common.{◌≡◌, ◌↔◌, ◌⊎◌, inl, inr, ⊎_elim, ℕ, ℤ, Bool, true, false, if◌then◌else◌, IsTrue, Some, None, refl, sym, ap, subst, ◌∙◌}
use Rattle.rel_list.specs.References.{Obj, Ref, Region, same_ref}
use Rattle.rel_list.specs.Pairs.{Pairs, has, IsOneToOne, Extends, linked}
use Rattle.rel_list.proofs.Sets.{same_ref_is}
use Rattle.rel_list.proofs.Pairs.{links, linked_cases, linked_has}
use Rattle.rel_logic.specs.Syntax.{Srt, int_sort, ref_sort, rgn_sort, map_int_sort, map_ref_sort, map_rgn_sort, bij_sort}
use Rattle.rel_logic.specs.Sorting.{value_sort}
use Rattle.rel_logic.specs.Truth.{Elem, number, ref, rgn, map_int, map_ref, map_rgn, as_number, as_ref, as_rgn, as_pairs, HasSort, selected, stored, IsOfClass, ArePartners}

-- what is stored is read again
pub reads_stored : (t s : Srt) (m v : Elem) (a : Ref) → value_sort (Some t) ≡ Some s → HasSort t m → HasSort s v → selected (stored m a v) a ≡ v
reads_stored map_int_sort int_sort m v a e h k = subst (λ m. selected (stored m a v) a ≡ v) (sym h.1) (here h.0.at ∙ subst (λ v. number (as_number v) ≡ v) (sym k.1) refl)
  where
    here : (f : Ref → ℤ) → selected (stored (map_int f) a v) a ≡ number (as_number v)
    here f = ap (λ b. number (if b then as_number v else f a)) ((same_ref_is a a).1 refl)
reads_stored map_ref_sort ref_sort m v a e h k = subst (λ m. selected (stored m a v) a ≡ v) (sym h.1) (here h.0.at ∙ subst (λ v. ref (as_ref v) ≡ v) (sym k.1) refl)
  where
    here : (f : Ref → Ref) → selected (stored (map_ref f) a v) a ≡ ref (as_ref v)
    here f = ap (λ b. ref (if b then as_ref v else f a)) ((same_ref_is a a).1 refl)
reads_stored map_rgn_sort rgn_sort m v a e h k = subst (λ m. selected (stored m a v) a ≡ v) (sym h.1) (here h.0.at ∙ subst (λ v. rgn (as_rgn v) ≡ v) (sym k.1) refl)
  where
    here : (f : Ref → Region) → selected (stored (map_rgn f) a v) a ≡ rgn (as_rgn v)
    here f = ap (λ b. rgn (if b then as_rgn v else f a)) ((same_ref_is a a).1 refl)
reads_stored t s m v a e h k = cc

-- elsewhere the map's own value is
reads_past : (m v : Elem) (a b : Ref) → same_ref b a ≡ false → selected (stored m a v) b ≡ selected m b
reads_past (map_int f) v a b e = ap (λ t. number (if t then as_number v else f b)) e
reads_past (map_ref f) v a b e = ap (λ t. ref (if t then as_ref v else f b)) e
reads_past (map_rgn f) v a b e = ap (λ t. rgn (if t then as_rgn v else f b)) e
reads_past m v a b e = refl

-- two references that are seen as one are one
pub same_refs : (x y : Elem) → HasSort ref_sort x → HasSort ref_sort y → as_ref x ≡ as_ref y → x ≡ y
same_refs x y h k e = h.1 ∙ (ap (λ x. ref (as_ref x)) (sym h.1) ∙ (ap ref e ∙ (ap (λ x. ref (as_ref x)) k.1 ∙ sym k.1)))

-- a map with a value at one reference has it, or its own, at another
pub reads_either : (m v x y : Elem) → HasSort ref_sort x → HasSort ref_sort y
    → ¬ (¬ (x ≡ y) × ¬ (¬ (x ≡ y) × (selected (stored m (as_ref x) v) (as_ref y) ≡ selected m (as_ref y))))
reads_either m v x y h k neither = cases (same_ref (as_ref y) (as_ref x)) refl
  where
    cases : (b : Bool) → same_ref (as_ref y) (as_ref x) ≡ b → ⊥
    cases true e = neither.0 (same_refs x y h k (sym ((same_ref_is (as_ref y) (as_ref x)).0 e)))
    cases false e = neither.1 (neither.0, reads_past m v (as_ref x) (as_ref y) e)

pub one_to_one : (e : Elem) → HasSort bij_sort e → IsOneToOne (as_pairs e)
one_to_one e h = subst IsOneToOne (sym (ap as_pairs h.1)) h.0.one_to_one

-- ---- partners

-- partners are two references without null
paired_objects : (p : Pairs) (a b : Ref) → ArePartners p a b → (x y : Obj) × (a ≡ Some x) × (b ≡ Some y) × IsTrue (has p x y)
paired_objects p (Some a) (Some b) k = (a, b, refl, refl, k)
paired_objects p (Some a) None k = absurd k
paired_objects p None b k = absurd k

pub right_alone : (p : Pairs) → IsOneToOne p → (a b c d : Ref) → ArePartners p a b → ArePartners p c d → a ≡ c → b ≡ d
right_alone p h a b c d k l e =
    let x = paired_objects p a b k in
    let y = paired_objects p c d l in
    let same : Some x.0 ≡ Some y.0 = sym x.2 ∙ (e ∙ y.2) in
    let left : x.0 ≡ y.0 = cc in
    x.3 ∙ (ap Some (h.one_right x.0 x.1 y.1 x.4 (subst (λ o. IsTrue (has p o y.1)) (sym left) y.4)) ∙ sym y.3)

pub left_alone : (p : Pairs) → IsOneToOne p → (a b c d : Ref) → ArePartners p a b → ArePartners p c d → b ≡ d → a ≡ c
left_alone p h a b c d k l e =
    let x = paired_objects p a b k in
    let y = paired_objects p c d l in
    let same : Some x.1 ≡ Some y.1 = sym x.3 ∙ (e ∙ y.3) in
    let right : x.1 ≡ y.1 = cc in
    x.2 ∙ (ap Some (h.one_left x.0 y.0 x.1 x.4 (subst (λ o. IsTrue (has p y.0 o)) (sym right) y.4)) ∙ sym y.2)

pub of_one_class : (p : Pairs) → IsOneToOne p → (c : ℕ) (a b : Ref) → ArePartners p a b → IsOfClass c a ↔ IsOfClass c b
of_one_class p h c (Some a) (Some b) k = let e = h.classes a b k in (λ d. sym e ∙ d, λ d. e ∙ d)
of_one_class p h c (Some a) None k = absurd k
of_one_class p h c None b k = absurd k

pub still_partners : (p q : Pairs) → Extends p q → (a b : Ref) → ArePartners p a b → ArePartners q a b
still_partners p q h (Some a) (Some b) k = h a b k
still_partners p q h (Some a) None k = absurd k
still_partners p q h None b k = absurd k

-- the pairs of a link are those that it extends, and the one that it adds
pub link_pairs : (p : Pairs) (a b c d : Ref) → ArePartners (linked p a b) c d → ArePartners p c d ⊎ ((c ≡ a) × (d ≡ b))
link_pairs p a b (Some c) (Some d) k = ⊎_elim (λ old. inl old) (λ new. inr (sym new.left, sym new.right)) (linked_cases p a b c d k)
link_pairs p a b (Some c) None k = absurd k
link_pairs p a b None d k = absurd k

-- two of one class without partners are paired by a link
pub link_pairs_them : (p : Pairs) (c : ℕ) (a b : Ref) → IsOfClass c a → IsOfClass c b → ((d : Ref) → ¬ (ArePartners p a d)) → ((d : Ref) → ¬ (ArePartners p d b)) → ArePartners (linked p a b) a b
link_pairs_them p c (Some a) (Some b) d e left right = linked_has p a b (links p a b (d ∙ sym e) (λ o. left (Some o)) (λ o. right (Some o)))
link_pairs_them p c (Some a) None d e left right = absurd e
link_pairs_them p c None b d e left right = absurd d
