-- When the small formulas are true: conjunctions, inclusions, pairs that are inside, references that can be linked, and growth.
use Rattle.std.proofs.Common.{◌≡◌, ◌↔◌, ℕ, ◌+◌, suc, ◌+ℤ◌, ◌-ℤ◌, ◌*ℤ◌, Bool, true, false, not, ◌&&◌, ◌||◌, ◌==◌, if◌then◌else◌, IsTrue, List, [], ◌∷◌, get_or, Some, None, refl, sym, ap, subst, ◌∙◌, ⊎_elim, true≢false, add-one, arith}
use Rattle.std.specs.List.{AllByRecursion, list_any}
use Rattle.std.specs.FinSet as set
use Rattle.std.specs.Ordering.{eq_by_cmp, is_eq}
use Rattle.std.specs.declared.cmp.Ordering.TheVariants.{Less, Equal, Greater}
use Rattle.std.proofs.lemmas.Bool.Decides.{Decides-eqb}
use Rattle.rel_list.specs.References.{Obj, same_obj, Ref, is_in, just, of_class}
use Rattle.rel_list.specs.Regions.{is_within}
use Rattle.rel_list.specs.Pairs.{Pair, pair_cmp, Pairs, has, is_paired_left, is_paired_right, can_link, linked}
use Rattle.rel_list.proofs.Sets.{same_obj_is, and_both, or_one}
use Rattle.rel_list.proofs.Pairs.{pair_alone, links}
use Rattle.rel_lang.proofs.Values.{Within, is_within_each, each_is_within}
use Rattle.rel_logic.specs.Syntax.{ref_sort, Trm, var, bound, int, add, sub, mul, null, sel, sto, empty, one, cup, cap, less, img, of, link, Fml, verum, member, is, paired, no, and, imp, every}
use Rattle.rel_logic.specs.Truth.{Elem, number, ref, rgn, bij, as_number, as_ref, as_rgn, as_pairs, null_elem, selected, stored, image, Valuation, value, IsMember, IsOfClass, ArePartners, IsTrueAt}
use Rattle.rel_logic.specs.Equal.{same_trm}
use Rattle.rel_logic.proofs.SameTrees.{same_trm_is}
use Rattle.rel_encode.specs.Terms.{lifted}
use Rattle.rel_encode.specs.Formulas.{joined, conj, subset}
use Rattle.rel_encode.specs.Relations.{inside, linkable}
use Rattle.rel_encode.specs.Facts.{grow}
use Rattle.rel_encode.specs.Laws.{IsExactInside, IsExactLinkable, IsExactGrowth}

-- ---- terms under more quantifiers

module _ (r : Valuation) (bs cs : List Elem) (k : ℕ) (h : (n : ℕ) → get_or cs (n + k) null_elem ≡ get_or bs n null_elem) where
  lifted_value : (t : Trm) → value r cs (lifted k t) ≡ value r bs t
  lifted_value (var n) = refl
  lifted_value (bound n) = h n
  lifted_value (int n) = refl
  lifted_value (add a b) = λ i. number (as_number (lifted_value a i) +ℤ as_number (lifted_value b i))
  lifted_value (sub a b) = λ i. number (as_number (lifted_value a i) -ℤ as_number (lifted_value b i))
  lifted_value (mul n a) = λ i. number (n *ℤ as_number (lifted_value a i))
  lifted_value null = refl
  lifted_value (sel m a) = λ i. selected (lifted_value m i) (as_ref (lifted_value a i))
  lifted_value (sto m a b) = λ i. stored (lifted_value m i) (as_ref (lifted_value a i)) (lifted_value b i)
  lifted_value empty = refl
  lifted_value (one a) = λ i. rgn (just (as_ref (lifted_value a i)))
  lifted_value (cup g k) = λ i. rgn (set.union (as_rgn (lifted_value g i)) (as_rgn (lifted_value k i)))
  lifted_value (cap g k) = λ i. rgn (set.intersection (as_rgn (lifted_value g i)) (as_rgn (lifted_value k i)))
  lifted_value (less g k) = λ i. rgn (set.difference (as_rgn (lifted_value g i)) (as_rgn (lifted_value k i)))
  lifted_value (img m g) = λ i. rgn (image (lifted_value m i) (as_rgn (lifted_value g i)))
  lifted_value (of c g) = λ i. rgn (of_class c (as_rgn (lifted_value g i)))
  lifted_value (link p a b) = λ i. bij (linked (as_pairs (lifted_value p i)) (as_ref (lifted_value a i)) (as_ref (lifted_value b i)))

plus_two : (n : ℕ) → n + 2 ≡ suc (suc n)
plus_two n = omega arith

pub under_one : (r : Valuation) (bs : List Elem) (x : Elem) (t : Trm) → value r (x ∷ bs) (lifted 1 t) ≡ value r bs t
under_one r bs x t = lifted_value r bs (x ∷ bs) 1 (λ n. ap (λ m. get_or (x ∷ bs) m null_elem) (add-one n)) t

pub under_two : (r : Valuation) (bs : List Elem) (x y : Elem) (t : Trm) → value r (x ∷ y ∷ bs) (lifted 2 t) ≡ value r bs t
under_two r bs x y t = lifted_value r bs (x ∷ y ∷ bs) 2 (λ n. ap (λ m. get_or (x ∷ y ∷ bs) m null_elem) (plus_two n)) t

-- ---- conjunctions and inclusions

module _ (r : Valuation) (bs : List Elem) where
  joined_true : (f g : Fml) → IsTrueAt r bs (joined f g) ↔ (IsTrueAt r bs f × IsTrueAt r bs g)
  joined_true verum g = (λ h. (tt, h), λ h. h.1)
  joined_true f verum = (λ h. (h, tt), λ h. h.0)
  joined_true f g = (λ h. h, λ h. h)

  -- a conjunction is true exactly where all its members are
  pub conj_true : (fs : List Fml) → IsTrueAt r bs (conj fs) ↔ AllByRecursion (IsTrueAt r bs) fs
  conj_true [] = (λ h. tt, λ h. tt)
  conj_true (f ∷ fs) =
      let both = joined_true f (conj fs) in
      let rest = conj_true fs in
      (λ h. ((both.0 h).0, rest.0 (both.0 h).1), λ h. both.1 (h.0, rest.1 h.1))

  pub subset_true : (a b : Trm) → IsTrueAt r bs (subset a b) ↔ Within (as_rgn (value r bs a)) (as_rgn (value r bs b))
  subset_true a b = (
    λ each o e. subst (λ v. IsTrue (is_in o (as_rgn v))) (under_one r bs (ref (Some o)) b)
        (each (Some o) (subst (λ v. IsTrue (is_in o (as_rgn v))) (sym (under_one r bs (ref (Some o)) a)) e)),
    λ within x. at x within,
  )
    where
      at : (x : Ref) → Within (as_rgn (value r bs a)) (as_rgn (value r bs b)) → IsMember x (as_rgn (value r (ref x ∷ bs) (lifted 1 a))) → IsMember x (as_rgn (value r (ref x ∷ bs) (lifted 1 b)))
      at None within e = e
      at (Some o) within e =
          subst (λ v. IsTrue (is_in o (as_rgn v))) (sym (under_one r bs (ref (Some o)) b))
          (within o (subst (λ v. IsTrue (is_in o (as_rgn v))) (under_one r bs (ref (Some o)) a) e))

-- ---- pairs

along : {A B : Type 0} → A ≡ B → A ↔ B
along {A} e = subst (λ B. A ↔ B) e (λ a. a, λ a. a)

pub exact_inside : (p alloc alloc' : Trm) → IsExactInside p alloc alloc' (inside p alloc alloc')
exact_inside p alloc alloc' r bs q g h is_p is_g is_h = (λ each a b. (along (body_is a b)).0 (each (Some a) (Some b)), λ each x y. at x y each)
  where
    there : (x y : Ref) (t : Trm) (e : Elem) → value r bs t ≡ e → value r (ref y ∷ ref x ∷ bs) (lifted 2 t) ≡ e
    there x y t e same = under_two r bs (ref y) (ref x) t ∙ same

    body_is : (a b : Obj) → IsTrueAt r (ref (Some b) ∷ ref (Some a) ∷ bs) (imp (paired (lifted 2 p) (bound 1) (bound 0)) (and (member (bound 1) (lifted 2 alloc)) (member (bound 0) (lifted 2 alloc'))))
        ≡ (IsTrue (has q a b) → IsTrue (is_in a g) × IsTrue (is_in b h))
    body_is a b = λ i. IsTrue (has (as_pairs (there (Some a) (Some b) p (bij q) is_p i)) a b)
        → IsTrue (is_in a (as_rgn (there (Some a) (Some b) alloc (rgn g) is_g i))) × IsTrue (is_in b (as_rgn (there (Some a) (Some b) alloc' (rgn h) is_h i)))

    at : (x y : Ref) → ((a b : Obj) → IsTrue (has q a b) → IsTrue (is_in a g) × IsTrue (is_in b h))
        → IsTrueAt r (ref y ∷ ref x ∷ bs) (imp (paired (lifted 2 p) (bound 1) (bound 0)) (and (member (bound 1) (lifted 2 alloc)) (member (bound 0) (lifted 2 alloc'))))
    at None y each = λ e. absurd e
    at (Some a) None each = λ e. absurd e
    at (Some a) (Some b) each = (along (body_is a b)).1 (each a b)

pair_ties : (q x : Pair) → eq_by_cmp pair_cmp q x ≡ true → q ≡ x
pair_ties q x e = pair_alone q x (elim (pair_cmp q x) as (λ o. is_eq o ≡ true → o ≡ Equal) [ Less ↦ λ f. cc | Equal ↦ λ f. refl | Greater ↦ λ f. cc ] e)

or_later : (a b : Bool) → b ≡ true → (a || b) ≡ true
or_later true b e = refl
or_later false b e = e

-- a pair of the list that passes
passes : (f : Pair → Bool) (x : Pair) (xs : List Pair) → f x ≡ true → list_any (eq_by_cmp pair_cmp x) xs ≡ true → list_any f xs ≡ true
passes f x [] h e = cc
passes f x (y ∷ ys) h e = ⊎_elim (λ t. ap (λ b. b || list_any f ys) (ap f (sym (pair_ties x y t)) ∙ h)) (λ t. or_later (f y) _ (passes f x ys h t)) (or_one _ _ e)

no_true : (b : Bool) → not b ≡ true → ¬ (b ≡ true)
no_true true e h = true≢false (sym e)
no_true false e h = true≢false (sym h)

-- what can be linked has no partners
no_partners : (q : Pairs) (m n : Obj) → can_link q m n ≡ true → ((o : Obj) → ¬ (IsTrue (has q m o))) × ((o : Obj) → ¬ (IsTrue (has q o n)))
no_partners q m n e = (
  λ o pair. no_true _ (and_both (m.class == n.class) (not (is_paired_left q m)) both.0).1
      (passes (λ p. same_obj p.0 m) (m, o) (set.items q) ((same_obj_is m m).1 refl) (sym (set.contains-items q (m, o)) ∙ pair)),
  λ o pair. no_true _ both.1
      (passes (λ p. same_obj p.1 n) (o, n) (set.items q) ((same_obj_is n n).1 refl) (sym (set.contains-items q (o, n)) ∙ pair)),
)
  where
    both : ((m.class == n.class && not (is_paired_left q m)) ≡ true) × (not (is_paired_right q n) ≡ true)
    both = and_both (m.class == n.class && not (is_paired_left q m)) (not (is_paired_right q n)) e

same_class : (q : Pairs) (m n : Obj) → can_link q m n ≡ true → m.class ≡ n.class
same_class q m n e =
    (Decides-eqb m.class n.class).0 (and_both _ (not (is_paired_left q m)) (and_both (m.class == n.class && not (is_paired_left q m)) (not (is_paired_right q n)) e).0).0

-- both are of the class, and neither has a partner
abbrev AreFree : ℕ → Pairs → Ref → Ref → Type 0
AreFree c q x y = IsOfClass c x × (IsOfClass c y × (((v : Ref) → ¬ (ArePartners q x v)) × (((v : Ref) → ¬ (ArePartners q v y)) × Unit {0})))

free_can_link : (c : ℕ) (q : Pairs) (x y : Ref) → AreFree c q x y → (m n : Obj) × (x ≡ Some m) × (y ≡ Some n) × (m.class ≡ c) × IsTrue (can_link q m n)
free_can_link c q None y h = absurd h.0
free_can_link c q (Some m) None h = absurd h.1.0
free_can_link c q (Some m) (Some n) h = (m, n, refl, refl, h.0, links q m n (h.0 ∙ sym h.1.0) (λ o. h.1.1.0 (Some o)) (λ o. h.1.1.1.0 (Some o)))

can_link_free : (c : ℕ) (q : Pairs) (m n : Obj) → m.class ≡ c → IsTrue (can_link q m n) → AreFree c q (Some m) (Some n)
can_link_free c q m n of_class can = (of_class, (sym (same_class q m n can) ∙ of_class, (no_right, (no_left, tt))))
  where
    no_right : (v : Ref) → ¬ (ArePartners q (Some m) v)
    no_right None h = h
    no_right (Some o) h = (no_partners q m n can).0 o h

    no_left : (v : Ref) → ¬ (ArePartners q v (Some n))
    no_left None h = h
    no_left (Some o) h = (no_partners q m n can).1 o h

abbrev linkable_parts : ℕ → Trm → Trm → Trm → List Fml
linkable_parts c p a b = is c a ∷ is c b ∷ every ref_sort (no (paired (lifted 1 p) (lifted 1 a) (bound 0))) ∷ every ref_sort (no (paired (lifted 1 p) (bound 0) (lifted 1 b))) ∷ []

pub exact_linkable : (c : ℕ) (p a b : Trm) → IsExactLinkable c p a b (linkable c p a b)
exact_linkable c p a b r bs q x y is_p is_a is_b =
    let all = conj_true r bs (linkable_parts c p a b) in
    (λ h. free_can_link c q x y ((along are_free).0 (all.0 h)), λ h. all.1 ((along are_free).1 (back h)))
  where
    there : (v : Ref) (t : Trm) (e : Elem) → value r bs t ≡ e → value r (ref v ∷ bs) (lifted 1 t) ≡ e
    there v t e same = under_one r bs (ref v) t ∙ same

    are_free : AllByRecursion (IsTrueAt r bs) (linkable_parts c p a b) ≡ AreFree c q x y
    are_free = λ i. IsOfClass c (as_ref (is_a i)) × (IsOfClass c (as_ref (is_b i))
        × (((v : Ref) → ¬ (ArePartners (as_pairs (there v p (bij q) is_p i)) (as_ref (there v a (ref x) is_a i)) v))
        × (((v : Ref) → ¬ (ArePartners (as_pairs (there v p (bij q) is_p i)) v (as_ref (there v b (ref y) is_b i)))) × Unit {0})))

    back : ((m n : Obj) × (x ≡ Some m) × (y ≡ Some n) × (m.class ≡ c) × IsTrue (can_link q m n)) → AreFree c q x y
    back h = subst (λ v. AreFree c q v y) (sym h.2) (subst (λ v. AreFree c q (Some h.0) v) (sym h.3) (can_link_free c q h.0 h.1 h.4 h.5))

-- ---- growth

pub exact_growth : (before after : Trm) → IsExactGrowth before after (grow before after)
exact_growth before after r bs g h is_g is_h = cases (same_trm before after) refl
  where
    cases : (b : Bool) → same_trm before after ≡ b → IsTrueAt r bs (if b then verum else subset before after) ↔ IsTrue (is_within g h)
    cases true e =
        let same : g ≡ h = ap as_rgn (sym is_g ∙ ap (value r bs) ((same_trm_is before after).0 e) ∙ is_h) in
        (λ t. each_is_within g h (λ o m. subst (λ k. IsTrue (is_in o k)) same m), λ t. tt)
    cases false e =
        let within : IsTrueAt r bs (subset before after) ↔ Within g h = subst (λ v. IsTrueAt r bs (subset before after) ↔ Within g (as_rgn v)) is_h
        (subst (λ v. IsTrueAt r bs (subset before after) ↔ Within (as_rgn v) (as_rgn (value r bs after))) is_g (subset_true r bs before after)) in
        (λ t. each_is_within g h (within.0 t), λ t. within.1 (is_within_each g h t))
