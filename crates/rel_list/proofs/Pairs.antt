-- Sets of pairs, and a pair more.
use Rattle.std.proofs.Common.{◌≡◌, ◌⊎◌, ◌==◌, inl, inr, Bool, true, false, not, ◌&&◌, ◌||◌, if◌then◌else◌, IsTrue, List, [], ◌∷◌, Some, None, refl, sym, ap, subst, ◌∙◌, rules, ⊎_elim}
use Rattle.std.specs.Cmp.{IsTotalOrder, tied_itself}
use Rattle.std.specs.Cmp.Rules.{comparing}
use Rattle.std.specs.List.{list_any}
use Rattle.std.specs.FinMap.{IsAntisymmetric}
use Rattle.std.specs.FinSet as set
use Rattle.std.specs.Ordering.{eq_by_cmp, is_eq}
use Rattle.std.specs.declared.cmp.Ordering.TheVariants.{Less, Equal, Greater}
use Rattle.std.proofs.lemmas.Bool.Decides.{Decides-eqb}
use Rattle.rel_list.specs.References.{Obj, same_obj, Ref}
use Rattle.rel_list.specs.Pairs.{Pair, pair_cmp, Pairs, has, IsOneToOne, Extends, is_paired_left, is_paired_right, can_link, linked}
use Rattle.rel_list.proofs.Sets.{obj_alone, same_obj_is, then_equal, and_both, or_one}

pub pair_total : IsTotalOrder pair_cmp
pair_total = search (comparing, rules)

pub pair_alone : IsAntisymmetric pair_cmp
pair_alone x y e =
    let h = then_equal _ _ e in
    let left : x.0 ≡ y.0 = obj_alone _ _ h.0 in
    let right : x.1 ≡ y.1 = obj_alone _ _ h.1 in
    λ i. (left i, right i)

ties : (q x : Pair) → eq_by_cmp pair_cmp q x ≡ true → q ≡ x
ties q x e = pair_alone q x (elim (pair_cmp q x) as (λ r. is_eq r ≡ true → r ≡ Equal) [ Less ↦ λ f. cc | Equal ↦ λ f. refl | Greater ↦ λ f. cc ] e)

tied : (x : Pair) → eq_by_cmp pair_cmp x x ≡ true
tied x = ap is_eq (tied_itself pair_total x)

or_left : (a b : Bool) → a ≡ true → (a || b) ≡ true
or_left true b e = refl
or_left false b e = cc

or_right : (a b : Bool) → b ≡ true → (a || b) ≡ true
or_right true b e = refl
or_right false b e = e

not_true : (b : Bool) → not b ≡ true → b ≡ false
not_true true e = cc
not_true false e = refl

not_false : (b : Bool) → ¬ (b ≡ true) → not b ≡ true
not_false true f = absurd (f refl)
not_false false f = refl

-- one of the items passes
any_weaker : (f g : Pair → Bool) (xs : List Pair) → ((x : Pair) → f x ≡ true → g x ≡ true) → list_any f xs ≡ true → list_any g xs ≡ true
any_weaker f g [] h one = cc
any_weaker f g (x ∷ xs) h one = ⊎_elim (λ e. or_left _ _ (h x e)) (λ e. or_right _ _ (any_weaker f g xs h e)) (or_one _ _ one)

any_one : (f : Pair → Bool) (xs : List Pair) → list_any f xs ≡ true → (p : Pair) × (list_any (eq_by_cmp pair_cmp p) xs ≡ true) × (f p ≡ true)
any_one f [] one = cc
any_one f (x ∷ xs) one =
    ⊎_elim (λ e. (x, or_left _ _ (tied x), e)) (λ e. let k = any_one f xs e in (k.0, or_right _ _ k.1, k.2)) (or_one _ _ one)

paired_left : (q : Pairs) (a b : Obj) → IsTrue (has q a b) → is_paired_left q a ≡ true
paired_left q a b h =
    any_weaker (eq_by_cmp pair_cmp (a, b)) (λ p. same_obj p.0 a) (set.items q)
    (λ x e. (same_obj_is x.0 a).1 (ap (λ p. p.0) (sym (ties (a, b) x e))))
    (sym (set.contains-items q (a, b)) ∙ h)

paired_right : (q : Pairs) (a b : Obj) → IsTrue (has q a b) → is_paired_right q b ≡ true
paired_right q a b h =
    any_weaker (eq_by_cmp pair_cmp (a, b)) (λ p. same_obj p.1 b) (set.items q)
    (λ x e. (same_obj_is x.1 b).1 (ap (λ p. p.1) (sym (ties (a, b) x e))))
    (sym (set.contains-items q (a, b)) ∙ h)

-- what can be linked: two of one class without partners
pub links : (q : Pairs) (a b : Obj) → a.class ≡ b.class → ((c : Obj) → ¬ (IsTrue (has q a c))) → ((c : Obj) → ¬ (IsTrue (has q c b))) → can_link q a b ≡ true
links q a b classes left right =
    both (a.class == b.class) (not (is_paired_left q a)) (not (is_paired_right q b)) ((Decides-eqb a.class b.class).1 classes) (not_false _ (λ e. no_left e)) (not_false _ (λ e. no_right e))
  where
    both : (x y z : Bool) → x ≡ true → y ≡ true → z ≡ true → (x && y && z) ≡ true
    both x y z e f g = λ i. e i && f i && g i

    no_left : is_paired_left q a ≡ true → ⊥
    no_left e =
        let p = any_one (λ p. same_obj p.0 a) (set.items q) e in
        let same = (same_obj_is p.0.0 a).0 p.2 in
        left p.0.1 (subst (λ o. IsTrue (has q o p.0.1)) same (set.contains-items q p.0 ∙ p.1))

    no_right : is_paired_right q b ≡ true → ⊥
    no_right e =
        let p = any_one (λ p. same_obj p.1 b) (set.items q) e in
        let same = (same_obj_is p.0.1 b).0 p.2 in
        right p.0.0 (subst (λ o. IsTrue (has q p.0.0 o)) same (set.contains-items q p.0 ∙ p.1))

link_parts : (q : Pairs) (a b : Obj) → can_link q a b ≡ true → (a.class ≡ b.class) × (is_paired_left q a ≡ false) × (is_paired_right q b ≡ false)
link_parts q a b e =
    let h = and_both (a.class == b.class && not (is_paired_left q a)) (not (is_paired_right q b)) e in
    let k = and_both (a.class == b.class) (not (is_paired_left q a)) h.0 in
    ((Decides-eqb a.class b.class).0 k.0, not_true _ k.1, not_true _ h.1)

-- the pair that a link adds
pub record IsAdded (q : Pairs) (a b : Ref) (x y : Obj) : Type 0 where
  pub left : a ≡ Some x
  pub right : b ≡ Some y
  pub classes : x.class ≡ y.class
  pub free_left : is_paired_left q x ≡ false
  pub free_right : is_paired_right q y ≡ false

insert_cases : (q : Pairs) (a b x y : Obj) → IsTrue (has (set.insert q (a, b)) x y) → IsTrue (has q x y) ⊎ (((x ≡ a) × (y ≡ b)))
insert_cases q a b x y h =
    ⊎_elim (λ e. let same = ties (x, y) (a, b) e in inr (ap (λ p. p.0) same, ap (λ p. p.1) same)) (λ e. inl e)
    (or_one _ _ (sym (set.contains-insert pair_total q (a, b) (x, y)) ∙ h))

pub linked_cases : (q : Pairs) (a b : Ref) (x y : Obj) → IsTrue (has (linked q a b) x y) → IsTrue (has q x y) ⊎ IsAdded q a b x y
linked_cases q None b x y h = inl h
linked_cases q (Some a) None x y h = inl h
linked_cases q (Some a) (Some b) x y h = cases (can_link q a b) refl h
  where
    cases : (t : Bool) → can_link q a b ≡ t → IsTrue (has (if t then set.insert q (a, b) else q) x y) → IsTrue (has q x y) ⊎ IsAdded q (Some a) (Some b) x y
    cases true e h =
        let k = link_parts q a b e in
        ⊎_elim (λ old. inl old) (λ new. inr (record {
          left = ap Some (sym new.0);
          right = ap Some (sym new.1);
          classes = ap (λ o. o.class) new.0 ∙ k.0 ∙ ap (λ o. o.class) (sym new.1);
          free_left = ap (is_paired_left q) new.0 ∙ k.1;
          free_right = ap (is_paired_right q) new.1 ∙ k.2;
        })) (insert_cases q a b x y h)
    cases false e h = inl h

insert_keeps : (q : Pairs) (p : Pair) → Extends q (set.insert q p)
insert_keeps q p x y h = set.contains-insert pair_total q p (x, y) ∙ or_right _ _ h

pub linked_keeps : (q : Pairs) (a b : Ref) → Extends q (linked q a b)
linked_keeps q None b x y h = h
linked_keeps q (Some a) None x y h = h
linked_keeps q (Some a) (Some b) x y h = cases (can_link q a b) x y h
  where
    cases : (t : Bool) → Extends q (if t then set.insert q (a, b) else q)
    cases true = insert_keeps q (a, b)
    cases false = λ x y h. h

pub linked_has : (q : Pairs) (a b : Obj) → can_link q a b ≡ true → IsTrue (has (linked q (Some a) (Some b)) a b)
linked_has q a b e =
    subst (λ t. IsTrue (has (if t then set.insert q (a, b) else q) a b)) (sym e)
    (set.contains-insert pair_total q (a, b) (a, b) ∙ or_left _ _ (tied (a, b)))

clash : (b : Bool) → b ≡ true → b ≡ false → ⊥
clash b e f = let h : true ≡ false = sym e ∙ f in cc

pub linked_one_to_one : (q : Pairs) (a b : Ref) → IsOneToOne q → IsOneToOne (linked q a b)
linked_one_to_one q a b h = record {
  classes = λ x y k. ⊎_elim (λ old. h.classes x y old) (λ new. new.classes) (linked_cases q a b x y k);
  one_right = λ x y z k l. right x y z (linked_cases q a b x y k) (linked_cases q a b x z l);
  one_left = λ x y z k l. left x y z (linked_cases q a b x z k) (linked_cases q a b y z l);
}
  where
    right : (x y z : Obj) → IsTrue (has q x y) ⊎ IsAdded q a b x y → IsTrue (has q x z) ⊎ IsAdded q a b x z → y ≡ z
    right x y z (inl k) (inl l) = h.one_right x y z k l
    right x y z (inl k) (inr l) = absurd (clash _ (paired_left q x y k) l.free_left)
    right x y z (inr k) (inl l) = absurd (clash _ (paired_left q x z l) k.free_left)
    right x y z (inr k) (inr l) = let e : Some y ≡ Some z = sym k.right ∙ l.right in cc

    left : (x y z : Obj) → IsTrue (has q x z) ⊎ IsAdded q a b x z → IsTrue (has q y z) ⊎ IsAdded q a b y z → x ≡ y
    left x y z (inl k) (inl l) = h.one_left x y z k l
    left x y z (inl k) (inr l) = absurd (clash _ (paired_right q x z k) l.free_right)
    left x y z (inr k) (inl l) = absurd (clash _ (paired_right q y z l) k.free_right)
    left x y z (inr k) (inr l) = let e : Some x ≡ Some y = sym k.left ∙ l.left in cc
