-- Regions are finite sets of references.
use Rattle.std.proofs.Common.{◌≡◌, ◌↔◌, ℕ, Bool, true, false, not, ◌&&◌, ◌||◌, ◌==◌, IsTrue, Decides, List, [], ◌∷◌, Option, Some, None, refl, sym, ap, subst, ◌∙◌, rules, ⊎_elim, inl, inr, ◌⊎◌}
use Rattle.std.specs.declared.cmp.Ordering.{Ordering}
use Rattle.std.specs.declared.cmp.Ordering.TheVariants.{Less, Equal, Greater}
use Rattle.std.specs.Ordering.{ordering_then, eq_by_cmp, is_eq}
use Rattle.std.specs.Cmp.{IsTotalOrder, tied_itself}
use Rattle.std.specs.Cmp.Rules.{comparing}
use Rattle.std.specs.List.{list_all, list_any}
use Rattle.std.specs.FinMap.{IsAntisymmetric, nat_cmp-IsAntisymmetric}
use Rattle.std.specs.FinSet as set
use Rattle.std.proofs.lemmas.Bool.Decides.{Decides-eqb}
use Rattle.rel_list.specs.References.{Obj, obj_cmp, Region, is_in, same_obj, same_ref, same_region, each}

pub obj_total : IsTotalOrder obj_cmp
obj_total = search (comparing, rules)

pub then_equal : (a b : Ordering) → ordering_then a b ≡ Equal → (a ≡ Equal) × (b ≡ Equal)
then_equal Less b e = cc
then_equal Equal b e = (refl, e)
then_equal Greater b e = cc

pub obj_alone : IsAntisymmetric obj_cmp
obj_alone x y e =
    let h = then_equal _ _ e in
    let numbers : x.number ≡ y.number = nat_cmp-IsAntisymmetric _ _ h.0 in
    let classes : x.class ≡ y.class = nat_cmp-IsAntisymmetric _ _ h.1 in
    λ i. record { class = classes i; number = numbers i }

pub regions_are_sets : (g h : Region) → ((o : Obj) → is_in o g ≡ is_in o h) → g ≡ h
regions_are_sets = set.same_set obj_total obj_alone

pub union_has_both : (g h : Region) (o : Obj) → is_in o (set.union g h) ≡ (is_in o g || is_in o h)
union_has_both = set.contains-union obj_total

pub ties : (q x : Obj) → eq_by_cmp obj_cmp q x ≡ true → q ≡ x
ties q x e = obj_alone q x (elim (obj_cmp q x) as (λ r. is_eq r ≡ true → r ≡ Equal) [ Less ↦ λ f. cc | Equal ↦ λ f. refl | Greater ↦ λ f. cc ] e)

pub tied : (x : Obj) → eq_by_cmp obj_cmp x x ≡ true
tied x = ap is_eq (tied_itself obj_total x)

pub and_both : (a b : Bool) → (a && b) ≡ true → (a ≡ true) × (b ≡ true)
and_both true b e = (refl, e)
and_both false b e = cc

pub or_one : (a b : Bool) → (a || b) ≡ true → (a ≡ true) ⊎ (b ≡ true)
or_one true b e = inl refl
or_one false b e = inr e

-- a test of all items is one of all members
pub all_any : (f : Obj → Bool) (xs : List Obj) → list_all f xs ≡ true → (q : Obj) → list_any (eq_by_cmp obj_cmp q) xs ≡ true → f q ≡ true
all_any f [] all q one = cc
all_any f (x ∷ xs) all q one =
    let h = and_both _ _ all in
    ⊎_elim (λ e. ap f (ties q x e) ∙ h.0) (all_any f xs h.1 q) (or_one _ _ one)

pub any_all : (f : Obj → Bool) (xs : List Obj) → ((q : Obj) → list_any (eq_by_cmp obj_cmp q) xs ≡ true → f q ≡ true) → list_all f xs ≡ true
any_all f [] each = refl
any_all f (x ∷ xs) each =
    ap (λ b. b && list_all f xs) (each x (ap (λ b. b || list_any (eq_by_cmp obj_cmp x) xs) (tied x)))
    ∙ any_all f xs (λ q one. each q (ap (λ b. eq_by_cmp obj_cmp q x || b) one ∙ or_true (eq_by_cmp obj_cmp q x)))
  where
    or_true : (b : Bool) → (b || true) ≡ true
    or_true true = refl
    or_true false = refl

all_same : (f h : Obj → Bool) (xs : List Obj) → ((q : Obj) → list_any (eq_by_cmp obj_cmp q) xs ≡ true → f q ≡ h q) → list_all f xs ≡ list_all h xs
all_same f h [] same = refl
all_same f h (x ∷ xs) same =
    let here = same x (ap (λ b. b || list_any (eq_by_cmp obj_cmp x) xs) (tied x)) in
    let later = all_same f h xs (λ q one. same q (ap (λ b. eq_by_cmp obj_cmp q x || b) one ∙ any_true (eq_by_cmp obj_cmp q x))) in
    λ i. here i && later i
  where
    any_true : (b : Bool) → (b || true) ≡ true
    any_true true = refl
    any_true false = refl

-- two tests that agree on the members of the class
pub each_same : (c : ℕ) (g : Region) (p q : Obj → Bool) → ((o : Obj) → IsTrue (is_in o g) → o.class ≡ c → p o ≡ q o) → each c g p ≡ each c g q
each_same c g p q same =
    all_same _ _ (set.items g) (λ o one. unless (o.class == c) (p o) (q o) (λ is_c. same o (set.contains-items g o ∙ one) ((Decides-eqb o.class c).0 is_c)))
  where
    unless : (a b d : Bool) → (a ≡ true → b ≡ d) → (not a || b) ≡ (not a || d)
    unless true b d h = h refl
    unless false b d h = refl

pub each_is_all : (c : ℕ) (g : Region) (p : Obj → Bool) → IsTrue (each c g p) ↔ ((o : Obj) → IsTrue (is_in o g) → o.class ≡ c → IsTrue (p o))
each_is_all c g p = (
  λ all o within is_c. forced _ _ (same_class o is_c) (all_any _ _ all o (sym (set.contains-items g o) ∙ within)),
  λ each. any_all _ _ (λ o one. unless _ _ (λ is_c. each o (set.contains-items g o ∙ one) ((Decides-eqb o.class c).0 is_c))),
)
  where
    same_class : (o : Obj) → o.class ≡ c → (o.class == c) ≡ true
    same_class o = (Decides-eqb o.class c).1

    forced : (a b : Bool) → a ≡ true → (not a || b) ≡ true → b ≡ true
    forced true b e f = f
    forced false b e f = cc

    unless : (a b : Bool) → (a ≡ true → b ≡ true) → (not a || b) ≡ true
    unless true b h = h refl
    unless false b h = refl

pub same_obj_is : (a b : Obj) → Decides (same_obj a b) (a ≡ b)
same_obj_is a b = (
  λ e. let h = and_both _ _ e in
      let numbers = (Decides-eqb a.number b.number).0 h.0 in
      let classes = (Decides-eqb a.class b.class).0 h.1 in
      λ i. record { class = classes i; number = numbers i },
  λ e. subst (λ x. same_obj a x ≡ true) e
      (ap (λ x. x && (a.class == a.class)) ((Decides-eqb a.number a.number).1 refl) ∙ (Decides-eqb a.class a.class).1 refl),
)

pub same_ref_is : (a b : Option Obj) → Decides (same_ref a b) (a ≡ b)
same_ref_is None None = (λ e. refl, λ e. refl)
same_ref_is None (Some b) = (λ e. cc, λ e. cc)
same_ref_is (Some a) None = (λ e. cc, λ e. cc)
same_ref_is (Some a) (Some b) = (λ e. ap Some ((same_obj_is a b).0 e), λ e. (same_obj_is a b).1 cc)

pub same_region_is : (g h : Region) → Decides (same_region g h) (g ≡ h)
same_region_is g h = (
  λ e. let both = and_both _ _ e in
      regions_are_sets g h (λ o. either _ _ (set.is_subset-contains obj_total g h both.0 o) (set.is_subset-contains obj_total h g both.1 o)),
  λ e. subst (λ x. (set.is_subset g x && set.is_subset x g) ≡ true) e
      (ap (λ b. b && set.is_subset g g) (within g) ∙ within g),
)
  where
    either : (a b : Bool) → (a ≡ true → b ≡ true) → (b ≡ true → a ≡ true) → a ≡ b
    either true b f k = sym (f refl)
    either false true f k = k refl
    either false false f k = refl

    within : (k : Region) → set.is_subset k k ≡ true
    within k = set.contains-is_subset obj_total k k (λ o e. e)
