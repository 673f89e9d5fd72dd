-- What weighted atoms come to where the atoms have values.
use Rattle.std.proofs.Common.{◌≡◌, ◌≢◌, ◌⊎◌, inl, inr, ⊎_elim, zero, suc, ℕ, ◌≤◌, ℤ, pos, ◌+ℤ◌, ◌*ℤ◌, neg_ℤ, Bool, true, false, if◌then◌else◌, List, [], ◌∷◌, ◌++◌, length, refl, sym, ap, ap₂, subst, ◌∙◌, arith}
use Rattle.std.specs.List.{list_all}
use Rattle.std.specs.Ordering.{int_eq}
use Rattle.std.proofs.lemmas.Int.{ints}
use Rattle.std.proofs.lemmas.Bool.Decides.{Decides-int_eq}
use Rattle.std.proofs.Math.IntN.{zero-*ℤ, *ℤ-zero, +ℤ_idl, +ℤ_idr, +ℤ_assoc}
use Rattle.rel_list.proofs.Sets.{and_both}
use Rattle.rel_logic.specs.Syntax.{Trm}
use Rattle.rel_logic.specs.Equal.{same_trm}
use Rattle.rel_logic.proofs.SameTrees.{same_trm_is}
use Rattle.rules_int.specs.Linear.{Part, Linear, coefficient, times_parts, has_no_atoms, is_multiple_at, are_multiples}
use Rattle.rules_int.specs.Products.{distribute, distribute_left, associate}

-- ---- coefficients

pub append_coefficient : (ps qs : List Part) (a : Trm) → coefficient (ps ++ qs) a ≡ coefficient ps a +ℤ coefficient qs a
append_coefficient [] qs a = sym (+ℤ_idl (coefficient qs a))
append_coefficient (p ∷ ps) qs a =
    ap (λ z. (if same_trm p.1 a then p.0 else pos 0) +ℤ z) (append_coefficient ps qs a)
    ∙ sym (+ℤ_assoc (if same_trm p.1 a then p.0 else pos 0) (coefficient ps a) (coefficient qs a))

times_if : (k z : ℤ) (b : Bool) → (if b then k *ℤ z else pos 0) ≡ k *ℤ (if b then z else pos 0)
times_if k z true = refl
times_if k z false = sym (*ℤ-zero k)

pub times_coefficient : (k : ℤ) (ps : List Part) (a : Trm) → coefficient (times_parts k ps) a ≡ k *ℤ coefficient ps a
times_coefficient k [] a = sym (*ℤ-zero k)
times_coefficient k (p ∷ ps) a =
    ap₂ (λ x y. x +ℤ y) (times_if k p.0 (same_trm p.1 a)) (times_coefficient k ps a)
    ∙ sym (distribute_left k (if same_trm p.1 a then p.0 else pos 0) (coefficient ps a))

skip : (p : Part) (ps : List Part) (a : Trm) → same_trm p.1 a ≡ false → coefficient (p ∷ ps) a ≡ coefficient ps a
skip p ps a e = ap (λ b. (if b then p.0 else pos 0) +ℤ coefficient ps a) e ∙ +ℤ_idl (coefficient ps a)

same : (a b : Trm) → same_trm a b ≡ true → a ≡ b
same a b e = (same_trm_is a b).0 e

itself : (a : Trm) → same_trm a a ≡ true
itself a = (same_trm_is a a).1 refl

apart : (a b : Trm) → a ≢ b → same_trm a b ≡ false
apart a b h = at (same_trm a b) refl
  where
    at : (x : Bool) → same_trm a b ≡ x → x ≡ false
    at true e = absurd (h (same a b e))
    at false e = refl

-- ---- tests of each atom

-- what a test of each part says holds of every atom, but of those that aren't there
pub at_each : (P : Trm → Type 0) (test : Part → Bool) → ((p : Part) → test p ≡ true → P p.1) → (ps : List Part) → list_all test ps ≡ true → (a : Trm) → P a ⊎ (coefficient ps a ≡ pos 0)
at_each P test says [] e a = inr refl
at_each P test says (p ∷ ps) e a =
    let both = and_both (test p) (list_all test ps) e in
    by_test (same_trm p.1 a) refl both.0 (at_each P test says ps both.1 a)
  where
    by_test : (b : Bool) → same_trm p.1 a ≡ b → test p ≡ true → P a ⊎ (coefficient ps a ≡ pos 0) → P a ⊎ (coefficient (p ∷ ps) a ≡ pos 0)
    by_test true e h later = inl (subst P (same p.1 a e) (says p h))
    by_test false e h later = ⊎_elim inl (λ none. inr (skip p ps a e ∙ none)) later

pub no_atoms : (f : Linear) → has_no_atoms f ≡ true → (a : Trm) → coefficient f.parts a ≡ pos 0
no_atoms f e a =
    ⊎_elim (λ z. z) (λ z. z)
    (at_each (λ a. coefficient f.parts a ≡ pos 0) (λ p. int_eq (coefficient f.parts p.1) (pos 0)) (λ p h. (Decides-int_eq (coefficient f.parts p.1) (pos 0)).0 h) f.parts e a)

pub multiples_at : (k : ℤ) (ps qs : List Part) → are_multiples k ps qs ≡ true → (a : Trm) → coefficient ps a ≡ k *ℤ coefficient qs a
multiples_at k ps qs e a =
    let both = and_both (list_all (is_multiple_at k ps qs) ps) (list_all (is_multiple_at k ps qs) qs) e in
    let said = λ (p : Part) (h : is_multiple_at k ps qs p ≡ true). (Decides-int_eq (coefficient ps p.1) (k *ℤ coefficient qs p.1)).0 h in
    ⊎_elim (λ z. z) (λ none. ⊎_elim (λ z. z) (λ nothing. none ∙ sym (*ℤ-zero k) ∙ ap (λ z. k *ℤ z) (sym nothing))
    (at_each (λ a. coefficient ps a ≡ k *ℤ coefficient qs a) (is_multiple_at k ps qs) said qs both.1 a))
    (at_each (λ a. coefficient ps a ≡ k *ℤ coefficient qs a) (is_multiple_at k ps qs) said ps both.0 a)

-- ---- sums

abbrev without : Trm → List Part → List Part
without a [] = []
without a (p ∷ ps) = if same_trm p.1 a then without a ps else p ∷ without a ps

shorter : (a : Trm) (ps : List Part) → length (without a ps) ≤ length ps
shorter a [] = omega arith
shorter a (p ∷ ps) = at (same_trm p.1 a) (shorter a ps)
  where
    at : (b : Bool) → length (without a ps) ≤ length ps → length (if b then without a ps else p ∷ without a ps) ≤ suc (length ps)
    at true h = omega (arith, h)
    at false h = omega (arith, h)

without_itself : (a : Trm) (ps : List Part) → coefficient (without a ps) a ≡ pos 0
without_itself a [] = refl
without_itself a (p ∷ ps) = at (same_trm p.1 a) refl (without_itself a ps)
  where
    at : (b : Bool) → same_trm p.1 a ≡ b → coefficient (without a ps) a ≡ pos 0 → coefficient (if b then without a ps else p ∷ without a ps) a ≡ pos 0
    at true e later = later
    at false e later = skip p (without a ps) a e ∙ later

without_other : (a b : Trm) → a ≢ b → (ps : List Part) → coefficient (without a ps) b ≡ coefficient ps b
without_other a b h [] = refl
without_other a b h (p ∷ ps) = at (same_trm p.1 a) refl (without_other a b h ps)
  where
    at : (c : Bool) → same_trm p.1 a ≡ c → coefficient (without a ps) b ≡ coefficient ps b → coefficient (if c then without a ps else p ∷ without a ps) b ≡ coefficient (p ∷ ps) b
    at true e later = later ∙ sym (skip p ps b (apart p.1 b (λ d. h (sym (same p.1 a e) ∙ d))))
    at false e later = ap (λ z. (if same_trm p.1 b then p.0 else pos 0) +ℤ z) later

none_without : (a : Trm) (ps : List Part) → ((b : Trm) → coefficient ps b ≡ pos 0) → (b : Trm) → coefficient (without a ps) b ≡ pos 0
none_without a ps none b = at (same_trm a b) refl
  where
    at : (c : Bool) → same_trm a b ≡ c → coefficient (without a ps) b ≡ pos 0
    at true e = subst (λ b. coefficient (without a ps) b ≡ pos 0) (same a b e) (without_itself a ps)
    at false e = without_other a b (λ d. clash (sym e ∙ (ap (same_trm a) (sym d) ∙ itself a))) ps ∙ none b
      where
        clash : false ≡ true → ⊥
        clash e = cc

regroup : (u v w z : ℤ) → w ≡ v +ℤ z → u +ℤ w ≡ (u +ℤ v) +ℤ z
regroup u v w z e = omega (arith, ints)

insert_between : (u v w z : ℤ) → w ≡ v +ℤ z → u +ℤ w ≡ v +ℤ (u +ℤ z)
insert_between u v w z e = omega (arith, ints)

module _ (x : Trm → ℤ) where
  -- the sum of the atoms' values, each as often as it is taken
  abbrev pub weigh : List Part → ℤ
  weigh [] = pos 0
  weigh (p ∷ ps) = p.0 *ℤ x p.1 +ℤ weigh ps

  pub weigh_append : (ps qs : List Part) → weigh (ps ++ qs) ≡ weigh ps +ℤ weigh qs
  weigh_append [] qs = sym (+ℤ_idl (weigh qs))
  weigh_append (p ∷ ps) qs = ap (λ z. p.0 *ℤ x p.1 +ℤ z) (weigh_append ps qs) ∙ sym (+ℤ_assoc (p.0 *ℤ x p.1) (weigh ps) (weigh qs))

  pub weigh_times : (k : ℤ) (ps : List Part) → weigh (times_parts k ps) ≡ k *ℤ weigh ps
  weigh_times k [] = sym (*ℤ-zero k)
  weigh_times k (p ∷ ps) = ap₂ (λ u v. u +ℤ v) (associate k p.0 (x p.1)) (weigh_times k ps) ∙ sym (distribute_left k (p.0 *ℤ x p.1) (weigh ps))

  -- one atom apart from the others
  split : (a : Trm) (ps : List Part) → weigh ps ≡ coefficient ps a *ℤ x a +ℤ weigh (without a ps)
  split a [] = sym (+ℤ_idr (pos 0 *ℤ x a) ∙ zero-*ℤ (x a))
  split a (p ∷ ps) = at (same_trm p.1 a) refl (split a ps)
    where
      at : (b : Bool) → same_trm p.1 a ≡ b → weigh ps ≡ coefficient ps a *ℤ x a +ℤ weigh (without a ps) → weigh (p ∷ ps) ≡ ((if b then p.0 else pos 0) +ℤ coefficient ps a) *ℤ x a +ℤ weigh (if b then without a ps else p ∷ without a ps)
      at true e later =
          ap (λ b. p.0 *ℤ x b +ℤ weigh ps) (same p.1 a e)
          ∙ regroup (p.0 *ℤ x a) (coefficient ps a *ℤ x a) (weigh ps) (weigh (without a ps)) later
          ∙ ap (λ z. z +ℤ weigh (without a ps)) (sym (distribute p.0 (coefficient ps a) (x a)))
      at false e later =
          insert_between (p.0 *ℤ x p.1) (coefficient ps a *ℤ x a) (weigh ps) (weigh (without a ps)) later
          ∙ ap (λ z. z *ℤ x a +ℤ (p.0 *ℤ x p.1 +ℤ weigh (without a ps))) (sym (+ℤ_idl (coefficient ps a)))

  none_up_to : (n : ℕ) (ps : List Part) → length ps ≤ n → ((a : Trm) → coefficient ps a ≡ pos 0) → weigh ps ≡ pos 0
  none_up_to n [] h none = refl
  none_up_to zero (p ∷ ps) h none = absurd (omega (arith, h))
  none_up_to (suc n) (p ∷ ps) h none =
      split p.1 (p ∷ ps)
      ∙ ap₂ (λ u v. u *ℤ x p.1 +ℤ v) (none p.1) (ap weigh head_gone ∙ none_up_to n (without p.1 ps) fewer (λ b. ap (λ qs. coefficient qs b) (sym head_gone) ∙ none_without p.1 (p ∷ ps) none b))
      ∙ +ℤ_idr (pos 0 *ℤ x p.1) ∙ zero-*ℤ (x p.1)
    where
      head_gone : without p.1 (p ∷ ps) ≡ without p.1 ps
      head_gone = ap (λ b. if b then without p.1 ps else p ∷ without p.1 ps) (itself p.1)

      fewer : length (without p.1 ps) ≤ n
      fewer = let s = shorter p.1 ps in omega (arith, h, s)

  -- atoms that cancel one another come to nothing
  pub weigh_none : (ps : List Part) → ((a : Trm) → coefficient ps a ≡ pos 0) → weigh ps ≡ pos 0
  weigh_none ps none = none_up_to (length ps) ps (omega arith) none

  cancel : (u v w : ℤ) → u +ℤ v ≡ pos 0 → v ≡ neg_ℤ w → u ≡ w
  cancel u v w e f = omega (arith, ints)

  -- each atom taken k times as often
  pub weigh_multiples : (k : ℤ) (ps qs : List Part) → ((a : Trm) → coefficient ps a ≡ k *ℤ coefficient qs a) → weigh ps ≡ k *ℤ weigh qs
  weigh_multiples k ps qs h =
      cancel (weigh ps) (weigh (times_parts (neg_ℤ k) qs)) (k *ℤ weigh qs)
      (sym (weigh_append ps (times_parts (neg_ℤ k) qs)) ∙ weigh_none (ps ++ times_parts (neg_ℤ k) qs) (λ a. append_coefficient ps (times_parts (neg_ℤ k) qs) a ∙ opposite (coefficient ps a) (k *ℤ coefficient qs a) (coefficient (times_parts (neg_ℤ k) qs) a) (h a) (times_coefficient (neg_ℤ k) qs a ∙ neg_times k (coefficient qs a))))
      (weigh_times (neg_ℤ k) qs ∙ neg_times k (weigh qs))
    where
      opposite : (u w v : ℤ) → u ≡ w → v ≡ neg_ℤ w → u +ℤ v ≡ pos 0
      opposite u w v e f = omega (arith, ints)

      both_zero : (u v w : ℤ) → w ≡ pos 0 → w ≡ u +ℤ v → u ≡ neg_ℤ v
      both_zero u v w e f = omega (arith, ints)

      neg_times : (k z : ℤ) → neg_ℤ k *ℤ z ≡ neg_ℤ (k *ℤ z)
      neg_times k z = both_zero (neg_ℤ k *ℤ z) (k *ℤ z) ((neg_ℤ k +ℤ k) *ℤ z) (ap (λ w. w *ℤ z) (nothing k) ∙ zero-*ℤ z) (distribute (neg_ℤ k) k z)
        where
          nothing : (k : ℤ) → neg_ℤ k +ℤ k ≡ pos 0
          nothing k = omega (arith, ints)
