-- Products of integers: how they distribute over sums, and their signs.
use Rattle.std.proofs.Common.{◌≡◌, zero, suc, ℕ, ℤ, pos, negsuc, ◌*◌, ◌+ℤ◌, ◌-ℤ◌, ◌*ℤ◌, neg_ℤ, ◌≤ℤ◌, ◌<ℤ◌, sym, ap, ap₂, subst, ◌∙◌, arith}
use Rattle.std.proofs.lemmas.Int.{ints}
use Rattle.std.proofs.Math.IntN.{suc_ℤ-*ℤ, pred_ℤ-*ℤ, +ℤ_one, -ℤ_one, zero-*ℤ, *ℤ-zero, *ℤ_comm, pos-*ℤ-pos, pos-*ℤ-negsuc, +ℤ_idl, +ℤ_idr, ℤ_ind}

more_times : (m x : ℤ) → (m +ℤ pos 1) *ℤ x ≡ m *ℤ x +ℤ x
more_times m x = ap (λ z. z *ℤ x) (+ℤ_one m) ∙ suc_ℤ-*ℤ m x

less_times : (m x : ℤ) → (m -ℤ pos 1) *ℤ x ≡ m *ℤ x -ℤ x
less_times m x = ap (λ z. z *ℤ x) (-ℤ_one m) ∙ pred_ℤ-*ℤ m x

step_more : (p q r s x : ℤ) → p ≡ q +ℤ r → s ≡ r +ℤ x → p +ℤ x ≡ q +ℤ s
step_more p q r s x e f = omega (arith, ints)

step_less : (p q r s x : ℤ) → p ≡ q +ℤ r → s ≡ r -ℤ x → p -ℤ x ≡ q +ℤ s
step_less p q r s x e f = omega (arith, ints)

regroup_more : (a b : ℤ) → a +ℤ (b +ℤ pos 1) ≡ (a +ℤ b) +ℤ pos 1
regroup_more a b = omega (arith, ints)

regroup_less : (a b : ℤ) → a +ℤ (b -ℤ pos 1) ≡ (a +ℤ b) -ℤ pos 1
regroup_less a b = omega (arith, ints)

pub distribute : (a b x : ℤ) → (a +ℤ b) *ℤ x ≡ a *ℤ x +ℤ b *ℤ x
distribute a b x = ℤ_ind (λ c. (a +ℤ c) *ℤ x ≡ a *ℤ x +ℤ c *ℤ x)
    (ap (λ z. z *ℤ x) (+ℤ_idr a) ∙ sym (ap (λ z. a *ℤ x +ℤ z) (zero-*ℤ x) ∙ +ℤ_idr (a *ℤ x)))
    (λ n h. ap (λ z. z *ℤ x) (regroup_more a (pos n)) ∙ more_times (a +ℤ pos n) x ∙ step_more _ _ _ _ x h (more_times (pos n) x))
    (λ n h. ap (λ z. z *ℤ x) (regroup_less a (neg_ℤ (pos n))) ∙ less_times (a +ℤ neg_ℤ (pos n)) x ∙ step_less _ _ _ _ x h (less_times (neg_ℤ (pos n)) x)) b

back : (a b : ℤ) → (a -ℤ b) +ℤ b ≡ a
back a b = omega (arith, ints)

differ : (p q r : ℤ) → p ≡ q +ℤ r → q ≡ p -ℤ r
differ p q r e = omega (arith, ints)

distribute_minus : (a b x : ℤ) → (a -ℤ b) *ℤ x ≡ a *ℤ x -ℤ b *ℤ x
distribute_minus a b x = differ _ _ _ (sym (ap (λ z. z *ℤ x) (back a b)) ∙ distribute (a -ℤ b) b x)

pub distribute_left : (k a b : ℤ) → k *ℤ (a +ℤ b) ≡ k *ℤ a +ℤ k *ℤ b
distribute_left k a b = *ℤ_comm k (a +ℤ b) ∙ distribute a b k ∙ ap₂ (λ p q. p +ℤ q) (*ℤ_comm a k) (*ℤ_comm b k)

pub associate : (k a x : ℤ) → (k *ℤ a) *ℤ x ≡ k *ℤ (a *ℤ x)
associate k a x = ℤ_ind (λ k. (k *ℤ a) *ℤ x ≡ k *ℤ (a *ℤ x))
    (ap (λ z. z *ℤ x) (zero-*ℤ a) ∙ zero-*ℤ x ∙ sym (zero-*ℤ (a *ℤ x)))
    (λ n h. ap (λ z. z *ℤ x) (more_times (pos n) a) ∙ distribute _ a x ∙ ap (λ z. z +ℤ a *ℤ x) h ∙ sym (more_times (pos n) (a *ℤ x)))
    (λ n h. ap (λ z. z *ℤ x) (less_times (neg_ℤ (pos n)) a) ∙ distribute_minus _ a x ∙ ap (λ z. z -ℤ a *ℤ x) h ∙ sym (less_times (neg_ℤ (pos n)) (a *ℤ x))) k

pub one_times : (z : ℤ) → pos 1 *ℤ z ≡ z
one_times z = more_times (pos 0) z ∙ ap (λ w. w +ℤ z) (zero-*ℤ z) ∙ +ℤ_idl z

pub minus_one_times : (z : ℤ) → neg_ℤ (pos 1) *ℤ z ≡ neg_ℤ z
minus_one_times z = ap (λ w. w *ℤ z) from_zero ∙ less_times (pos 0) z ∙ ap (λ w. w -ℤ z) (zero-*ℤ z) ∙ zero_less z
  where
    from_zero : neg_ℤ (pos 1) ≡ pos 0 -ℤ pos 1
    from_zero = omega (arith, ints)

    zero_less : (z : ℤ) → pos 0 -ℤ z ≡ neg_ℤ z
    zero_less z = omega (arith, ints)

below_zero : (n : ℕ) → neg_ℤ (pos n) ≤ℤ pos 0
below_zero n = omega (arith, ints)

-- a number at least 0 times one at most 0
pub sign : (k e : ℤ) → pos 0 ≤ℤ k → e ≤ℤ pos 0 → (k *ℤ e) ≤ℤ pos 0
sign (pos m) (pos n) h g =
    let none : pos n ≡ pos 0 = omega (arith, ints) in
    let z : pos m *ℤ pos n ≡ pos 0 = ap (λ e. pos m *ℤ e) none ∙ *ℤ-zero (pos m) in
    omega (arith, ints, z)
sign (pos m) (negsuc n) h g = subst (λ z. z ≤ℤ pos 0) (sym (pos-*ℤ-negsuc m n)) (below_zero (m * suc n))
sign (negsuc m) e h g = absurd (omega (arith, ints))

-- what a divisor above 0 takes below itself is at most 0
pub below_divisor : (g m : ℤ) → pos 1 ≤ℤ g → (g *ℤ m) <ℤ g → m ≤ℤ pos 0
below_divisor g (negsuc n) h b = omega (arith, ints)
below_divisor g (pos zero) h b = omega (arith, ints)
below_divisor g (pos (suc n)) h b =
    let more : g *ℤ pos (suc n) ≡ g *ℤ pos n +ℤ g = *ℤ_comm g (pos (suc n)) ∙ suc_times ∙ ap (λ z. z +ℤ g) (*ℤ_comm (pos n) g) in
    let some = at_least g h in
    absurd (omega (arith, ints, more, some))
  where
    suc_times : pos (suc n) *ℤ g ≡ pos n *ℤ g +ℤ g
    suc_times = ap (λ z. z *ℤ g) one_more ∙ more_times (pos n) g
      where
        one_more : pos (suc n) ≡ pos n +ℤ pos 1
        one_more = omega (arith, ints)

    at_least : (g : ℤ) → pos 1 ≤ℤ g → pos 0 ≤ℤ (g *ℤ pos n)
    at_least (pos g) h = let e = pos-*ℤ-pos g n in omega (arith, ints, e)
    at_least (negsuc g) h = absurd (omega (arith, ints))
