-- The value of a linear form where the variables have values.
use Rattle.std.proofs.Common.{◌≡◌, ℕ, zero, suc, ℤ, pos, negsuc, ◌*◌, ◌+ℤ◌, ◌-ℤ◌, ◌*ℤ◌, neg_ℤ, ◌≤◌, ◌<◌, ◌≤ℤ◌, Bool, true, false, if◌then◌else◌, ◌==◌, refl, sym, ap, ap₂, subst, ◌∙◌, arith}
use Rattle.std.proofs.lemmas.Int.{ints}
use Rattle.std.proofs.lemmas.Bool.Decides.{Decides-eqb}
use Rattle.std.proofs.Math.IntN.{suc_ℤ-*ℤ, pred_ℤ-*ℤ, +ℤ_one, -ℤ_one, zero-*ℤ, *ℤ-zero, *ℤ_comm, pos-*ℤ-negsuc, +ℤ_idl, +ℤ_idr, ℤ_ind}
use Rattle.rel_straight.specs.Linear.{Linear, number_form, variable_form, plus, minus, times}

more_times : (m x : ℤ) → (m +ℤ pos 1) *ℤ x ≡ m *ℤ x +ℤ x
more_times m x = ap (λ z. z *ℤ x) (+ℤ_one m) ∙ suc_ℤ-*ℤ m x

less_times : (m x : ℤ) → (m -ℤ pos 1) *ℤ x ≡ m *ℤ x -ℤ x
less_times m x = ap (λ z. z *ℤ x) (-ℤ_one m) ∙ pred_ℤ-*ℤ m x

step_more : (p q r s x : ℤ) → p ≡ q +ℤ r → s ≡ r +ℤ x → p +ℤ x ≡ q +ℤ s
step_more p q r s x e f = omega (arith, ints)

step_less : (p q r s x : ℤ) → p ≡ q +ℤ r → s ≡ r -ℤ x → p -ℤ x ≡ q +ℤ s
step_less p q r s x e f = omega (arith, ints)

regroup_more : (a b : ℤ) → a +ℤ (b +ℤ pos 1) ≡ (a +ℤ b) +ℤ pos 1
regroup_more a b = omega (arith, ints)

regroup_less : (a b : ℤ) → a +ℤ (b -ℤ pos 1) ≡ (a +ℤ b) -ℤ pos 1
regroup_less a b = omega (arith, ints)

pub distribute : (a b x : ℤ) → (a +ℤ b) *ℤ x ≡ a *ℤ x +ℤ b *ℤ x
distribute a b x = ℤ_ind (λ c. (a +ℤ c) *ℤ x ≡ a *ℤ x +ℤ c *ℤ x)
    (ap (λ z. z *ℤ x) (+ℤ_idr a) ∙ sym (ap (λ z. a *ℤ x +ℤ z) (zero-*ℤ x) ∙ +ℤ_idr (a *ℤ x)))
    (λ n h. ap (λ z. z *ℤ x) (regroup_more a (pos n)) ∙ more_times (a +ℤ pos n) x ∙ step_more _ _ _ _ x h (more_times (pos n) x))
    (λ n h. ap (λ z. z *ℤ x) (regroup_less a (neg_ℤ (pos n))) ∙ less_times (a +ℤ neg_ℤ (pos n)) x ∙ step_less _ _ _ _ x h (less_times (neg_ℤ (pos n)) x)) b

back : (a b : ℤ) → (a -ℤ b) +ℤ b ≡ a
back a b = omega (arith, ints)

differ : (p q r : ℤ) → p ≡ q +ℤ r → q ≡ p -ℤ r
differ p q r e = omega (arith, ints)

pub distribute_minus : (a b x : ℤ) → (a -ℤ b) *ℤ x ≡ a *ℤ x -ℤ b *ℤ x
distribute_minus a b x = differ _ _ _ (sym (ap (λ z. z *ℤ x) (back a b)) ∙ distribute (a -ℤ b) b x)

pub distribute_left : (k a b : ℤ) → k *ℤ (a +ℤ b) ≡ k *ℤ a +ℤ k *ℤ b
distribute_left k a b = *ℤ_comm k (a +ℤ b) ∙ distribute a b k ∙ ap₂ (λ p q. p +ℤ q) (*ℤ_comm a k) (*ℤ_comm b k)

pub associate : (k a x : ℤ) → (k *ℤ a) *ℤ x ≡ k *ℤ (a *ℤ x)
associate k a x = ℤ_ind (λ k. (k *ℤ a) *ℤ x ≡ k *ℤ (a *ℤ x))
    (ap (λ z. z *ℤ x) (zero-*ℤ a) ∙ zero-*ℤ x ∙ sym (zero-*ℤ (a *ℤ x)))
    (λ n h. ap (λ z. z *ℤ x) (more_times (pos n) a) ∙ distribute _ a x ∙ ap (λ z. z +ℤ a *ℤ x) h ∙ sym (more_times (pos n) (a *ℤ x)))
    (λ n h. ap (λ z. z *ℤ x) (less_times (neg_ℤ (pos n)) a) ∙ distribute_minus _ a x ∙ ap (λ z. z -ℤ a *ℤ x) h ∙ sym (less_times (neg_ℤ (pos n)) (a *ℤ x))) k

below_zero : (n : ℕ) → neg_ℤ (pos n) ≤ℤ pos 0
below_zero n = omega (arith, ints)

-- a number at least 0 times one at most 0
pub sign : (k e : ℤ) → pos 0 ≤ℤ k → e ≤ℤ pos 0 → (k *ℤ e) ≤ℤ pos 0
sign (pos m) (pos n) h g =
    let none : pos n ≡ pos 0 = omega (arith, ints) in
    let z : pos m *ℤ pos n ≡ pos 0 = ap (λ e. pos m *ℤ e) none ∙ *ℤ-zero (pos m) in
    omega (arith, ints, z)
sign (pos m) (negsuc n) h g = subst (λ z. z ≤ℤ pos 0) (sym (pos-*ℤ-negsuc m n)) (below_zero (m * suc n))
sign (negsuc m) e h g = absurd (omega (arith, ints))

-- the sum of the coefficients below n, each times its variable's value
abbrev pub weigh : (ℕ → ℤ) → (ℕ → ℤ) → ℕ → ℤ
weigh x c zero = pos 0
weigh x c (suc n) = weigh x c n +ℤ c n *ℤ x n

four_plus : (p q r s t u : ℤ) → p ≡ q +ℤ r → s ≡ t +ℤ u → p +ℤ s ≡ (q +ℤ t) +ℤ (r +ℤ u)
four_plus p q r s t u e f = omega (arith, ints)

four_minus : (p q r s t u : ℤ) → p ≡ q -ℤ r → s ≡ t -ℤ u → p +ℤ s ≡ (q +ℤ t) -ℤ (r +ℤ u)
four_minus p q r s t u e f = omega (arith, ints)

pub weigh_plus : (x c d : ℕ → ℤ) (n : ℕ) → weigh x (λ v. c v +ℤ d v) n ≡ weigh x c n +ℤ weigh x d n
weigh_plus x c d zero = refl
weigh_plus x c d (suc n) = four_plus _ (weigh x c n) (weigh x d n) _ (c n *ℤ x n) (d n *ℤ x n) (weigh_plus x c d n) (distribute (c n) (d n) (x n))

pub weigh_minus : (x c d : ℕ → ℤ) (n : ℕ) → weigh x (λ v. c v -ℤ d v) n ≡ weigh x c n -ℤ weigh x d n
weigh_minus x c d zero = refl
weigh_minus x c d (suc n) = four_minus _ (weigh x c n) (weigh x d n) _ (c n *ℤ x n) (d n *ℤ x n) (weigh_minus x c d n) (distribute_minus (c n) (d n) (x n))

pub weigh_times : (x c : ℕ → ℤ) (k : ℤ) (n : ℕ) → weigh x (λ v. k *ℤ c v) n ≡ k *ℤ weigh x c n
weigh_times x c k zero = sym (*ℤ-zero k)
weigh_times x c k (suc n) = ap₂ (λ p q. p +ℤ q) (weigh_times x c k n) (associate k (c n) (x n)) ∙ sym (distribute_left k (weigh x c n) (c n *ℤ x n))

pub weigh_none : (x c : ℕ → ℤ) → ((v : ℕ) → c v ≡ pos 0) → (n : ℕ) → weigh x c n ≡ pos 0
weigh_none x c none zero = refl
weigh_none x c none (suc n) = ap₂ (λ p q. p +ℤ q *ℤ x n) (weigh_none x c none n) (none n) ∙ +ℤ_idl (pos 0 *ℤ x n) ∙ zero-*ℤ (x n)

abbrev unit : ℕ → ℕ → ℤ
unit v n = if n == v then pos 1 else pos 0

unit_other : (v n : ℕ) → (n ≡ v → ⊥) → unit v n ≡ pos 0
unit_other v n other = at (n == v) (λ e. other ((Decides-eqb n v).0 e))
  where
    at : (b : Bool) → (b ≡ true → ⊥) → (if b then pos 1 else pos 0) ≡ pos 0
    at true h = absurd (h refl)
    at false h = refl

unit_same : (v n : ℕ) → n ≡ v → unit v n ≡ pos 1
unit_same v n e = ap (λ b. if b then pos 1 else pos 0) ((Decides-eqb n v).1 e)

weigh_before : (x : ℕ → ℤ) (v n : ℕ) → n ≤ v → weigh x (unit v) n ≡ pos 0
weigh_before x v zero h = refl
weigh_before x v (suc n) h =
    ap₂ (λ p q. p +ℤ q *ℤ x n) (weigh_before x v n (omega arith)) (unit_other v n (λ e. omega arith))
    ∙ +ℤ_idl (pos 0 *ℤ x n) ∙ zero-*ℤ (x n)

one_times : (z : ℤ) → pos 1 *ℤ z ≡ z
one_times z = more_times (pos 0) z ∙ ap (λ w. w +ℤ z) (zero-*ℤ z) ∙ +ℤ_idl z

last_variable : (x : ℕ → ℤ) (v n : ℕ) (b : Bool) → (n == v) ≡ b → v < suc n → (v < n → weigh x (unit v) n ≡ x v) → weigh x (unit v) n +ℤ unit v n *ℤ x n ≡ x v
last_variable x v n true e h before =
    let same = (Decides-eqb n v).0 e in
    ap₂ (λ p q. p +ℤ q *ℤ x n) (weigh_before x v n (omega arith)) (unit_same v n same)
    ∙ +ℤ_idl (pos 1 *ℤ x n) ∙ one_times (x n) ∙ ap x same
last_variable x v n false e h before =
    let other : n ≡ v → ⊥ = λ s. (let t : (n == v) ≡ true = (Decides-eqb n v).1 s in cc) in
    let below : v < n = omega (arith, other) in
    ap₂ (λ p q. p +ℤ q *ℤ x n) (before below) (unit_other v n other)
    ∙ ap (λ z. x v +ℤ z) (zero-*ℤ (x n)) ∙ +ℤ_idr (x v)

pub weigh_variable : (x : ℕ → ℤ) (v n : ℕ) → v < n → weigh x (unit v) n ≡ x v
weigh_variable x v zero h = absurd (omega arith)
weigh_variable x v (suc n) h = last_variable x v n (n == v) refl h (weigh_variable x v n)

-- the form's value, counting the variables below n
abbrev pub valued : (ℕ → ℤ) → ℕ → Linear → ℤ
valued x n a = a.constant +ℤ weigh x a.coefficient n

pub valued_plus : (x : ℕ → ℤ) (n : ℕ) (a b : Linear) → valued x n (plus a b) ≡ valued x n a +ℤ valued x n b
valued_plus x n a b = four_plus _ a.constant b.constant _ (weigh x a.coefficient n) (weigh x b.coefficient n) refl (weigh_plus x a.coefficient b.coefficient n)

pub valued_minus : (x : ℕ → ℤ) (n : ℕ) (a b : Linear) → valued x n (minus a b) ≡ valued x n a -ℤ valued x n b
valued_minus x n a b = four_minus _ a.constant b.constant _ (weigh x a.coefficient n) (weigh x b.coefficient n) refl (weigh_minus x a.coefficient b.coefficient n)

pub valued_times : (x : ℕ → ℤ) (n : ℕ) (k : ℤ) (a : Linear) → valued x n (times k a) ≡ k *ℤ valued x n a
valued_times x n k a = ap (λ z. k *ℤ a.constant +ℤ z) (weigh_times x a.coefficient k n) ∙ sym (distribute_left k a.constant (weigh x a.coefficient n))

pub valued_number : (x : ℕ → ℤ) (n : ℕ) (z : ℤ) → valued x n (number_form z) ≡ z
valued_number x n z = ap (λ w. z +ℤ w) (weigh_none x (λ v. pos 0) (λ v. refl) n) ∙ +ℤ_idr z

pub valued_variable : (x : ℕ → ℤ) (v n : ℕ) → v < n → valued x n (variable_form v) ≡ x v
valued_variable x v n h = +ℤ_idl (weigh x (unit v) n) ∙ weigh_variable x v n h

pub valued_constant : (x : ℕ → ℤ) (n : ℕ) (a : Linear) → ((v : ℕ) → a.coefficient v ≡ pos 0) → valued x n a ≡ a.constant
valued_constant x n a none = ap (λ w. a.constant +ℤ w) (weigh_none x a.coefficient none n) ∙ +ℤ_idr a.constant
