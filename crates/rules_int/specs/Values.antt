-- The values of forms: a term's form has the term's value, and that of a true formula is at most 0.
use Rattle.std.proofs.Common.{◌≡◌, ℤ, pos, ◌+ℤ◌, ◌-ℤ◌, ◌*ℤ◌, neg_ℤ, ◌≤ℤ◌, ◌<ℤ◌, int_le, Bool, true, false, T, if◌then◌else◌, List, [], Option, Some, None, option_and_then, refl, sym, ap, ap₂, subst, ◌∙◌, arith}
use Rattle.std.specs.Int.Signed.{le_z_yes}
use Rattle.std.proofs.lemmas.Int.{ints, by_lt_z}
use Rattle.std.proofs.Math.IntN.{*ℤ-zero, +ℤ_idl, +ℤ_idr}
use Rattle.rel_logic.specs.Syntax.{Srt, int_sort, Trm, var, int, add, sub, mul, sel, Fml, eq, lt, le, no}
use Rattle.rel_logic.specs.Sorting.{has_sort}
use Rattle.rel_logic.specs.Truth.{Valuation, as_number, value, IsTrueAt}
use Rattle.rules_int.specs.Linear.{Linear, number_form, atom_form, times_parts, plus, minus, times, minus_plus_one, fits_form, within, joined, form_of, difference, next_difference, if_positive, bounded_form}
use Rattle.rules_int.specs.Products.{distribute_left, one_times, minus_one_times, sign}
use Rattle.rules_int.specs.Weights.{weigh, weigh_append, weigh_times}

-- ---- what a form that is there is made of

pub within_is : (f g : Linear) → within f ≡ Some g → f ≡ g
within_is f g e = at (fits_form f) e
  where
    at : (b : Bool) → (if b then Some f else None) ≡ Some g → f ≡ g
    at true e = cc
    at false e = cc

pub of_joined : (Q : Linear → Type 0) (join : Linear → Linear → Linear) (o p : Option Linear) (h : Linear) → joined join o p ≡ Some h
    → ((f g : Linear) → o ≡ Some f → p ≡ Some g → Q (join f g)) → Q h
of_joined Q join None p h e made = cc
of_joined Q join (Some f) None h e made = cc
of_joined Q join (Some f) (Some g) h e made = subst Q (within_is (join f g) h e) (made f g refl refl)

pub of_bound : {A : Type 0} (rule : A → Option Linear) (o : Option A) (h : Linear) → option_and_then rule o ≡ Some h → (x : A) × (o ≡ Some x) × (rule x ≡ Some h)
of_bound rule None h e = cc
of_bound rule (Some x) h e = (x, refl, e)

of_if : (b : Bool) (o : Option Linear) (h : Linear) → (if b then o else None) ≡ Some h → o ≡ Some h
of_if true o h e = e
of_if false o h e = cc

pub in_order : (a b : ℤ) → int_le a b ≡ true → a ≤ℤ b
in_order a b e = le_z_yes (subst T (sym e) tt)

of_positive : (k : ℤ) (o : Option Linear) (h : Linear) → if_positive k o ≡ Some h → (pos 0 ≤ℤ k) × (o ≡ Some h)
of_positive k o h e = at (int_le (pos 0) k) refl e
  where
    at : (b : Bool) → int_le (pos 0) k ≡ b → (if b then o else None) ≡ Some h → (pos 0 ≤ℤ k) × (o ≡ Some h)
    at true positive e = (in_order (pos 0) k positive, e)
    at false negative e = cc

-- ---- sums and multiples

four : (p q r s t : ℤ) → p ≡ q +ℤ r → (s +ℤ t) +ℤ p ≡ (s +ℤ q) +ℤ (t +ℤ r)
four p q r s t e = omega (arith, ints)

four_minus : (p q r s t w : ℤ) → p ≡ q +ℤ w → w ≡ neg_ℤ r → (s -ℤ t) +ℤ p ≡ (s +ℤ q) -ℤ (t +ℤ r)
four_minus p q r s t w e f = omega (arith, ints)

module _ (r : Valuation) where
  abbrev pub number_at : Trm → ℤ
  number_at a = as_number (value r [] a)

  abbrev pub valued : Linear → ℤ
  valued f = f.constant +ℤ weigh number_at f.parts

  valued_number : (z : ℤ) → valued (number_form z) ≡ z
  valued_number z = +ℤ_idr z

  valued_atom : (a : Trm) → valued (atom_form a) ≡ number_at a
  valued_atom a = +ℤ_idl (pos 1 *ℤ number_at a +ℤ pos 0) ∙ (+ℤ_idr (pos 1 *ℤ number_at a) ∙ one_times (number_at a))

  pub valued_plus : (f g : Linear) → valued (plus f g) ≡ valued f +ℤ valued g
  valued_plus f g = four _ (weigh number_at f.parts) (weigh number_at g.parts) f.constant g.constant (weigh_append number_at f.parts g.parts)

  pub valued_minus : (f g : Linear) → valued (minus f g) ≡ valued f -ℤ valued g
  valued_minus f g =
      four_minus _ (weigh number_at f.parts) (weigh number_at g.parts) f.constant g.constant (weigh number_at (times_parts (neg_ℤ (pos 1)) g.parts))
      (weigh_append number_at f.parts (times_parts (neg_ℤ (pos 1)) g.parts)) (weigh_times number_at (neg_ℤ (pos 1)) g.parts ∙ minus_one_times (weigh number_at g.parts))

  pub valued_times : (k : ℤ) (f : Linear) → valued (times k f) ≡ k *ℤ valued f
  valued_times k f = ap (λ z. k *ℤ f.constant +ℤ z) (weigh_times number_at k f.parts) ∙ sym (distribute_left k f.constant (weigh number_at f.parts))

  valued_next : (f g : Linear) → valued (minus_plus_one f g) ≡ (valued f -ℤ valued g) +ℤ pos 1
  valued_next f g = valued_plus (minus f g) (number_form (pos 1)) ∙ ap₂ (λ x y. x +ℤ y) (valued_minus f g) (valued_number (pos 1))

  -- ---- terms

  pub of_term : (t : Trm) (h : Linear) → form_of t ≡ Some h → valued h ≡ number_at t
  of_term (var n) h e = let same : atom_form (var n) ≡ h = cc in ap valued (sym same) ∙ valued_atom (var n)
  of_term (sel m a) h e = let same : atom_form (sel m a) ≡ h = cc in ap valued (sym same) ∙ valued_atom (sel m a)
  of_term (int z) h e = ap valued (sym (within_is (number_form z) h e)) ∙ valued_number z
  of_term (add t u) h e = of_joined (λ h. valued h ≡ number_at (add t u)) plus (form_of t) (form_of u) h e (λ f g i j. valued_plus f g ∙ ap₂ (λ x y. x +ℤ y) (of_term t f i) (of_term u g j))
  of_term (sub t u) h e = of_joined (λ h. valued h ≡ number_at (sub t u)) minus (form_of t) (form_of u) h e (λ f g i j. valued_minus f g ∙ ap₂ (λ x y. x -ℤ y) (of_term t f i) (of_term u g j))
  of_term (mul k t) h e =
      let b = of_bound (λ f. within (times k f)) (form_of t) h e in
      ap valued (sym (within_is (times k b.0) h b.2)) ∙ (valued_times k b.0 ∙ ap (λ z. k *ℤ z) (of_term t b.0 b.1))
  of_term t h e = cc

  pub of_difference : (t u : Trm) (h : Linear) → difference t u ≡ Some h → valued h ≡ number_at t -ℤ number_at u
  of_difference t u h e = of_joined (λ h. valued h ≡ number_at t -ℤ number_at u) minus (form_of t) (form_of u) h e (λ f g i j. valued_minus f g ∙ ap₂ (λ x y. x -ℤ y) (of_term t f i) (of_term u g j))

  of_next : (t u : Trm) (h : Linear) → next_difference t u ≡ Some h → valued h ≡ (number_at t -ℤ number_at u) +ℤ pos 1
  of_next t u h e =
      of_joined (λ h. valued h ≡ (number_at t -ℤ number_at u) +ℤ pos 1) minus_plus_one (form_of t) (form_of u) h e
      (λ f g i j. valued_next f g ∙ ap₂ (λ x y. (x -ℤ y) +ℤ pos 1) (of_term t f i) (of_term u g j))

  -- ---- formulas

  at_most : (a b z : ℤ) → a ≤ℤ b → z ≡ a -ℤ b → z ≤ℤ pos 0
  at_most a b z h e = omega (arith, ints, h, e)

  at_most_next : (a b z : ℤ) → a <ℤ b → z ≡ (a -ℤ b) +ℤ pos 1 → z ≤ℤ pos 0
  at_most_next a b z h e = omega (arith, ints, h, e)

  turned : (a b : ℤ) → ¬ (a ≤ℤ b) → b <ℤ a
  turned a b h = by_lt_z b a (λ less. less) (λ most. absurd (h most))

  turned_less : (a b : ℤ) → ¬ (a <ℤ b) → b ≤ℤ a
  turned_less a b h = by_lt_z a b (λ less. absurd (h less)) (λ most. most)

  nothing : (a b z : ℤ) → a ≡ b → z ≡ a -ℤ b → z ≡ pos 0
  nothing a b z h e = omega (arith, ints, h, e)

  if_bounded : (k : ℤ) (o : Option Linear) (h : Linear) → if_positive k o ≡ Some h → ((h : Linear) → o ≡ Some h → valued h ≤ℤ pos 0) → (k *ℤ valued h) ≤ℤ pos 0
  if_bounded k o h e below = let p = of_positive k o h e in sign k (valued h) p.0 (below h p.1)

  zero_below : pos 0 ≤ℤ pos 0
  zero_below = omega (arith, ints)

  -- a multiple of the form of what is true
  pub bounded : (sorts : List Srt) (k : ℤ) (f : Fml) (h : Linear) → bounded_form sorts k f ≡ Some h → IsTrueAt r [] f → (k *ℤ valued h) ≤ℤ pos 0
  bounded sorts k (le t u) h e holds = if_bounded k (difference t u) h e (λ h e. at_most (number_at t) (number_at u) (valued h) holds (of_difference t u h e))
  bounded sorts k (lt t u) h e holds = if_bounded k (next_difference t u) h e (λ h e. at_most_next (number_at t) (number_at u) (valued h) holds (of_next t u h e))
  bounded sorts k (no (le t u)) h e holds =
      if_bounded k (next_difference u t) h e (λ h e. at_most_next (number_at u) (number_at t) (valued h) (turned (number_at t) (number_at u) holds) (of_next u t h e))
  bounded sorts k (no (lt t u)) h e holds =
      if_bounded k (difference u t) h e (λ h e. at_most (number_at u) (number_at t) (valued h) (turned_less (number_at t) (number_at u) holds) (of_difference u t h e))
  bounded sorts k (eq t u) h e holds =
      let d = of_difference t u h (of_if (has_sort sorts [] int_sort t) (difference t u) h e) in
      subst (λ z. z ≤ℤ pos 0) (sym (*ℤ-zero k) ∙ ap (λ z. k *ℤ z) (sym (nothing (number_at t) (number_at u) (valued h) (ap as_number holds) d))) zero_below
  bounded sorts k f h e holds = cc
