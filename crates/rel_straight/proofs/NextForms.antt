-- The form of a difference and one more, and of a sum with one more pair.
use Rattle.std.proofs.Common.{◌≡◌, ℕ, ℤ, pos, ◌+ℤ◌, ◌-ℤ◌, Bool, true, MatchBool, Option, Some, None, MatchOption, slice_get, SFits, sym, ap, subst, ◌∙◌}
use Rattle.std.specs.Int.{w128}
use Rattle.std.specs.BTreeMap.{BTreeMap}
use Rattle.std.proofs.Math.IntN.{+ℤ_idr}
use Rattle.rel_logic.specs.Syntax.{Trm, Nod}
use Rattle.rel_straight.specs.declared.linear.Form.{Form}
use Rattle.rel_straight.specs.declared.linear.Change.TheVariants.{Subtract, AddTimes}
use Rattle.rel_straight.specs.Linear.{Linear, FitsI128, form_of}
use Rattle.rel_straight.specs.Forms.{coefficient_at, linear, ChangesEach, CanChangeEach, change_form, CanChangeForm, next_linear, IsTermForm, IsNextDifference, IsFormAt, IsNextSum}

pub next_forms : (t u : Trm) (f g : Form) (r : Option Form) → IsTermForm t (Some f) → IsTermForm u (Some g)
    → MatchOption r (¬ (FitsI128 (next_linear (linear f) (linear g)))) (λ h. (linear h ≡ next_linear (linear f) (linear g)) × FitsI128 (next_linear (linear f) (linear g)))
    → IsNextDifference t u r
next_forms t u f g None h k j = λ l. j (subst FitsI128 (λ i. next_linear (sym h.1 i) (sym k.1 i)) l.2)
next_forms t u f g (Some r) h k j =
    let e : next_linear (linear f) (linear g) ≡ next_linear (form_of t) (form_of u) = λ i. next_linear (h.1 i) (k.1 i) in
    ((h.0, k.0, subst FitsI128 e j.1), j.0 ∙ e)

module _ (a c : Form) (constant : ℤ) (m : BTreeMap ℕ ℤ) where
  pub next_made : (done : Bool) → (constant ≡ (a.constant -ℤ c.constant) +ℤ pos 1) × SFits w128 ((a.constant -ℤ c.constant) +ℤ pos 1)
      → MatchBool done (ChangesEach Subtract (coefficient_at a.coefficients) (coefficient_at c.coefficients) (coefficient_at m)) (¬ (CanChangeEach Subtract (coefficient_at a.coefficients) (coefficient_at c.coefficients)))
      → done ≡ true
      → (linear (record { constant = constant; coefficients = m }) ≡ next_linear (linear a) (linear c)) × FitsI128 (next_linear (linear a) (linear c))
  next_made done first each is_done =
      let all = subst (λ b. MatchBool b (ChangesEach Subtract (coefficient_at a.coefficients) (coefficient_at c.coefficients) (coefficient_at m)) (¬ (CanChangeEach Subtract (coefficient_at a.coefficients) (coefficient_at c.coefficients)))) is_done each in
      let number = λ (v : ℕ). coefficient_at a.coefficients v -ℤ coefficient_at c.coefficients v in (
        λ i. record { constant = first.0 i; coefficient = λ v. ((all v).0 ∙ sym (+ℤ_idr (number v))) i },
        (first.1, λ v. subst (SFits w128) (sym (+ℤ_idr (number v))) (all v).1),
      )

pub next_sum_form : (n : Nod) (sum : Linear) (i : ℕ) (k : ℤ) (f : Form) (r : Option Form) → IsFormAt n.sorts (slice_get n.forms i) k (Some f)
    → MatchOption r (¬ (CanChangeForm (AddTimes k) sum (linear f))) (λ g. (linear g ≡ change_form (AddTimes k) sum (linear f)) × CanChangeForm (AddTimes k) sum (linear f))
    → IsNextSum n sum (i, k) r
next_sum_form n sum i k f None h j =
    λ l. j (subst (CanChangeForm (AddTimes k) sum) (sym h.1) ((l.0.1.0, l.1.0), λ v. (l.0.1.1 v, l.1.1 v)))
next_sum_form n sum i k f (Some g) h j =
    let can = subst (CanChangeForm (AddTimes k) sum) h.1 j.1 in
    (((h.0, (can.0.0, λ v. (can.1 v).0)), (can.0.1, λ v. (can.1 v).1)), j.0 ∙ ap (change_form (AddTimes k) sum) h.1)
