-- How far a loop over pairs has summed them.
use Rattle.std.proofs.Common.{◌≡◌, ◌↔◌, ℕ, pos, ◌+◌, ◌≤◌, ◌<◌, ◌⊎◌, ◌<ℤ◌, List, [], ◌∷◌, ◌++◌, length, get_or, take, All, Bool, IsTrue, Some, None, lit<, refl, sym, ap, subst, ◌∙◌, ⊎_elim, inl, inr, take_all, arith}
use Rattle.std.proofs.Math.IntN.{+ℤ_idl, +ℤ_idr, +ℤ_assoc}
use Rattle.std.proofs.Math.Nat.{eq-or-lt_of_le}
use Rattle.std.proofs.lemmas.Bool.{cases_lt}
use Rattle.std.proofs.lemmas.List.{take_more}
use Rattle.std.proofs.lemmas.List.Elements.{All-nil, All-push}
use Rattle.rel_logic.specs.Syntax.{Fml, Nod}
use Rattle.rel_straight.specs.declared.linear.Form.{Form}
use Rattle.rel_straight.specs.Linear.{Linear, FitsI128, number_form, plus, Pair, product, IsGoodPair, sum_of, IsGoodSum}
use Rattle.rel_straight.specs.Forms.{linear, IsNextSum}

-- the first m pairs are good and have this sum
pub record Summed (n : Nod) (ps : List Pair) (m : ℕ) (sum : Linear) : Type 0 where
  pub pairs : All (IsGoodPair n) (take m ps)
  pub prefixes : (j : ℕ) → j ≤ m → FitsI128 (sum_of n.forms (take j ps))
  pub is_sum : sum ≡ sum_of n.forms (take m ps)

zero_fits : FitsI128 (number_form (pos 0))
zero_fits = (record { sfits = lit< tt }, λ v. record { sfits = lit< tt })

pub summed_none : (n : Nod) (ps : List Pair) → Summed n ps 0 (number_form (pos 0))
summed_none n ps = record {
  pairs = All-nil _;
  prefixes = λ j h. let e : 0 ≡ j = omega arith in subst (λ j. FitsI128 (sum_of n.forms (take j ps))) e zero_fits;
  is_sum = refl;
}

sum_push : (forms : List Fml) (ps : List Pair) (p : Pair) → plus (sum_of forms ps) (product forms p) ≡ sum_of forms (ps ++ p ∷ [])
sum_push forms [] p = λ i. record {
  constant = (+ℤ_idl (product forms p).constant ∙ sym (+ℤ_idr (product forms p).constant)) i;
  coefficient = λ v. (+ℤ_idl ((product forms p).coefficient v) ∙ sym (+ℤ_idr ((product forms p).coefficient v))) i;
}
sum_push forms (q ∷ ps) p =
    let a = product forms q in
    let b = sum_of forms ps in
    let c = product forms p in
    let e : plus (plus a b) c ≡ plus a (plus b c) = λ i. record {
      constant = +ℤ_assoc a.constant b.constant c.constant i;
      coefficient = λ v. +ℤ_assoc (a.coefficient v) (b.coefficient v) (c.coefficient v) i;
    } in
    e ∙ ap (plus a) (sum_push forms ps p)

module _ (n : Nod) (ps : List Pair) (m : ℕ) (sum : Linear) (so_far : Summed n ps m sum) where
  pub fits_sum : FitsI128 sum
  fits_sum = subst FitsI128 (sym so_far.is_sum) (so_far.prefixes m (omega arith))

  module _ (d : Pair) (within : m < length ps) where
    one_more : sum_of n.forms (take (m + 1) ps) ≡ plus sum (product n.forms (get_or ps m d))
    one_more = ap (sum_of n.forms) (take_more ps m d within) ∙ sym (sum_push n.forms (take m ps) (get_or ps m d)) ∙ ap (λ s. plus s (product n.forms (get_or ps m d))) (sym so_far.is_sum)

    pub summed_more : (f : Form) → IsNextSum n sum (get_or ps m d) (Some f) → Summed n ps (m + 1) (linear f)
    summed_more f h = record {
      pairs = subst (All (IsGoodPair n)) (sym (take_more ps m d within)) (All-push (IsGoodPair n) (take m ps) (get_or ps m d) so_far.pairs h.0.0);
      prefixes = λ j le. ⊎_elim (λ below. so_far.prefixes j below) (λ e. subst (λ j. FitsI128 (sum_of n.forms (take j ps))) (sym e) (subst FitsI128 (sym one_more) h.0.1)) (last j le);
      is_sum = h.1 ∙ sym one_more;
    }
      where
        last : (j : ℕ) → j ≤ m + 1 → (j ≤ m) ⊎ (j ≡ m + 1)
        last j le = ⊎_elim inr (λ below. inl (omega arith)) (eq-or-lt_of_le le)

    pub summed_bad : IsNextSum n sum (get_or ps m d) None → ¬ (IsGoodSum n ps)
    summed_bad h good = h (good.pairs m d within, subst FitsI128 one_more (good.prefixes (m + 1)))

  module _ (whole : length ps ≤ m) where
    all_pairs : take m ps ≡ ps
    all_pairs = take_all m ps whole

    pub summed_all : (b : Bool) → (IsTrue b ↔ ((pos 0 <ℤ sum.constant) × ((v : ℕ) → sum.coefficient v ≡ pos 0))) → (IsTrue b ↔ IsGoodSum n ps)
    summed_all b h =
        let e : sum ≡ sum_of n.forms ps = so_far.is_sum ∙ ap (sum_of n.forms) all_pairs in (
          λ yes. let above = h.0 yes in record {
            pairs = subst (All (IsGoodPair n)) all_pairs so_far.pairs;
            prefixes = λ j. ⊎_elim (λ below. so_far.prefixes j (omega arith)) (λ above. subst (λ xs. FitsI128 (sum_of n.forms xs)) (all_pairs ∙ sym (take_all j ps (omega arith))) (so_far.prefixes m (omega arith))) (cases_lt j m);
            above = subst (λ s. pos 0 <ℤ s.constant) e above.0;
            no_variable = λ v. subst (λ s. s.coefficient v ≡ pos 0) e (above.1 v);
          },
          λ good. h.1 (subst (λ s. pos 0 <ℤ s.constant) (sym e) good.above, λ v. subst (λ s. s.coefficient v ≡ pos 0) (sym e) (good.no_variable v)),
        )
