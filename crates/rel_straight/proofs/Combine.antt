-- How far a loop over a map's entries has changed each number.
use Rattle.std.proofs.Common.{◌≡◌, ◌≢◌, ℕ, ℤ, pos, ◌+ℤ◌, true, false, cond, List, [], ◌∷◌, Option, Some, None, MatchOption, SFits, unwrap_or, refl, sym, ap, subst, subst₂, ◌∙◌, ⊎_elim, nat_cmp, is_eq, Less, Equal, Greater, lit<}
use Rattle.std.specs.BTreeMap.{is_at}
use Rattle.std.specs.Cmp.{nat_cmp_total, tied_itself, eq_by_cmp_equiv}
use Rattle.std.specs.FinMap.{nat_cmp-IsAntisymmetric}
use Rattle.std.specs.Int.{w128}
use Rattle.std.specs.List.Sorted.{IsStrictlySortedBy}
use Rattle.std.specs.Map.{keys_of, lookup}
use Rattle.std.proofs.Math.IntN.{*ℤ-zero, +ℤ_idr}
use Rattle.std.proofs.lemmas.Bool.{cases_eq}
use Rattle.std.proofs.lemmas.Map.{lookup-none}
use Rattle.std.proofs.lemmas.Map.Entries.{none_past_head}
use Rattle.std.proofs.lemmas.Map.Keys.{IsDistinct-from_sorted, sorted_tail}
use Rattle.rel_straight.specs.declared.linear.Change.{Change}
use Rattle.rel_straight.specs.declared.linear.Change.TheVariants.{Add, Subtract, AddTimes}
use Rattle.rel_straight.specs.Forms.{change, CanChange, CanChangeEach, ChangesEach}

abbrev pub Entries : Type 0
Entries = List (ℕ × ℤ)

abbrev pub find : ℕ → Entries → Option ℤ
find v es = lookup (is_at (nat_cmp v)) es

abbrev pub number_at : Entries → ℕ → ℤ
number_at es v = unwrap_or (find v es) (pos 0)

-- the numbers of the entries in rest are still to be changed
pub record Progress (how : Change) (before now : ℕ → ℤ) (es rest : Entries) : Type 0 where
  pub sorted : IsStrictlySortedBy nat_cmp (keys_of rest)
  pub numbers : (v : ℕ) → MatchOption (find v rest)
      ((now v ≡ change how (before v) (number_at es v)) × CanChange how (before v) (number_at es v))
      (λ c. (now v ≡ before v) × (number_at es v ≡ c))

change_none : (how : Change) (x : ℤ) → change how x (pos 0) ≡ x
change_none Add x = +ℤ_idr x
change_none Subtract x = +ℤ_idr x
change_none (AddTimes k) x = ap (λ z. x +ℤ z) (*ℤ-zero k) ∙ +ℤ_idr x

zero_fits : SFits w128 (pos 0)
zero_fits = record { sfits = lit< tt }

can_none : (how : Change) (x : ℤ) → SFits w128 x → CanChange how x (pos 0)
can_none Add x h = subst (SFits w128) (sym (+ℤ_idr x)) h
can_none Subtract x h = subst (SFits w128) (sym (+ℤ_idr x)) h
can_none (AddTimes k) x h = (subst (SFits w128) (sym (*ℤ-zero k)) zero_fits, subst (SFits w128) (sym (change_none (AddTimes k) x)) h)

begin_at : (how : Change) (o : Option ℤ) (x : ℤ) → SFits w128 x
    → MatchOption o ((x ≡ change how x (unwrap_or o (pos 0))) × CanChange how x (unwrap_or o (pos 0))) (λ c. (x ≡ x) × (unwrap_or o (pos 0) ≡ c))
begin_at how None x h = (sym (change_none how x), can_none how x h)
begin_at how (Some c) x h = (refl, refl)

pub begins : (how : Change) (before : ℕ → ℤ) (es : Entries) → IsStrictlySortedBy nat_cmp (keys_of es) → ((v : ℕ) → SFits w128 (before v)) → Progress how before before es es
begins how before es sorted fits = record { sorted = sorted; numbers = λ v. begin_at how (find v es) (before v) (fits v) }

is_same : (v : ℕ) → is_at (nat_cmp v) v ≡ true
is_same v = ap is_eq (tied_itself nat_cmp_total v)

is_other : (v w : ℕ) → v ≢ w → is_at (nat_cmp v) w ≡ false
is_other v w h = elim (nat_cmp v w) as (λ r. (r ≡ Equal → v ≡ w) → is_eq r ≡ false) [ Less ↦ λ f. refl | Equal ↦ λ f. absurd (h (f refl)) | Greater ↦ λ f. refl ] (nat_cmp-IsAntisymmetric v w)

module _ (how : Change) (before now : ℕ → ℤ) (es : Entries) (v : ℕ) (c : ℤ) (rest : Entries) (p : Progress how before now es ((v, c) ∷ rest)) where
  pub at_first : (now v ≡ before v) × (number_at es v ≡ c)
  at_first = subst (λ b. MatchOption (cond b (Some c) (find v rest))
      ((now v ≡ change how (before v) (number_at es v)) × CanChange how (before v) (number_at es v))
      (λ c. (now v ≡ before v) × (number_at es v ≡ c))) (is_same v) (p.numbers v)

  none_later : find v rest ≡ None
  none_later = lookup-none _ rest (none_past_head (eq_by_cmp_equiv nat_cmp_total) v (v, c) rest (IsDistinct-from_sorted nat_cmp _ p.sorted) (is_same v))

  pub stops : ¬ (CanChange how (now v) c) → ¬ (CanChangeEach how before (number_at es))
  stops cannot all = cannot (subst₂ (CanChange how) (sym at_first.0) at_first.1 (all v))

  module _ (after : ℕ → ℤ) (here : after v ≡ change how (now v) c) (can : CanChange how (now v) c) (others : (w : ℕ) → is_at (nat_cmp v) w ≡ false → after w ≡ now w) where
    at_same : MatchOption (find v rest)
        ((after v ≡ change how (before v) (number_at es v)) × CanChange how (before v) (number_at es v))
        (λ c. (after v ≡ before v) × (number_at es v ≡ c))
    at_same = subst (λ o. MatchOption o
        ((after v ≡ change how (before v) (number_at es v)) × CanChange how (before v) (number_at es v))
        (λ c. (after v ≡ before v) × (number_at es v ≡ c))) (sym none_later)
        (here ∙ (λ i. change how (at_first.0 i) (sym at_first.1 i)), subst₂ (CanChange how) at_first.0 (sym at_first.1) can)

    at_other : (w : ℕ) → w ≢ v → MatchOption (find w rest)
        ((after w ≡ change how (before w) (number_at es w)) × CanChange how (before w) (number_at es w))
        (λ c. (after w ≡ before w) × (number_at es w ≡ c))
    at_other w h = subst₂ (λ b x. MatchOption (cond b (Some c) (find w rest))
        ((x ≡ change how (before w) (number_at es w)) × CanChange how (before w) (number_at es w))
        (λ c. (x ≡ before w) × (number_at es w ≡ c))) (is_other w v h) (sym (others w (is_other v w (λ e. h (sym e))))) (p.numbers w)

    pub goes_on : Progress how before after es rest
    goes_on = record {
      sorted = sorted_tail nat_cmp _ _ p.sorted;
      numbers = λ w. ⊎_elim (λ e. subst (λ u. MatchOption (find u rest)
          ((after u ≡ change how (before u) (number_at es u)) × CanChange how (before u) (number_at es u))
          (λ c. (after u ≡ before u) × (number_at es u ≡ c))) (sym e) at_same) (at_other w) (cases_eq w v);
    }

pub ends : (how : Change) (before now : ℕ → ℤ) (es : Entries) → Progress how before now es [] → ChangesEach how before (number_at es) now
ends how before now es p = p.numbers

pub ruleset combining = (begins, stops, goes_on, ends)
