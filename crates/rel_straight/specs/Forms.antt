-- The linear forms that the code's values stand for, and how one changes by another.
use Rattle.std.specs.Prelude.{◌≡◌, ℕ, ℤ, pos, ◌+ℤ◌, ◌-ℤ◌, ◌*ℤ◌, FitsSigned, List, Option, Some, None}
use Rattle.std.specs.Int.{w128}
use Rattle.std.specs.Option.{unwrap_or}
use Rattle.std.specs.Ordering.{nat_cmp}
use Rattle.std.specs.BTreeMap as tree
use Rattle.std.specs.BTreeMap.{BTreeMap}
use Rattle.rel_straight.specs.declared.linear.Form.{Form}
use Rattle.rel_straight.specs.declared.linear.Change.{Change}
use Rattle.rel_straight.specs.declared.linear.Change.TheVariants.{Add, Subtract, AddTimes}
use Rattle.rel_logic.specs.Syntax.{Srt, Trm, Fml, Nod}
use Rattle.rel_straight.specs.Linear.{Linear, FitsI128, form_of, IsLinear, difference, next_difference, plus, minus, number_form, negation_form, IsUsableNegation, bounded_form, IsUsable, form_at, IsUsableAt, Pair, product, IsGoodPair}

-- an absent coefficient is 0
abbrev pub coefficient_at : BTreeMap ℕ ℤ → ℕ → ℤ
coefficient_at m v = unwrap_or (tree.get nat_cmp m v) (pos 0)

abbrev pub linear : Form → Linear
linear f = record { constant = f.constant; coefficient = coefficient_at f.coefficients }

-- a changed by c
abbrev pub change : Change → ℤ → ℤ → ℤ
change Add a c = a +ℤ c
change Subtract a c = a -ℤ c
change (AddTimes k) a c = a +ℤ k *ℤ c

-- the numbers on the way fit
abbrev pub CanChange : Change → ℤ → ℤ → Type 0
CanChange Add a c = FitsSigned w128 (a +ℤ c)
CanChange Subtract a c = FitsSigned w128 (a -ℤ c)
CanChange (AddTimes k) a c = FitsSigned w128 (k *ℤ c) × FitsSigned w128 (a +ℤ k *ℤ c)

abbrev pub CanChangeEach : Change → (ℕ → ℤ) → (ℕ → ℤ) → Type 0
CanChangeEach how a c = (v : ℕ) → CanChange how (a v) (c v)

abbrev pub ChangesEach : Change → (ℕ → ℤ) → (ℕ → ℤ) → (ℕ → ℤ) → Type 0
ChangesEach how a c after = (v : ℕ) → (after v ≡ change how (a v) (c v)) × CanChange how (a v) (c v)

abbrev pub change_form : Change → Linear → Linear → Linear
change_form how a c = record { constant = change how a.constant c.constant; coefficient = λ v. change how (a.coefficient v) (c.coefficient v) }

abbrev pub CanChangeForm : Change → Linear → Linear → Type 0
CanChangeForm how a c = CanChange how a.constant c.constant × CanChangeEach how a.coefficient c.coefficient

abbrev pub next_linear : Linear → Linear → Linear
next_linear a c = plus (minus a c) (number_form (pos 1))

abbrev pub FitsIfAny : Option Form → Type 0
FitsIfAny None = Unit {0}
FitsIfAny (Some f) = FitsI128 (linear f)

-- two forms joined, where there are both and the numbers on the way fit
abbrev pub IsJoined : Change → Option Form → Option Form → Option Form → Type 0
IsJoined how (Some f) (Some g) None = ¬ (CanChangeForm how (linear f) (linear g))
IsJoined how (Some f) (Some g) (Some h) = CanChangeForm how (linear f) (linear g) × (linear h ≡ change_form how (linear f) (linear g))
IsJoined how _ _ None = Unit {0}
IsJoined how _ _ (Some h) = ⊥

-- the form of a term, if it has one and all in it fits, and likewise below
abbrev pub IsTermForm : Trm → Option Form → Type 0
IsTermForm t None = ¬ (IsLinear t)
IsTermForm t (Some f) = IsLinear t × (linear f ≡ form_of t)

abbrev pub IsDifference : Trm → Trm → Option Form → Type 0
IsDifference t u None = ¬ (IsLinear t × IsLinear u × FitsI128 (difference t u))
IsDifference t u (Some f) = (IsLinear t × IsLinear u × FitsI128 (difference t u)) × (linear f ≡ difference t u)

abbrev pub IsNextDifference : Trm → Trm → Option Form → Type 0
IsNextDifference t u None = ¬ (IsLinear t × IsLinear u × FitsI128 (next_difference t u))
IsNextDifference t u (Some f) = (IsLinear t × IsLinear u × FitsI128 (next_difference t u)) × (linear f ≡ next_difference t u)

abbrev pub IsNegationForm : Fml → ℤ → Option Form → Type 0
IsNegationForm f k None = ¬ (IsUsableNegation f k)
IsNegationForm f k (Some g) = IsUsableNegation f k × (linear g ≡ negation_form f)

abbrev pub IsBoundedForm : List Srt → Fml → ℤ → Option Form → Type 0
IsBoundedForm sorts f k None = ¬ (IsUsable sorts f k)
IsBoundedForm sorts f k (Some g) = IsUsable sorts f k × (linear g ≡ bounded_form f)

abbrev pub IsFormAt : List Srt → Option Fml → ℤ → Option Form → Type 0
IsFormAt sorts f k None = ¬ (IsUsableAt sorts f k)
IsFormAt sorts f k (Some g) = IsUsableAt sorts f k × (linear g ≡ form_at f)

-- the sum with one more pair, where all fits
abbrev pub IsNextSum : Nod → Linear → Pair → Option Form → Type 0
IsNextSum n sum p None = ¬ (IsGoodPair n p × FitsI128 (plus sum (product n.forms p)))
IsNextSum n sum p (Some f) = (IsGoodPair n p × FitsI128 (plus sum (product n.forms p))) × (linear f ≡ plus sum (product n.forms p))
