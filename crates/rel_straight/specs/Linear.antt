-- Linear forms over the variables, the forms of terms and formulas, and sums of them.
use Rattle.std.specs.Prelude.{◌≡◌, ℕ, ℤ, pos, ◌+ℤ◌, ◌-ℤ◌, ◌*ℤ◌, ◌≤ℤ◌, ◌<ℤ◌, FitsSigned, if◌then◌else◌, ◌==◌, List, [], ◌∷◌, take, slice_get, All, Option, Some, None}
use Rattle.std.specs.Int.{w128}
use Rattle.rel_logic.specs.Syntax.{Srt, int_sort, Trm, var, int, add, sub, Fml, eq, lt, no, Nod}

-- a constant, and a coefficient for each variable
pub record Linear : Type 0 where
  pub constant : ℤ
  pub coefficient : ℕ → ℤ

abbrev pub number_form : ℤ → Linear
number_form z = record { constant = z; coefficient = λ n. pos 0 }

abbrev pub variable_form : ℕ → Linear
variable_form v = record { constant = pos 0; coefficient = λ n. if n == v then pos 1 else pos 0 }

abbrev pub plus : Linear → Linear → Linear
plus a b = record { constant = a.constant +ℤ b.constant; coefficient = λ n. a.coefficient n +ℤ b.coefficient n }

abbrev pub minus : Linear → Linear → Linear
minus a b = record { constant = a.constant -ℤ b.constant; coefficient = λ n. a.coefficient n -ℤ b.coefficient n }

abbrev pub times : ℤ → Linear → Linear
times k a = record { constant = k *ℤ a.constant; coefficient = λ n. k *ℤ a.coefficient n }

-- the constant and every coefficient lie in the range of an i128
abbrev pub FitsI128 : Linear → Type 0
FitsI128 a = FitsSigned w128 a.constant × ((n : ℕ) → FitsSigned w128 (a.coefficient n))

-- the sort of a closed term that is well sorted, of those that have a form
abbrev pub term_sort : List Srt → Trm → Option Srt
term_sort sorts (var n) = slice_get sorts n
term_sort sorts (int z) = Some int_sort
term_sort sorts (add t u) = Some int_sort
term_sort sorts (sub t u) = Some int_sort
term_sort sorts _ = None

-- the form of a variable, number, sum or difference; that of another term is of no use
abbrev pub form_of : Trm → Linear
form_of (var n) = variable_form n
form_of (int z) = number_form z
form_of (add t u) = plus (form_of t) (form_of u)
form_of (sub t u) = minus (form_of t) (form_of u)
form_of _ = number_form (pos 0)

-- the term has a form, and the form of each of its subterms fits
abbrev pub IsLinear : Trm → Type 0
IsLinear (var n) = Unit {0}
IsLinear (int z) = FitsI128 (form_of (int z))
IsLinear (add t u) = IsLinear t × IsLinear u × FitsI128 (form_of (add t u))
IsLinear (sub t u) = IsLinear t × IsLinear u × FitsI128 (form_of (sub t u))
IsLinear _ = ⊥

-- t - u and t - u + 1
abbrev pub difference : Trm → Trm → Linear
difference t u = minus (form_of t) (form_of u)

abbrev pub next_difference : Trm → Trm → Linear
next_difference t u = plus (difference t u) (number_form (pos 1))

-- the form that is at most 0 where the formula is true, or where it is false
abbrev pub negation_form : Fml → Linear
negation_form (lt t u) = difference u t
negation_form _ = number_form (pos 0)

abbrev pub bounded_form : Fml → Linear
bounded_form (eq t u) = difference t u
bounded_form (lt t u) = next_difference t u
bounded_form (no f) = negation_form f
bounded_form _ = number_form (pos 0)

-- the formula has such a form, which fits, and may be taken k times
abbrev pub IsUsableNegation : Fml → ℤ → Type 0
IsUsableNegation (lt t u) k = (pos 0 ≤ℤ k) × IsLinear u × IsLinear t × FitsI128 (difference u t)
IsUsableNegation _ k = ⊥

abbrev pub IsUsable : List Srt → Fml → ℤ → Type 0
IsUsable sorts (eq t u) k = (term_sort sorts t ≡ Some int_sort) × (term_sort sorts u ≡ Some int_sort) × IsLinear t × IsLinear u × FitsI128 (difference t u)
IsUsable sorts (lt t u) k = (pos 0 ≤ℤ k) × IsLinear t × IsLinear u × FitsI128 (next_difference t u)
IsUsable sorts (no f) k = IsUsableNegation f k
IsUsable sorts _ k = ⊥

-- a pair names a formula by its number, and how many times its form is taken
abbrev pub Pair : Type 0
Pair = ℕ × ℤ

abbrev pub form_at : Option Fml → Linear
form_at None = number_form (pos 0)
form_at (Some f) = bounded_form f

abbrev pub IsUsableAt : List Srt → Option Fml → ℤ → Type 0
IsUsableAt sorts None k = ⊥
IsUsableAt sorts (Some f) k = IsUsable sorts f k

abbrev pub product : List Fml → Pair → Linear
product forms p = times p.1 (form_at (slice_get forms p.0))

abbrev pub IsGoodPair : Nod → Pair → Type 0
IsGoodPair n p = IsUsableAt n.sorts (slice_get n.forms p.0) p.1 × FitsI128 (product n.forms p)

abbrev pub sum_of : List Fml → List Pair → Linear
sum_of forms [] = number_form (pos 0)
sum_of forms (p ∷ ps) = plus (product forms p) (sum_of forms ps)

-- every form, product and prefix sum fits, and the sum is a constant above 0
pub record IsGoodSum (n : Nod) (ps : List Pair) : Type 0 where
  pub pairs : All (IsGoodPair n) ps
  pub prefixes : (m : ℕ) → FitsI128 (sum_of n.forms (take m ps))
  pub above : pos 0 <ℤ (sum_of n.forms ps).constant
  pub no_variable : (v : ℕ) → (sum_of n.forms ps).coefficient v ≡ pos 0
