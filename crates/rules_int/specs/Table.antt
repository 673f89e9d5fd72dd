-- The rules on integers, rows 43 to 46 of the table.
use Rattle.std.specs.Prelude.{ℕ, ◌+◌, ◌==◌, ℤ, pos, ◌+ℤ◌, ◌*ℤ◌, int_lt, int_le, Bool, false, ◌&&◌, if◌then◌else◌, List, [], ◌∷◌, length, slice_get, zip, Option, Some, None, option_and_then}
use Rattle.std.specs.Ordering.{int_eq}
use Rattle.rel_logic.specs.Syntax.{Srt, int_sort, Trm, Fml, eq, lt, le, no, Nod}
use Rattle.rel_logic.specs.Sorting.{has_sort, is_well_sorted}
use Rattle.rules_table.specs.Nodes.{Stp, Outcome, not_mine, bad, kids}
use Rattle.rules_table.specs.Table.{is_absent, term, form, holds, on, only, the_formula, one_child, two_children}
use Rattle.rules_int.specs.Linear.{Linear, number_form, plus, times, within, joined, form_of, difference, bounded_form, has_no_atoms, are_multiples}

-- ---- sums of formulas

-- a formula's number, and how many times its form is taken
abbrev pub Multiple : Type 0
Multiple = ℕ × ℤ

-- the form of the node's formula, taken so many times
abbrev pub product : Nod → Multiple → Option Linear
product n m = option_and_then (λ f. within (times m.1 f)) (option_and_then (bounded_form n.sorts m.1) (slice_get n.forms m.0))

-- a sum, and those of the multiples added in turn
abbrev pub sum_from : Nod → Option Linear → List Multiple → Option Linear
sum_from n sum [] = sum
sum_from n sum (m ∷ ms) = sum_from n (joined plus sum (product n m)) ms

abbrev pub sum_of : Nod → List Multiple → Option Linear
sum_of n ms = sum_from n (Some (number_form (pos 0))) ms

-- ---- arguments

-- the step holds as many integers as formula numbers, and so many more, so many terms and formulas, and no class
abbrev pub holds_multiples : ℕ → ℕ → ℕ → Stp → Bool
holds_multiples more terms forms s = (length s.ints == length s.nums + more) && (length s.terms == terms && (length s.forms == forms && is_absent s.class))

abbrev pub multiples : Stp → List Multiple
multiples s = zip s.nums s.ints

-- the integer after the multipliers
abbrev pub divisor : Stp → Option ℤ
divisor s = slice_get s.ints (length s.nums)

-- ---- the rows

-- 43: the sum of what is at most 0 is a constant above 0
abbrev pub is_above_zero : Option Linear → Bool
is_above_zero None = false
is_above_zero (Some sum) = int_lt (pos 0) sum.constant && has_no_atoms sum

abbrev pub refutes : Nod → Stp → Bool
refutes n s = holds_multiples 0 0 0 s && is_above_zero (sum_of n (multiples s))

abbrev pub farkas_row : Nod → Stp → Outcome
farkas_row n s = if refutes n s then kids [] else bad

-- c is d / g rounded up, that is the opposite of -d / g rounded down
abbrev pub is_rounded : ℤ → ℤ → ℤ → Bool
is_rounded c d g = int_le d (g *ℤ c) && int_lt (g *ℤ c) (d +ℤ g)

-- the form is the sum divided by g, its constant rounded up
abbrev pub is_quotient : ℤ → Option Linear → Option Linear → Bool
is_quotient g None f = false
is_quotient g (Some sum) None = false
is_quotient g (Some sum) (Some f) = are_multiples g sum.parts f.parts && is_rounded f.constant sum.constant g

-- 44: the sum of what is at most 0, divided and rounded
abbrev pub is_rounded_sum : Nod → List Multiple → ℤ → Trm → Trm → Bool
is_rounded_sum n ms g t u = int_le (pos 1) g && is_quotient g (sum_of n ms) (difference t u)

abbrev pub round_formula : Nod → List Multiple → ℤ → Fml → Outcome
round_formula n ms g (le t u) = if is_well_sorted n.sorts (le t u) && is_rounded_sum n ms g t u then one_child (le t u ∷ []) else bad
round_formula n ms g _ = bad

abbrev pub round_row : Nod → Stp → Outcome
round_row n s = only (holds_multiples 1 0 1 s) (on (λ g. on (round_formula n (multiples s) g) (form s 0)) (divisor s))

-- 45: of two ints that differ, one is below the other
abbrev pub neint_row : List Srt → Fml → Outcome
neint_row sorts (no (eq t u)) = only (has_sort sorts [] int_sort t) (two_children (lt t u ∷ []) (lt u t ∷ []))
neint_row sorts _ = bad

-- 46: two ints of one form are equal
abbrev pub are_alike : Option Linear → Option Linear → Bool
are_alike None g = false
are_alike (Some f) None = false
are_alike (Some f) (Some g) = int_eq f.constant g.constant && are_multiples (pos 1) f.parts g.parts

abbrev pub lineq_terms : List Srt → Trm → Trm → Outcome
lineq_terms sorts t u = only (has_sort sorts [] int_sort t && (has_sort sorts [] int_sort u && are_alike (form_of t) (form_of u))) (one_child (eq t u ∷ []))

abbrev pub lineq_row : Nod → Stp → Outcome
lineq_row n s = only (holds 0 2 0 s) (on (λ t. on (lineq_terms n.sorts t) (term s 1)) (term s 0))

-- ---- the table

abbrev pub integers : Nod → Stp → Outcome
integers n s =
    if s.row == 43 then farkas_row n s else
    if s.row == 44 then round_row n s else
    if s.row == 45 then on (neint_row n.sorts) (the_formula n s) else
    if s.row == 46 then lineq_row n s else
    not_mine

-- ---- the row without children

-- the step's row has no children, and its needs are met
abbrev pub closes : Nod → Stp → Bool
closes n s = if s.row == 43 then refutes n s else false
