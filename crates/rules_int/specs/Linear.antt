-- Linear forms over atoms, and the forms of terms and formulas. Every number of a form must lie in the range of an i128.
use Rattle.std.specs.Prelude.{◌^◌, ℤ, pos, negsuc, ◌+ℤ◌, ◌-ℤ◌, ◌*ℤ◌, neg_ℤ, int_le, nat_lt, Bool, ◌&&◌, if◌then◌else◌, List, [], ◌∷◌, ◌++◌, map, Option, Some, None, option_and_then}
use Rattle.std.specs.List.{list_all}
use Rattle.std.specs.Ordering.{int_eq}
use Rattle.rel_logic.specs.Syntax.{Srt, int_sort, Trm, var, int, add, sub, mul, sel, Fml, eq, lt, le, no}
use Rattle.rel_logic.specs.Sorting.{has_sort}
use Rattle.rel_logic.specs.Equal.{same_trm}

-- ---- forms

-- an atom, taken so many times
abbrev pub Part : Type 0
Part = ℤ × Trm

-- a constant and parts, in which an atom may stand more than once
pub record Linear : Type 0 where
  pub constant : ℤ
  pub parts : List Part

-- how often an atom is taken in all
abbrev pub coefficient : List Part → Trm → ℤ
coefficient [] a = pos 0
coefficient (p ∷ ps) a = (if same_trm p.1 a then p.0 else pos 0) +ℤ coefficient ps a

abbrev pub number_form : ℤ → Linear
number_form z = record { constant = z; parts = [] }

abbrev pub atom_form : Trm → Linear
atom_form a = record { constant = pos 0; parts = (pos 1, a) ∷ [] }

abbrev pub times_parts : ℤ → List Part → List Part
times_parts k ps = map (λ p. (k *ℤ p.0, p.1)) ps

abbrev pub plus : Linear → Linear → Linear
plus f g = record { constant = f.constant +ℤ g.constant; parts = f.parts ++ g.parts }

abbrev pub minus : Linear → Linear → Linear
minus f g = record { constant = f.constant -ℤ g.constant; parts = f.parts ++ times_parts (neg_ℤ (pos 1)) g.parts }

abbrev pub times : ℤ → Linear → Linear
times k f = record { constant = k *ℤ f.constant; parts = times_parts k f.parts }

-- f - g + 1
abbrev pub minus_plus_one : Linear → Linear → Linear
minus_plus_one f g = plus (minus f g) (number_form (pos 1))

-- ---- the range of an i128: from -2^127 on, and below 2^127

abbrev pub fits : ℤ → Bool
fits (pos n) = nat_lt n (2 ^ 127)
fits (negsuc n) = nat_lt n (2 ^ 127)

abbrev pub fits_form : Linear → Bool
fits_form f = fits f.constant && list_all (λ p. fits (coefficient f.parts p.1)) f.parts

-- the form, where all its numbers fit
abbrev pub within : Linear → Option Linear
within f = if fits_form f then Some f else None

-- two forms joined
abbrev pub joined : (Linear → Linear → Linear) → Option Linear → Option Linear → Option Linear
joined join None g = None
joined join (Some f) None = None
joined join (Some f) (Some g) = within (join f g)

-- ---- the forms of terms and formulas

-- variables and values of maps are the atoms; a term that isn't one of ints has none, or one that is of no use
abbrev pub form_of : Trm → Option Linear
form_of (var n) = Some (atom_form (var n))
form_of (sel m a) = Some (atom_form (sel m a))
form_of (int z) = within (number_form z)
form_of (add t u) = joined plus (form_of t) (form_of u)
form_of (sub t u) = joined minus (form_of t) (form_of u)
form_of (mul k t) = option_and_then (λ f. within (times k f)) (form_of t)
form_of _ = None

-- t - u, and t - u + 1
abbrev pub difference : Trm → Trm → Option Linear
difference t u = joined minus (form_of t) (form_of u)

abbrev pub next_difference : Trm → Trm → Option Linear
next_difference t u = joined minus_plus_one (form_of t) (form_of u)

-- where the multiplier isn't negative
abbrev pub if_positive : ℤ → Option Linear → Option Linear
if_positive k f = if int_le (pos 0) k then f else None

-- the form that is at most 0 where the formula is true, if it may be taken k times
abbrev pub bounded_form : List Srt → ℤ → Fml → Option Linear
bounded_form sorts k (le t u) = if_positive k (difference t u)
bounded_form sorts k (lt t u) = if_positive k (next_difference t u)
bounded_form sorts k (no (le t u)) = if_positive k (next_difference u t)
bounded_form sorts k (no (lt t u)) = if_positive k (difference u t)
bounded_form sorts k (eq t u) = if has_sort sorts [] int_sort t then difference t u else None
bounded_form sorts k _ = None

-- ---- comparisons of forms

-- nothing but a constant is left
abbrev pub has_no_atoms : Linear → Bool
has_no_atoms f = list_all (λ p. int_eq (coefficient f.parts p.1) (pos 0)) f.parts

-- each atom is taken k times as often in the first as in the second
abbrev pub is_multiple_at : ℤ → List Part → List Part → Part → Bool
is_multiple_at k ps qs p = int_eq (coefficient ps p.1) (k *ℤ coefficient qs p.1)

abbrev pub are_multiples : ℤ → List Part → List Part → Bool
are_multiples k ps qs = list_all (is_multiple_at k ps qs) ps && list_all (is_multiple_at k ps qs) qs
