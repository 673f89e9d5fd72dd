-- The rules on connectives and quantifiers, rows 1 to 14 of the table.
use Rattle.std.specs.Prelude.{ℕ, ◌==◌, Bool, true, false, ◌&&◌, if◌then◌else◌, List, [], ◌∷◌, length, get_or, slice_get, Option, Some, None}
use Rattle.rel_logic.specs.Syntax.{Srt, Trm, var, Fml, verum, falsum, no, and, or, imp, every, some, Nod}
use Rattle.rel_logic.specs.Substitution.{instantiated}
use Rattle.rel_logic.specs.Sorting.{has_sort, is_well_sorted}
use Rattle.rel_logic.specs.Equal.{same_fml}
use Rattle.rules_table.specs.Nodes.{Stp, Addition, Outcome, not_mine, bad, kids}

-- ---- arguments

abbrev pub is_absent : Option ℕ → Bool
is_absent None = true
is_absent (Some c) = false

-- the step holds this many formula numbers, terms and formulas, and no integers
abbrev pub counts : ℕ → ℕ → ℕ → Stp → Bool
counts nums terms forms s = length s.nums == nums && (length s.terms == terms && (length s.forms == forms && length s.ints == 0))

-- and no class
abbrev pub holds : ℕ → ℕ → ℕ → Stp → Bool
holds nums terms forms s = counts nums terms forms s && is_absent s.class

-- the node's formula with the step's number k
abbrev pub formula : Nod → Stp → ℕ → Option Fml
formula n s k = slice_get n.forms (get_or s.nums k 0)

-- the step's term and formula k
abbrev pub term : Stp → ℕ → Option Trm
term s k = slice_get s.terms k

abbrev pub form : Stp → ℕ → Option Fml
form s k = slice_get s.forms k

-- a rule on an argument, where it is there
abbrev pub on : {A : Type 0} → (A → Outcome) → Option A → Outcome
on rule None = bad
on rule (Some x) = rule x

-- a rule on the node's formulas with the step's first two numbers
abbrev pub on_two_formulas : Nod → Stp → (Fml → Fml → Outcome) → Outcome
on_two_formulas n s rule = on (λ f. on (λ g. rule f g) (formula n s 1)) (formula n s 0)

-- a rule on the step's first three terms
abbrev pub on_three_terms : Stp → (Trm → Trm → Trm → Outcome) → Outcome
on_three_terms s rule = on (λ a. on (λ b. on (λ c. rule a b c) (term s 2)) (term s 1)) (term s 0)

-- a rule behind a test
abbrev pub only : Bool → Outcome → Outcome
only b o = if b then o else bad

-- ---- children

abbrev pub adds : List Fml → Addition
adds fs = record { fresh = []; forms = fs }

abbrev pub one_child : List Fml → Outcome
one_child fs = kids (adds fs ∷ [])

abbrev pub two_children : List Fml → List Fml → Outcome
two_children fs gs = kids (adds fs ∷ adds gs ∷ [])

-- a child with a fresh variable of the sort, and the body at it
abbrev pub fresh_child : Srt → Fml → Outcome
fresh_child s f = kids (record { fresh = s ∷ []; forms = f ∷ [] } ∷ [])

-- ---- the rows on one formula

-- 2: false, or not true, closes the node
abbrev pub is_absurd : Fml → Bool
is_absurd falsum = true
is_absurd (no verum) = true
is_absurd _ = false

abbrev pub absurd_row : Fml → Outcome
absurd_row f = if is_absurd f then kids [] else bad

-- 3: F and G
abbrev pub and_row : Fml → Outcome
and_row (and f g) = one_child (f ∷ g ∷ [])
and_row _ = bad

-- 4: not (F or G)
abbrev pub nor_row : Fml → Outcome
nor_row (no (or f g)) = one_child (no f ∷ no g ∷ [])
nor_row _ = bad

-- 5: not (F implies G)
abbrev pub nimp_row : Fml → Outcome
nimp_row (no (imp f g)) = one_child (f ∷ no g ∷ [])
nimp_row _ = bad

-- 6: not not F
abbrev pub nn_row : Fml → Outcome
nn_row (no (no f)) = one_child (f ∷ [])
nn_row _ = bad

-- 7: F or G
abbrev pub or_row : Fml → Outcome
or_row (or f g) = two_children (f ∷ []) (g ∷ [])
or_row _ = bad

-- 8: not (F and G)
abbrev pub nand_row : Fml → Outcome
nand_row (no (and f g)) = two_children (no f ∷ []) (no g ∷ [])
nand_row _ = bad

-- 9: F implies G
abbrev pub imp_row : Fml → Outcome
imp_row (imp f g) = two_children (no f ∷ []) (g ∷ [])
imp_row _ = bad

-- 13: some F, at a fresh variable
abbrev pub some_row : ℕ → Fml → Outcome
some_row fresh (some s f) = fresh_child s (instantiated (var fresh) f)
some_row fresh _ = bad

-- 14: not all F, at a fresh variable
abbrev pub nall_row : ℕ → Fml → Outcome
nall_row fresh (no (every s f)) = fresh_child s (no (instantiated (var fresh) f))
nall_row fresh _ = bad

-- ---- the rows on a formula and a term, which has the quantifier's sort

-- 11: all F, at a term
abbrev pub all_row : List Srt → Trm → Fml → Outcome
all_row sorts t (every s f) = if has_sort sorts [] s t then one_child (instantiated t f ∷ []) else bad
all_row sorts t _ = bad

-- 12: not some F, at a term
abbrev pub nsome_row : List Srt → Trm → Fml → Outcome
nsome_row sorts t (no (some s f)) = if has_sort sorts [] s t then one_child (no (instantiated t f) ∷ []) else bad
nsome_row sorts t _ = bad

-- ---- the other rows

-- 1: a formula and its negation close the node
abbrev pub are_opposite : Option Fml → Option Fml → Bool
are_opposite (Some f) (Some (no g)) = same_fml f g
are_opposite _ _ = false

abbrev pub close_row : Nod → Stp → Outcome
close_row n s = if holds 2 0 0 s && are_opposite (formula n s 0) (formula n s 1) then kids [] else bad

-- 10: either of a formula and its negation
abbrev pub cut_formula : List Srt → Fml → Outcome
cut_formula sorts f = if is_well_sorted sorts f then two_children (f ∷ []) (no f ∷ []) else bad

-- ---- the table

-- the formula with the step's one number, where the step holds nothing else
abbrev pub the_formula : Nod → Stp → Option Fml
the_formula n s = if holds 1 0 0 s then formula n s 0 else None

-- the same beside one term
abbrev pub formula_by_term : Nod → Stp → Option Fml
formula_by_term n s = if holds 1 1 0 s then formula n s 0 else None

-- the step's one formula
abbrev pub given_formula : Stp → Option Fml
given_formula s = if holds 0 0 1 s then form s 0 else None

abbrev pub propositional : Nod → Stp → Outcome
propositional n s =
    if s.row == 1 then close_row n s else
    if s.row == 2 then on absurd_row (the_formula n s) else
    if s.row == 3 then on and_row (the_formula n s) else
    if s.row == 4 then on nor_row (the_formula n s) else
    if s.row == 5 then on nimp_row (the_formula n s) else
    if s.row == 6 then on nn_row (the_formula n s) else
    if s.row == 7 then on or_row (the_formula n s) else
    if s.row == 8 then on nand_row (the_formula n s) else
    if s.row == 9 then on imp_row (the_formula n s) else
    if s.row == 10 then on (cut_formula n.sorts) (given_formula s) else
    if s.row == 11 then on (λ f. on (λ t. all_row n.sorts t f) (term s 0)) (formula_by_term n s) else
    if s.row == 12 then on (λ f. on (λ t. nsome_row n.sorts t f) (term s 0)) (formula_by_term n s) else
    if s.row == 13 then on (some_row (length n.sorts)) (the_formula n s) else
    if s.row == 14 then on (nall_row (length n.sorts)) (the_formula n s) else
    not_mine

-- ---- the rows without children

abbrev pub is_some_absurd : Option Fml → Bool
is_some_absurd None = false
is_some_absurd (Some f) = is_absurd f

-- the step's row has no children, and its needs are met
abbrev pub closes : Nod → Stp → Bool
closes n s =
    if s.row == 1 then holds 2 0 0 s && are_opposite (formula n s 0) (formula n s 1) else
    if s.row == 2 then is_some_absurd (the_formula n s) else
    false
