-- The rules on equality, maps and bijections, rows 15 to 26 of the table.
use Rattle.std.specs.Prelude.{ℕ, ◌==◌, Bool, false, ◌&&◌, if◌then◌else◌, List, [], ◌∷◌, Option, Some, None}
use Rattle.rel_logic.specs.Syntax.{Srt, ref_sort, Trm, bound, sel, sto, link, Fml, eq, is, paired, ext, no, and, imp, every, Nod}
use Rattle.rel_logic.specs.Substitution.{instantiated}
use Rattle.rel_logic.specs.Sorting.{sort_at, is_sorted, is_well_sorted}
use Rattle.rel_logic.specs.Equal.{same_trm, same_fml}
use Rattle.rules_table.specs.Nodes.{Stp, Outcome, not_mine, bad}
use Rattle.rules_table.specs.Table.{counts, holds, formula, term, form, on, on_two_formulas, on_three_terms, only, the_formula, one_child, two_children}

-- ---- on given terms: they are closed, and sorted so that what is added is well sorted

abbrev pub given : List Srt → Fml → Outcome
given sorts f = only (is_well_sorted sorts f) (one_child (f ∷ []))

-- 15: a term is itself
abbrev pub refl_row : List Srt → Trm → Outcome
refl_row sorts t = given sorts (eq t t)

-- 17: a map with a value has it there
abbrev pub readhit_row : List Srt → Trm → Trm → Trm → Outcome
readhit_row sorts m a v = given sorts (eq (sel (sto m a v) a) v)

-- 18: and the map's own value anywhere else
abbrev pub past_stored : Trm → Trm → Trm → Trm → Fml
past_stored m a v b = eq (sel (sto m a v) b) (sel m b)

abbrev pub readmiss_row : List Srt → Trm → Trm → Trm → Trm → Outcome
readmiss_row sorts m a v b =
    only (is_well_sorted sorts (past_stored m a v b)) (two_children (eq a b ∷ []) (no (eq a b) ∷ past_stored m a v b ∷ []))

-- 22: a bijection extends itself
abbrev pub extrefl_row : List Srt → Trm → Outcome
extrefl_row sorts p = given sorts (ext p p)

-- 24: a link extends its bijection
abbrev pub addext_row : List Srt → Trm → Trm → Trm → Outcome
addext_row sorts p a b = given sorts (ext p (link p a b))

-- 26: a link of two of the class without partners pairs them
abbrev pub linkable : ℕ → Trm → Trm → Trm → Fml
linkable c p a b = and (is c a) (and (is c b) (and (every ref_sort (no (paired p a (bound 0)))) (every ref_sort (no (paired p (bound 0) b)))))

abbrev pub addlink_row : List Srt → Trm → Trm → Trm → ℕ → Outcome
addlink_row sorts p a b c = given sorts (imp (linkable c p a b) (paired (link p a b) a b))

-- ---- on formulas of the node

-- 16: what holds of t holds of u, where t is u; the formula has a hole of the sort of t
abbrev pub has_hole : List Srt → Option Srt → Fml → Bool
has_hole sorts None k = false
has_hole sorts (Some s) k = is_sorted sorts (s ∷ []) k

abbrev pub replace_row : List Srt → Fml → Fml → Fml → Outcome
replace_row sorts (eq t u) g k =
    only (has_hole sorts (sort_at sorts [] t) k && same_fml (instantiated t k) g) (one_child (instantiated u k ∷ []))
replace_row sorts _ g k = bad

-- each implies the other
abbrev pub iff : Fml → Fml → Fml
iff f g = and (imp f g) (imp g f)

-- 19: partners are one to one
abbrev pub bijone_row : Fml → Fml → Outcome
bijone_row (paired p a b) (paired q e h) = only (same_trm p q) (one_child (iff (eq a e) (eq b h) ∷ []))
bijone_row _ _ = bad

-- 20: partners are of one class
abbrev pub bijclass_row : Fml → ℕ → Outcome
bijclass_row (paired p a b) c = one_child (iff (is c a) (is c b) ∷ [])
bijclass_row _ c = bad

-- 21: an extension keeps the pairs
abbrev pub extpair_row : Fml → Fml → Outcome
extpair_row (ext p q) (paired o a b) = only (same_trm p o) (one_child (paired q a b ∷ []))
extpair_row _ _ = bad

-- 23: an extension of an extension is one
abbrev pub exttrans_row : Fml → Fml → Outcome
exttrans_row (ext p q) (ext o r) = only (same_trm q o) (one_child (ext p r ∷ []))
exttrans_row _ _ = bad

-- 25: a link's pairs are the bijection's and the added one
abbrev pub addpair_row : Fml → Outcome
addpair_row (paired (link p a b) e h) = two_children (paired p e h ∷ []) (eq e a ∷ eq h b ∷ [])
addpair_row _ = bad

-- ---- each row, with its arguments taken from the step

abbrev pub refl_step : Nod → Stp → Outcome
refl_step n s = only (holds 0 1 0 s) (on (refl_row n.sorts) (term s 0))

abbrev pub replace_step : Nod → Stp → Outcome
replace_step n s = only (holds 2 0 1 s) (on (λ k. on_two_formulas n s (λ f g. replace_row n.sorts f g k)) (form s 0))

abbrev pub readhit_step : Nod → Stp → Outcome
readhit_step n s = only (holds 0 3 0 s) (on_three_terms s (readhit_row n.sorts))

abbrev pub readmiss_step : Nod → Stp → Outcome
readmiss_step n s = only (holds 0 4 0 s) (on (λ b. on_three_terms s (λ m a v. readmiss_row n.sorts m a v b)) (term s 3))

abbrev pub bijone_step : Nod → Stp → Outcome
bijone_step n s = only (holds 2 0 0 s) (on_two_formulas n s bijone_row)

abbrev pub bijclass_step : Nod → Stp → Outcome
bijclass_step n s = only (counts 1 0 0 s) (on (λ c. on (λ f. bijclass_row f c) (formula n s 0)) s.class)

abbrev pub extpair_step : Nod → Stp → Outcome
extpair_step n s = only (holds 2 0 0 s) (on_two_formulas n s extpair_row)

abbrev pub extrefl_step : Nod → Stp → Outcome
extrefl_step n s = only (holds 0 1 0 s) (on (extrefl_row n.sorts) (term s 0))

abbrev pub exttrans_step : Nod → Stp → Outcome
exttrans_step n s = only (holds 2 0 0 s) (on_two_formulas n s exttrans_row)

abbrev pub addext_step : Nod → Stp → Outcome
addext_step n s = only (holds 0 3 0 s) (on_three_terms s (addext_row n.sorts))

abbrev pub addpair_step : Nod → Stp → Outcome
addpair_step n s = on addpair_row (the_formula n s)

abbrev pub addlink_step : Nod → Stp → Outcome
addlink_step n s = only (counts 0 3 0 s) (on (λ c. on_three_terms s (λ p a b. addlink_row n.sorts p a b c)) s.class)

-- ---- the table

abbrev pub equality : Nod → Stp → Outcome
equality n s =
    if s.row == 15 then refl_step n s else
    if s.row == 16 then replace_step n s else
    if s.row == 17 then readhit_step n s else
    if s.row == 18 then readmiss_step n s else
    if s.row == 19 then bijone_step n s else
    if s.row == 20 then bijclass_step n s else
    if s.row == 21 then extpair_step n s else
    if s.row == 22 then extrefl_step n s else
    if s.row == 23 then exttrans_step n s else
    if s.row == 24 then addext_step n s else
    if s.row == 25 then addpair_step n s else
    if s.row == 26 then addlink_step n s else
    not_mine
