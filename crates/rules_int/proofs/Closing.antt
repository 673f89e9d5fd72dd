-- The row without children is the only one that closes a node.
use Rattle.std.proofs.Common.{◌≡◌, ◌↔◌, ◌==◌, Bool, true, false, ◌&&◌, if◌then◌else◌, IsTrue, [], ℤ, List, refl, sym, subst, ◌∙◌}
use Rattle.rel_logic.specs.Syntax.{int_sort, Trm, Fml, eq, le, no, Nod}
use Rattle.rel_logic.specs.Sorting.{has_sort, is_well_sorted}
use Rattle.rules_table.specs.Nodes.{Stp, bad, kids}
use Rattle.rules_table.specs.Table.{holds, term, form, the_formula}
use Rattle.rules_table.proofs.Closing.{is_closing, closing_is, never_if, never_on, closing_if}
use Rattle.rules_int.specs.Linear.{form_of}
use Rattle.rules_int.specs.Table.{Multiple, holds_multiples, multiples, divisor, refutes, is_rounded_sum, round_formula, neint_row, are_alike, lineq_terms, closes, integers}

bare : (b : Bool) → is_closing (if b then kids [] else bad) ≡ b
bare true = refl
bare false = refl

module _ (n : Nod) where
  never_round : (ms : List Multiple) (g : ℤ) (f : Fml) → is_closing (round_formula n ms g f) ≡ false
  never_round ms g (le t u) = never_if (is_well_sorted n.sorts (le t u) && is_rounded_sum n ms g t u) _ _ refl refl
  never_round ms g f = refl

  never_neint : (f : Fml) → is_closing (neint_row n.sorts f) ≡ false
  never_neint (no (eq t u)) = never_if (has_sort n.sorts [] int_sort t) _ _ refl refl
  never_neint f = refl

  never_lineq : (t u : Trm) → is_closing (lineq_terms n.sorts t u) ≡ false
  never_lineq t u = never_if (has_sort n.sorts [] int_sort t && (has_sort n.sorts [] int_sort u && are_alike (form_of t) (form_of u))) _ _ refl refl

  other_rows : (s : Stp) → is_closing (integers n s) ≡ closes n s
  other_rows s =
      closing_if (s.row == 43) _ _ _ _ (bare (refutes n s))
      (never_if (s.row == 44) _ _ (never_if (holds_multiples 1 0 1 s) _ _ (never_on _ (divisor s) (λ g. never_on _ (form s 0) (λ f. never_round (multiples s) g f))) refl)
      (never_if (s.row == 45) _ _ (never_on (neint_row n.sorts) (the_formula n s) never_neint)
      (never_if (s.row == 46) _ _ (never_if (holds 0 2 0 s) _ _ (never_on _ (term s 0) (λ t. never_on _ (term s 1) (λ u. never_lineq t u))) refl) refl)))

pub closes_where : (n : Nod) (s : Stp) (answer : Bool) → answer ≡ closes n s → IsTrue answer ↔ (integers n s ≡ kids [])
closes_where n s answer e = subst (λ b. IsTrue b ↔ (integers n s ≡ kids [])) (other_rows n s ∙ sym e) (closing_is (integers n s))
