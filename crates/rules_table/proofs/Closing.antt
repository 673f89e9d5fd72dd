-- The rows without children are the only ones that close a node.
use Rattle.std.proofs.Common.{◌≡◌, ◌↔◌, ◌==◌, Bool, true, false, ◌&&◌, if◌then◌else◌, IsTrue, [], ◌∷◌, length, Option, Some, None, refl, sym, subst, ◌∙◌}
use Rattle.rel_logic.specs.Syntax.{Trm, Fml, no, and, or, imp, every, some, Nod}
use Rattle.rel_logic.specs.Sorting.{has_sort, is_well_sorted}
use Rattle.rules_table.specs.Nodes.{Stp, Outcome, not_mine, bad, kids}
use Rattle.rules_table.specs.Table.{holds, formula, term, the_formula, formula_by_term, given_formula, on, are_opposite, is_absurd, is_some_absurd, closes, absurd_row, cut_formula, and_row, nor_row, nimp_row, nn_row, or_row, nand_row, imp_row, some_row, nall_row, all_row, nsome_row, propositional}

abbrev pub is_closing : Outcome → Bool
is_closing (kids []) = true
is_closing _ = false

pub closing_is : (o : Outcome) → IsTrue (is_closing o) ↔ (o ≡ kids [])
closing_is (kids []) = (λ e. refl, λ e. refl)
closing_is (kids (a ∷ added)) = (λ e. cc, λ e. cc)
closing_is bad = (λ e. cc, λ e. cc)
closing_is not_mine = (λ e. cc, λ e. cc)

pub never_if : (b : Bool) (x y : Outcome) → is_closing x ≡ false → is_closing y ≡ false → is_closing (if b then x else y) ≡ false
never_if true x y e f = e
never_if false x y e f = f

pub never_on : {A : Type 0} (rule : A → Outcome) (o : Option A) → ((x : A) → is_closing (rule x) ≡ false) → is_closing (on rule o) ≡ false
never_on rule None h = refl
never_on rule (Some x) h = h x

pub closing_if : (b : Bool) (x y : Outcome) (c d : Bool) → is_closing x ≡ c → is_closing y ≡ d → is_closing (if b then x else y) ≡ (if b then c else d)
closing_if true x y c d e f = e
closing_if false x y c d e f = f

never_and : (f : Fml) → is_closing (and_row f) ≡ false
never_and (and f g) = refl
never_and f = refl

never_nor : (f : Fml) → is_closing (nor_row f) ≡ false
never_nor (no (or f g)) = refl
never_nor f = refl

never_nimp : (f : Fml) → is_closing (nimp_row f) ≡ false
never_nimp (no (imp f g)) = refl
never_nimp f = refl

never_nn : (f : Fml) → is_closing (nn_row f) ≡ false
never_nn (no (no f)) = refl
never_nn f = refl

never_or : (f : Fml) → is_closing (or_row f) ≡ false
never_or (or f g) = refl
never_or f = refl

never_nand : (f : Fml) → is_closing (nand_row f) ≡ false
never_nand (no (and f g)) = refl
never_nand f = refl

never_imp : (f : Fml) → is_closing (imp_row f) ≡ false
never_imp (imp f g) = refl
never_imp f = refl

module _ (n : Nod) where
  never_cut : (f : Fml) → is_closing (cut_formula n.sorts f) ≡ false
  never_cut f = never_if (is_well_sorted n.sorts f) _ _ refl refl

  never_all : (t : Trm) (f : Fml) → is_closing (all_row n.sorts t f) ≡ false
  never_all t (every s f) = never_if (has_sort n.sorts [] s t) _ _ refl refl
  never_all t f = refl

  never_nsome : (t : Trm) (f : Fml) → is_closing (nsome_row n.sorts t f) ≡ false
  never_nsome t (no (some s f)) = never_if (has_sort n.sorts [] s t) _ _ refl refl
  never_nsome t f = refl

  never_some : (f : Fml) → is_closing (some_row (length n.sorts) f) ≡ false
  never_some (some s f) = refl
  never_some f = refl

  never_nall : (f : Fml) → is_closing (nall_row (length n.sorts) f) ≡ false
  never_nall (no (every s f)) = refl
  never_nall f = refl

  one : (s : Stp) (rule : Fml → Outcome) → ((f : Fml) → is_closing (rule f) ≡ false) → is_closing (on rule (the_formula n s)) ≡ false
  one s rule h = never_on rule (the_formula n s) h

  by_term : (s : Stp) (rule : Trm → Fml → Outcome) → ((t : Trm) (f : Fml) → is_closing (rule t f) ≡ false)
      → is_closing (on (λ f. on (λ t. rule t f) (term s 0)) (formula_by_term n s)) ≡ false
  by_term s rule h = never_on _ (formula_by_term n s) (λ f. never_on _ (term s 0) (λ t. h t f))

  bare : (b : Bool) → is_closing (if b then kids [] else bad) ≡ b
  bare true = refl
  bare false = refl

  absurd_closes : (o : Option Fml) → is_closing (on absurd_row o) ≡ is_some_absurd o
  absurd_closes None = refl
  absurd_closes (Some f) = bare (is_absurd f)

  other_rows : (s : Stp) → is_closing (propositional n s) ≡ closes n s
  other_rows s =
      closing_if (s.row == 1) _ _ _ _ (bare (holds 2 0 0 s && are_opposite (formula n s 0) (formula n s 1)))
      (closing_if (s.row == 2) _ _ _ _ (absurd_closes (the_formula n s))
      (never_if (s.row == 3) _ _ (one s and_row never_and)
      (never_if (s.row == 4) _ _ (one s nor_row never_nor)
      (never_if (s.row == 5) _ _ (one s nimp_row never_nimp)
      (never_if (s.row == 6) _ _ (one s nn_row never_nn)
      (never_if (s.row == 7) _ _ (one s or_row never_or)
      (never_if (s.row == 8) _ _ (one s nand_row never_nand)
      (never_if (s.row == 9) _ _ (one s imp_row never_imp)
      (never_if (s.row == 10) _ _ (never_on (cut_formula n.sorts) (given_formula s) never_cut)
      (never_if (s.row == 11) _ _ (by_term s (all_row n.sorts) never_all)
      (never_if (s.row == 12) _ _ (by_term s (nsome_row n.sorts) never_nsome)
      (never_if (s.row == 13) _ _ (one s (some_row (length n.sorts)) never_some)
      (never_if (s.row == 14) _ _ (one s (nall_row (length n.sorts)) never_nall) refl)))))))))))))

pub closes_where : (n : Nod) (s : Stp) (answer : Bool) → answer ≡ closes n s → IsTrue answer ↔ (propositional n s ≡ kids [])
closes_where n s answer e = subst (λ b. IsTrue b ↔ (propositional n s ≡ kids [])) (other_rows n s ∙ sym e) (closing_is (propositional n s))
