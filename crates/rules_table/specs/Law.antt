-- No step of rows 1 to 14 loses a model, and what it adds is well sorted.
use Rattle.std.proofs.Common.{◌≡◌, ◌==◌, true, ◌&&◌, List, [], ◌∷◌, ◌++◌, length, Option, Some, refl, subst}
use Rattle.rel_list.proofs.Sets.{and_both}
use Rattle.rel_logic.specs.Syntax.{Srt, Trm, var, Fml, verum, falsum, no, and, or, imp, every, some, Nod}
use Rattle.rel_logic.specs.Truth.{elem, Valuation, IsTrueAt}
use Rattle.rel_logic.specs.Substitution.{instantiated}
use Rattle.rel_logic.specs.Sorting.{sort_at, has_sort, is_sorted, is_well_sorted}
use Rattle.rel_logic.proofs.Stable.{stable}
use Rattle.rel_logic.proofs.Sorts.{is_of_some}
use Rattle.rel_logic.proofs.Kept.{sorted_with_more, instantiated_sorted}
use Rattle.rules_table.specs.Nodes.{Stp, Addition, Outcome, kids, IsSound, IsModel, LosesNoModel, AreSorted}
use Rattle.rules_table.specs.Table.{holds, formula, term, formula_by_term, given_formula, on, are_opposite, close_row, cut_formula, absurd_row, and_row, nor_row, nimp_row, nn_row, or_row, nand_row, imp_row, some_row, nall_row, all_row, nsome_row, propositional}
use Rattle.rel_logic.proofs.SameTrees.{same_fml_is}
use Rattle.rules_table.specs.Models.{IsKnown, IsKept, formula_known, formula_where, the_known, by_test, tested, on_kept, one_kept, two_kept, pushed, body_truth, fresh_kept, at_term}

module _ (n : Nod) where
  absurd_kept : (f : Fml) → IsKnown n f → IsKept n (absurd_row f)
  absurd_kept falsum k = (tt, λ r h m. k.holds r m)
  absurd_kept (no verum) k = (tt, λ r h m. k.holds r m tt)
  absurd_kept f k = tt

  and_kept : (f : Fml) → IsKnown n f → IsKept n (and_row f)
  and_kept (and f g) k =
      let s = and_both _ _ k.sorted in
      one_kept n (f ∷ g ∷ []) (record { sorted = s.0; holds = λ r m. (k.holds r m).0 }, (record { sorted = s.1; holds = λ r m. (k.holds r m).1 }, tt))
  and_kept f k = tt

  nor_kept : (f : Fml) → IsKnown n f → IsKept n (nor_row f)
  nor_kept (no (or f g)) k =
      let s = and_both _ _ k.sorted in
      one_kept n (no f ∷ no g ∷ []) (
        record { sorted = s.0; holds = λ r m a. k.holds r m (λ neither. neither.0 a) },
        (record { sorted = s.1; holds = λ r m b. k.holds r m (λ neither. neither.1 b) }, tt),
      )
  nor_kept f k = tt

  nimp_kept : (f : Fml) → IsKnown n f → IsKept n (nimp_row f)
  nimp_kept (no (imp f g)) k =
      let s = and_both _ _ k.sorted in
      one_kept n (f ∷ no g ∷ []) (
        record { sorted = s.0; holds = λ r m. stable r [] f (λ not_f. k.holds r m (λ a. absurd (not_f a))) },
        (record { sorted = s.1; holds = λ r m b. k.holds r m (λ a. b) }, tt),
      )
  nimp_kept f k = tt

  nn_kept : (f : Fml) → IsKnown n f → IsKept n (nn_row f)
  nn_kept (no (no f)) k = one_kept n (f ∷ []) (record { sorted = k.sorted; holds = λ r m. stable r [] f (k.holds r m) }, tt)
  nn_kept f k = tt

  or_kept : (f : Fml) → IsKnown n f → IsKept n (or_row f)
  or_kept (or f g) k =
      let s = and_both _ _ k.sorted in
      two_kept n (f ∷ []) (g ∷ []) (s.0, tt) (s.1, tt) (λ r m neither. k.holds r m (λ a. neither.0 (a, tt), λ b. neither.1 (b, tt)))
  or_kept f k = tt

  nand_kept : (f : Fml) → IsKnown n f → IsKept n (nand_row f)
  nand_kept (no (and f g)) k =
      let s = and_both _ _ k.sorted in
      two_kept n (no f ∷ []) (no g ∷ []) (s.0, tt) (s.1, tt) (λ r m neither. neither.0 (λ a. neither.1 (λ b. k.holds r m (a, b), tt), tt))
  nand_kept f k = tt

  imp_kept : (f : Fml) → IsKnown n f → IsKept n (imp_row f)
  imp_kept (imp f g) k =
      let s = and_both _ _ k.sorted in
      two_kept n (no f ∷ []) (g ∷ []) (s.0, tt) (s.1, tt) (λ r m neither. neither.0 (λ a. neither.1 (k.holds r m a, tt), tt))
  imp_kept f k = tt

  cut_kept : (f : Fml) → IsKept n (cut_formula n.sorts f)
  cut_kept f =
      tested n (is_well_sorted n.sorts f) _
      (λ s. two_kept n (f ∷ []) (no f ∷ []) (s, tt) (s, tt) (λ r m neither. neither.1 (λ a. neither.0 (a, tt), tt)))

  all_kept : (t : Trm) (f : Fml) → IsKnown n f → IsKept n (all_row n.sorts t f)
  all_kept t (every s g) k =
      tested n (has_sort n.sorts [] s t) _ (λ e.
      let of_t = is_of_some s (sort_at n.sorts [] t) e in
      one_kept n (instantiated t g ∷ []) (
        record {
          sorted = instantiated_sorted n.sorts t s of_t g k.sorted;
          holds = λ r m. let c = at_term n r m t s g of_t in c.1.1 (k.holds r m c.0);
        },
        tt,
      ))
  all_kept t f k = tt

  nsome_kept : (t : Trm) (f : Fml) → IsKnown n f → IsKept n (nsome_row n.sorts t f)
  nsome_kept t (no (some s g)) k =
      tested n (has_sort n.sorts [] s t) _ (λ e.
      let of_t = is_of_some s (sort_at n.sorts [] t) e in
      one_kept n (no (instantiated t g) ∷ []) (
        record {
          sorted = instantiated_sorted n.sorts t s of_t g k.sorted;
          holds = λ r m a. let c = at_term n r m t s g of_t in k.holds r m (λ none. none c.0 (c.1.0 a));
        },
        tt,
      ))
  nsome_kept t f k = tt

-- the body at the variable after the node's
fresh_sorted : (sorts : List Srt) (s : Srt) (g : Fml) → is_sorted sorts (s ∷ []) g ≡ true → is_well_sorted (sorts ++ s ∷ []) (instantiated (var (length sorts)) g) ≡ true
fresh_sorted sorts s g e = instantiated_sorted (sorts ++ s ∷ []) (var (length sorts)) s (pushed sorts s) g (sorted_with_more sorts (s ∷ []) (s ∷ []) g e)

module _ (n : Nod) (sound : IsSound n) where
  some_kept : (f : Fml) → IsKnown n f → IsKept n (some_row (length n.sorts) f)
  some_kept (some s g) k =
      fresh_kept n sound s _ (fresh_sorted n.sorts s g k.sorted)
      (λ r m none. k.holds r m (λ v a. none v ((body_truth n s v r g k.sorted).0 a)))
  some_kept f k = tt

  nall_kept : (f : Fml) → IsKnown n f → IsKept n (nall_row (length n.sorts) f)
  nall_kept (no (every s g)) k =
      fresh_kept n sound s _ (fresh_sorted n.sorts s g k.sorted)
      (λ r m none. k.holds r m (λ v. stable r (elem s v ∷ []) g (λ fails. none v (λ a. fails ((body_truth n s v r g k.sorted).1 a)))))
  nall_kept f k = tt

  opposite : (r : Valuation) → IsModel n r → (o p : Option Fml) → ((f : Fml) → o ≡ Some f → IsKnown n f) → ((f : Fml) → p ≡ Some f → IsKnown n f) → are_opposite o p ≡ true → ⊥
  opposite r m (Some f) (Some (no g)) h k e = (k (no g) refl).holds r m (subst (λ x. IsTrueAt r [] x) ((same_fml_is f g).0 e) ((h f refl).holds r m))
  opposite r m o p h k e = cc

  close_kept : (s : Stp) → IsKept n (close_row n s)
  close_kept s = tested n (holds 2 0 0 s && are_opposite (formula n s 0) (formula n s 1)) (kids [])
      (λ e. (tt, λ r h m. opposite r m (formula n s 0) (formula n s 1) (formula_known n sound s 0) (formula_known n sound s 1) (and_both (holds 2 0 0 s) _ e).1))

  by_term : (s : Stp) (rule : Trm → Fml → Outcome) → ((t : Trm) (f : Fml) → IsKnown n f → IsKept n (rule t f)) → IsKept n (on (λ f. on (λ t. rule t f) (term s 0)) (formula_by_term n s))
  by_term s rule k =
      on_kept n (λ f. on (λ t. rule t f) (term s 0)) (formula_by_term n s)
      (λ f e. on_kept n (λ t. rule t f) (term s 0) (λ t is_t. k t f (formula_where n sound (holds 1 1 0 s) s f e)))

  step_kept : (s : Stp) → IsKept n (propositional n s)
  step_kept s =
      by_test n (s.row == 1) _ _ (close_kept s)
      (by_test n (s.row == 2) _ _ (the_known n sound s absurd_row (absurd_kept n))
      (by_test n (s.row == 3) _ _ (the_known n sound s and_row (and_kept n))
      (by_test n (s.row == 4) _ _ (the_known n sound s nor_row (nor_kept n))
      (by_test n (s.row == 5) _ _ (the_known n sound s nimp_row (nimp_kept n))
      (by_test n (s.row == 6) _ _ (the_known n sound s nn_row (nn_kept n))
      (by_test n (s.row == 7) _ _ (the_known n sound s or_row (or_kept n))
      (by_test n (s.row == 8) _ _ (the_known n sound s nand_row (nand_kept n))
      (by_test n (s.row == 9) _ _ (the_known n sound s imp_row (imp_kept n))
      (by_test n (s.row == 10) _ _ (on_kept n (cut_formula n.sorts) (given_formula s) (λ f e. cut_kept n f))
      (by_test n (s.row == 11) _ _ (by_term s (all_row n.sorts) (all_kept n))
      (by_test n (s.row == 12) _ _ (by_term s (nsome_row n.sorts) (nsome_kept n))
      (by_test n (s.row == 13) _ _ (the_known n sound s (some_row (length n.sorts)) some_kept)
      (by_test n (s.row == 14) _ _ (the_known n sound s (nall_row (length n.sorts)) nall_kept) tt)))))))))))))

pub loses_no_model : (n : Nod) (s : Stp) (added : List Addition) → IsSound n → propositional n s ≡ kids added → LosesNoModel n added
loses_no_model n s added sound e = (subst (IsKept n) e (step_kept n sound s)).1

pub adds_sorted : (n : Nod) (s : Stp) (added : List Addition) → IsSound n → propositional n s ≡ kids added → AreSorted n added
adds_sorted n s added sound e = (subst (IsKept n) e (step_kept n sound s)).0
