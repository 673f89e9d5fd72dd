-- No step of rows 43 to 46 loses a model, and what it adds is well sorted.
use Rattle.std.proofs.Common.{◌≡◌, ◌==◌, ℤ, pos, ◌+ℤ◌, ◌-ℤ◌, ◌*ℤ◌, ◌≤ℤ◌, ◌<ℤ◌, int_le, int_lt, true, ◌&&◌, T, List, [], ◌∷◌, Option, Some, None, slice_get, option_and_then, refl, sym, ap, subst, ◌∙◌, arith}
use Rattle.std.specs.Int.Signed.{lt_z_yes}
use Rattle.std.proofs.lemmas.Int.{ints, by_lt_z}
use Rattle.std.proofs.lemmas.Bool.Decides.{Decides-int_eq}
use Rattle.std.specs.Ordering.{int_eq}
use Rattle.rel_list.proofs.Sets.{and_both}
use Rattle.rel_logic.specs.Syntax.{Srt, int_sort, Trm, Fml, eq, lt, le, no, Nod}
use Rattle.rel_logic.specs.Sorting.{is_of, are_of_one, sort_at, has_sort, is_well_sorted}
use Rattle.rel_logic.specs.Truth.{Elem, number, as_number, Valuation, value}
use Rattle.rel_logic.proofs.Sorts.{is_of_some, sorted_value}
use Rattle.rules_table.specs.Nodes.{Stp, Addition, kids, IsSound, IsModel, LosesNoModel, AreSorted}
use Rattle.rules_table.specs.Table.{term, form, holds, one_child}
use Rattle.rules_table.specs.Models.{IsKnown, IsKept, known_at, the_known, by_test, tested, on_kept, one_kept, two_kept}
use Rattle.rules_int.specs.Linear.{Linear, number_form, times, within, joined, plus, form_of, difference, bounded_form, has_no_atoms, are_multiples}
use Rattle.rules_int.specs.Products.{distribute_left, below_divisor, one_times}
use Rattle.rules_int.specs.Weights.{no_atoms, multiples_at, weigh, weigh_none, weigh_multiples}
use Rattle.rules_int.specs.Values.{within_is, of_joined, of_bound, in_order, number_at, valued, valued_plus, valued_times, of_term, of_difference, bounded}
use Rattle.rules_int.specs.Table.{Multiple, product, sum_from, sum_of, holds_multiples, multiples, divisor, is_above_zero, refutes, farkas_row, is_rounded, is_quotient, is_rounded_sum, round_formula, neint_row, are_alike, lineq_terms, integers}

below : (a b : ℤ) → int_lt a b ≡ true → a <ℤ b
below a b e = lt_z_yes (subst T (sym e) tt)

-- ---- the sum of what is at most 0 is at most 0

add_up : (a b z : ℤ) → z ≡ a +ℤ b → a ≤ℤ pos 0 → b ≤ℤ pos 0 → z ≤ℤ pos 0
add_up a b z e h k = omega (arith, ints, e, h, k)

above : (c w z : ℤ) → z ≡ c +ℤ w → w ≡ pos 0 → pos 0 <ℤ c → z ≤ℤ pos 0 → ⊥
above c w z e f h k = omega (arith, ints, e, f, h, k)

zero_form : (z : ℤ) → z ≡ pos 0 +ℤ pos 0 → z ≤ℤ pos 0
zero_form z e = omega (arith, ints, e)

module _ (n : Nod) (sound : IsSound n) (r : Valuation) (m : IsModel n r) where
  product_below : (x : Multiple) (h : Linear) → product n x ≡ Some h → valued r h ≤ℤ pos 0
  product_below x h e =
      let made = of_bound (λ f. within (times x.1 f)) (option_and_then (bounded_form n.sorts x.1) (slice_get n.forms x.0)) h e in
      let found = of_bound (bounded_form n.sorts x.1) (slice_get n.forms x.0) made.0 made.1 in
      let known = known_at n sound x.0 found.0 found.1 in
      subst (λ f. valued r f ≤ℤ pos 0) (within_is (times x.1 made.0) h made.2)
      (subst (λ z. z ≤ℤ pos 0) (sym (valued_times r x.1 made.0)) (bounded r n.sorts x.1 found.0 made.0 found.2 (known.holds r m)))

  sum_below : (ms : List Multiple) (o : Option Linear) → ((f : Linear) → o ≡ Some f → valued r f ≤ℤ pos 0) → (h : Linear) → sum_from n o ms ≡ Some h → valued r h ≤ℤ pos 0
  sum_below [] o so_far h e = so_far h e
  sum_below (x ∷ ms) o so_far h e =
      sum_below ms (joined plus o (product n x)) (λ g i. of_joined (λ g. valued r g ≤ℤ pos 0) plus o (product n x) g i
      (λ f p j k. add_up (valued r f) (valued r p) (valued r (plus f p)) (valued_plus r f p) (so_far f j) (product_below x p k))) h e

  sum_at_most_0 : (ms : List Multiple) (h : Linear) → sum_of n ms ≡ Some h → valued r h ≤ℤ pos 0
  sum_at_most_0 ms h e = sum_below ms (Some (number_form (pos 0))) (λ f i. let same : number_form (pos 0) ≡ f = cc in zero_form (valued r f) (ap (valued r) (sym same))) h e

  no_sum_above : (o : Option Linear) → ((h : Linear) → o ≡ Some h → valued r h ≤ℤ pos 0) → is_above_zero o ≡ true → ⊥
  no_sum_above None h e = cc
  no_sum_above (Some f) h e =
      let both = and_both (int_lt (pos 0) f.constant) (has_no_atoms f) e in
      above f.constant (weigh (number_at r) f.parts) (valued r f) refl (weigh_none (number_at r) f.parts (no_atoms f both.1)) (below (pos 0) f.constant both.0) (h f refl)

  -- ---- a quotient, rounded up

  divided : (g s d c w z : ℤ) → s ≡ d +ℤ g *ℤ w → z ≡ c +ℤ w → s ≤ℤ pos 0 → pos 1 ≤ℤ g → (g *ℤ c) <ℤ (d +ℤ g) → z ≤ℤ pos 0
  divided g s d c w z e f h one k = subst (λ z. z ≤ℤ pos 0) (sym f) (below_divisor g (c +ℤ w) one (subst (λ p. p <ℤ g) (sym (distribute_left g c w)) (less (g *ℤ c) (g *ℤ w) s d e h k)))
    where
      less : (p q s d : ℤ) → s ≡ d +ℤ q → s ≤ℤ pos 0 → p <ℤ (d +ℤ g) → (p +ℤ q) <ℤ g
      less p q s d e h k = omega (arith, ints, e, h, k)

  quotient_below : (g : ℤ) (o p : Option Linear) → pos 1 ≤ℤ g → ((h : Linear) → o ≡ Some h → valued r h ≤ℤ pos 0) → is_quotient g o p ≡ true → (h : Linear) → p ≡ Some h → valued r h ≤ℤ pos 0
  quotient_below g None p one at_most e h i = cc
  quotient_below g (Some s) None one at_most e h i = cc
  quotient_below g (Some s) (Some f) one at_most e h i =
      let tests = and_both (are_multiples g s.parts f.parts) (is_rounded f.constant s.constant g) e in
      let least = and_both (int_le s.constant (g *ℤ f.constant)) (int_lt (g *ℤ f.constant) (s.constant +ℤ g)) tests.1 in
      let same : f ≡ h = cc in
      subst (λ h. valued r h ≤ℤ pos 0) same (
      divided g (valued r s) s.constant f.constant (weigh (number_at r) f.parts) (valued r f)
      (ap (λ z. s.constant +ℤ z) (weigh_multiples (number_at r) g s.parts f.parts (multiples_at g s.parts f.parts tests.0))) refl (at_most s refl) one
      (below (g *ℤ f.constant) (s.constant +ℤ g) least.1)
      )

  difference_below : (t u : Trm) (o : Option Linear) → ((h : Linear) → o ≡ Some h → valued r h ≡ number_at r t -ℤ number_at r u) → (g : ℤ) (s : Option Linear) → is_quotient g s o ≡ true → ((h : Linear) → o ≡ Some h → valued r h ≤ℤ pos 0) → number_at r t ≤ℤ number_at r u
  difference_below t u None is g s e at_most = no_form s e
    where
      no_form : (s : Option Linear) → is_quotient g s None ≡ true → number_at r t ≤ℤ number_at r u
      no_form None e = cc
      no_form (Some s) e = cc
  difference_below t u (Some f) is g s e at_most = order (number_at r t) (number_at r u) (valued r f) (is f refl) (at_most f refl)
    where
      order : (a b z : ℤ) → z ≡ a -ℤ b → z ≤ℤ pos 0 → a ≤ℤ b
      order a b z e h = omega (arith, ints, e, h)

  round_holds : (ms : List Multiple) (g : ℤ) (t u : Trm) → is_rounded_sum n ms g t u ≡ true → number_at r t ≤ℤ number_at r u
  round_holds ms g t u e =
      let tests = and_both (int_le (pos 1) g) (is_quotient g (sum_of n ms) (difference t u)) e in
      difference_below t u (difference t u) (of_difference r t u) g (sum_of n ms) tests.1
      (quotient_below g (sum_of n ms) (difference t u) (in_order (pos 1) g tests.0) (sum_at_most_0 ms) tests.1)

-- ---- ints

is_int : (n : Nod) (r : Valuation) → IsModel n r → (t : Trm) → has_sort n.sorts [] int_sort t ≡ true → (z : ℤ) × (value r [] t ≡ number z)
is_int n r m t e = let h = sorted_value n.sorts t int_sort (is_of_some int_sort (sort_at n.sorts [] t) e) r m.0 in (h.0, h.1)

same_numbers : (x y : Elem) → (z : ℤ) × (x ≡ number z) → (z : ℤ) × (y ≡ number z) → as_number x ≡ as_number y → x ≡ y
same_numbers x y h k e = h.1 ∙ (ap number (sym (ap as_number h.1) ∙ (e ∙ ap as_number k.1)) ∙ sym k.1)

other_int : (o p : Option Srt) → is_of int_sort o ≡ true → are_of_one o p ≡ true → is_of int_sort p ≡ true
other_int None p e h = cc
other_int (Some int_sort) p e h = h
other_int (Some s) p e h = cc

both_ints : (o p : Option Srt) → is_of int_sort o ≡ true → is_of int_sort p ≡ true → are_of_one o p ≡ true
both_ints None p e h = cc
both_ints (Some int_sort) p e h = h
both_ints (Some s) p e h = cc

neither_below : (a b : ℤ) → ¬ (a <ℤ b) → ¬ (b <ℤ a) → a ≡ b
neither_below a b h k = by_lt_z a b (λ less. absurd (h less)) (λ most. by_lt_z b a (λ less. absurd (k less)) (λ least. antisymmetric a b most least))
  where
    antisymmetric : (a b : ℤ) → b ≤ℤ a → a ≤ℤ b → a ≡ b
    antisymmetric a b h k = omega (arith, ints, h, k)

module _ (n : Nod) (sound : IsSound n) where
  -- ---- the rows

  farkas_kept : (s : Stp) → IsKept n (farkas_row n s)
  farkas_kept s =
      tested n (refutes n s) (kids []) (λ e. (tt, λ r h m. no_sum_above n sound r m (sum_of n (multiples s)) (sum_at_most_0 n sound r m (multiples s)) (and_both (holds_multiples 0 0 0 s) (is_above_zero (sum_of n (multiples s))) e).1))

  round_kept : (ms : List Multiple) (g : ℤ) (f : Fml) → IsKept n (round_formula n ms g f)
  round_kept ms g (le t u) = tested n (is_well_sorted n.sorts (le t u) && is_rounded_sum n ms g t u) (one_child (le t u ∷ []))
      (λ e. let both = and_both (is_well_sorted n.sorts (le t u)) (is_rounded_sum n ms g t u) e in
      one_kept n (le t u ∷ []) (record { sorted = both.0; holds = λ r m. round_holds n sound r m ms g t u both.1 }, tt))
  round_kept ms g f = tt

  neint_kept : (f : Fml) → IsKnown n f → IsKept n (neint_row n.sorts f)
  neint_kept (no (eq t u)) k = tested n (has_sort n.sorts [] int_sort t) _ (λ e.
      let f = other_int (sort_at n.sorts [] t) (sort_at n.sorts [] u) e k.sorted in
      two_kept n (lt t u ∷ []) (lt u t ∷ []) ((λ i. e i && f i), tt) ((λ i. f i && e i), tt)
      (λ r m neither. k.holds r m (
      same_numbers (value r [] t) (value r [] u) (is_int n r m t e) (is_int n r m u f)
      (neither_below (number_at r t) (number_at r u) (λ less. neither.0 (less, tt)) (λ less. neither.1 (less, tt)))
      )))
  neint_kept f k = tt

  alike : (r : Valuation) (o p : Option Linear) → are_alike o p ≡ true → (z w : ℤ) → ((h : Linear) → o ≡ Some h → valued r h ≡ z) → ((h : Linear) → p ≡ Some h → valued r h ≡ w) → z ≡ w
  alike r None p e z w h k = cc
  alike r (Some f) None e z w h k = cc
  alike r (Some f) (Some g) e z w h k =
      let tests = and_both (int_eq f.constant g.constant) (are_multiples (pos 1) f.parts g.parts) e in
      let constants = (Decides-int_eq f.constant g.constant).0 tests.0 in
      let parts = weigh_multiples (number_at r) (pos 1) f.parts g.parts (multiples_at (pos 1) f.parts g.parts tests.1) ∙ one_times (weigh (number_at r) g.parts) in
      sym (h f refl) ∙ ((λ i. constants i +ℤ parts i) ∙ k g refl)

  lineq_kept : (t u : Trm) → IsKept n (lineq_terms n.sorts t u)
  lineq_kept t u = tested n (has_sort n.sorts [] int_sort t && (has_sort n.sorts [] int_sort u && are_alike (form_of t) (form_of u))) _ (λ e.
      let first = and_both (has_sort n.sorts [] int_sort t) (has_sort n.sorts [] int_sort u && are_alike (form_of t) (form_of u)) e in
      let rest = and_both (has_sort n.sorts [] int_sort u) (are_alike (form_of t) (form_of u)) first.1 in
      one_kept n (eq t u ∷ []) (
        record {
          sorted = both_ints (sort_at n.sorts [] t) (sort_at n.sorts [] u) first.0 rest.0;
          holds = λ r m. same_numbers (value r [] t) (value r [] u) (is_int n r m t first.0) (is_int n r m u rest.0)
              (alike r (form_of t) (form_of u) rest.1 (number_at r t) (number_at r u) (of_term r t) (of_term r u));
        },
        tt,
      ))

  -- ---- the table

  step_kept : (s : Stp) → IsKept n (integers n s)
  step_kept s =
      by_test n (s.row == 43) _ _ (farkas_kept s)
      (by_test n (s.row == 44) _ _ (tested n (holds_multiples 1 0 1 s) _ (λ e. on_kept n _ (divisor s) (λ g is_g. on_kept n _ (form s 0) (λ f is_f. round_kept (multiples s) g f))))
      (by_test n (s.row == 45) _ _ (the_known n sound s (neint_row n.sorts) neint_kept)
      (by_test n (s.row == 46) _ _ (tested n (holds 0 2 0 s) _ (λ e. on_kept n _ (term s 0) (λ t is_t. on_kept n _ (term s 1) (λ u is_u. lineq_kept t u)))) tt)))

pub loses_no_model : (n : Nod) (s : Stp) (added : List Addition) → IsSound n → integers n s ≡ kids added → LosesNoModel n added
loses_no_model n s added sound e = (subst (IsKept n) e (step_kept n sound s)).1

pub adds_sorted : (n : Nod) (s : Stp) (added : List Addition) → IsSound n → integers n s ≡ kids added → AreSorted n added
adds_sorted n s added sound e = (subst (IsKept n) e (step_kept n sound s)).0
