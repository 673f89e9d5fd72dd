-- Sorts are kept where variables and bound numbers are added, and where a term is put for a bound number of its sort.
use Rattle.std.proofs.Common.{◌≡◌, ℕ, zero, suc, ◌+◌, ◌==◌, Bool, true, false, ◌&&◌, if◌then◌else◌, List, [], ◌∷◌, ◌++◌, slice_get, Option, Some, None, refl, sym, ap, subst, ◌∙◌, arith}
use Rattle.std.proofs.lemmas.Bool.Decides.{Decides-eqb}
use Rattle.rel_logic.specs.Syntax.{Srt, int_sort, ref_sort, rgn_sort, bij_sort, Trm, var, bound, int, add, sub, mul, null, sel, sto, empty, one, cup, cap, less, img, of, link, Fml, verum, falsum, eq, lt, le, member, is, paired, ext, no, and, or, imp, every, some}
use Rattle.rel_logic.specs.Sorting.{is_of, are_of_one, takes, value_sort, image_sort, stored_sort, sort_at, is_sorted, is_well_sorted}
use Rattle.rel_logic.specs.Substitution as S
use Rattle.rel_logic.specs.Substitution.{put_term, put, instantiated}
use Rattle.rel_logic.proofs.Sorts.{is_of_some, of_one, both_true}
use Rattle.rel_logic.proofs.Values.{is_false, same_test}

-- where the first is a sort, so is the second
abbrev pub IsKept : Option Srt → Option Srt → Type 0
IsKept o p = (s : Srt) → o ≡ Some s → p ≡ Some s

through : (f : Option Srt → Option Srt) → f None ≡ None → (o p : Option Srt) → IsKept o p → IsKept (f o) (f p)
through f none None p k s e = let clash : None ≡ Some s = sym none ∙ e in cc
through f none (Some t) p k s e = ap f (k t refl) ∙ e

takes_kept : (want : Srt) (a b o p : Option Srt) → IsKept a b → IsKept o p → IsKept (takes want a o) (takes want b p)
takes_kept want a b o p k l s e = either (is_of want b) s (through (λ c. takes want c o) refl a b k s e)
  where
    either : (t : Bool) → IsKept (if t then o else None) (if t then p else None)
    either true = l
    either false = λ s e. e

stored_kept : (m n o p : Option Srt) → IsKept m n → IsKept o p → IsKept (stored_sort m o) (stored_sort n p)
stored_kept m n o p k l s e = through (λ o. stored_sort n o) (nothing (value_sort n)) o p l s (through (λ m. stored_sort m o) refl m n k s e)
  where
    nothing : (v : Option Srt) → (if are_of_one v None then n else None) ≡ None
    nothing None = refl
    nothing (Some s) = refl

takes_two_kept : (v w t : Srt) (a b c d : Option Srt) → IsKept a b → IsKept c d → IsKept (takes v a (takes w c (Some t))) (takes v b (takes w d (Some t)))
takes_two_kept v w t a b c d k l = takes_kept v a b (takes w c (Some t)) (takes w d (Some t)) k (takes_kept w c d (Some t) (Some t) l (λ s e. e))

of_kept : (s : Srt) (o p : Option Srt) → IsKept o p → is_of s o ≡ true → is_of s p ≡ true
of_kept s o p k e = let o_is = is_of_some s o e in subst (λ x. is_of s x ≡ true) (o_is ∙ sym (k s o_is)) e

one_kept : (a b c d : Option Srt) → IsKept a b → IsKept c d → are_of_one a c ≡ true → are_of_one b d ≡ true
one_kept a b c d k l e =
    let h = of_one a c e in
    let left : a ≡ b = h.1 ∙ sym (k h.0 h.1) in
    let right : c ≡ d = h.2 ∙ sym (l h.0 h.2) in
    subst (λ x. are_of_one x d ≡ true) left (subst (λ x. are_of_one a x ≡ true) right e)

both_kept : (a b c d : Bool) → (a ≡ true → b ≡ true) → (c ≡ true → d ≡ true) → (a && c) ≡ true → (b && d) ≡ true
both_kept a b c d k l e = let h = both_true a c e in λ i. k h.0 i && l h.1 i

-- ---- more variables and bound numbers

module _ (sorts more : List Srt) (variables : (n : ℕ) → IsKept (slice_get sorts n) (slice_get more n)) where
  module _ (bounds others : List Srt) (numbers : (n : ℕ) → IsKept (slice_get bounds n) (slice_get others n)) where
    term_kept : (t : Trm) → IsKept (sort_at sorts bounds t) (sort_at more others t)
    term_kept (var n) = variables n
    term_kept (bound n) = numbers n
    term_kept (int n) = λ s e. e
    term_kept (add a b) = takes_two_kept int_sort int_sort int_sort _ _ _ _ (term_kept a) (term_kept b)
    term_kept (sub a b) = takes_two_kept int_sort int_sort int_sort _ _ _ _ (term_kept a) (term_kept b)
    term_kept (mul k a) = takes_kept int_sort _ _ _ _ (term_kept a) (λ s e. e)
    term_kept null = λ s e. e
    term_kept (sel m a) = takes_kept ref_sort _ _ _ _ (term_kept a) (through value_sort refl _ _ (term_kept m))
    term_kept (sto m a b) = takes_kept ref_sort _ _ _ _ (term_kept a) (stored_kept _ _ _ _ (term_kept m) (term_kept b))
    term_kept empty = λ s e. e
    term_kept (one a) = takes_kept ref_sort _ _ _ _ (term_kept a) (λ s e. e)
    term_kept (cup g h) = takes_two_kept rgn_sort rgn_sort rgn_sort _ _ _ _ (term_kept g) (term_kept h)
    term_kept (cap g h) = takes_two_kept rgn_sort rgn_sort rgn_sort _ _ _ _ (term_kept g) (term_kept h)
    term_kept (less g h) = takes_two_kept rgn_sort rgn_sort rgn_sort _ _ _ _ (term_kept g) (term_kept h)
    term_kept (img m g) = takes_kept rgn_sort _ _ _ _ (term_kept g) (through image_sort refl _ _ (term_kept m))
    term_kept (of c g) = takes_kept rgn_sort _ _ _ _ (term_kept g) (λ s e. e)
    term_kept (link p a b) = takes_kept bij_sort _ _ _ _ (term_kept p) (takes_two_kept ref_sort ref_sort bij_sort _ _ _ _ (term_kept a) (term_kept b))

  under_kept : (bounds others : List Srt) (s : Srt) → ((n : ℕ) → IsKept (slice_get bounds n) (slice_get others n)) → (n : ℕ) → IsKept (slice_get (s ∷ bounds) n) (slice_get (s ∷ others) n)
  under_kept bounds others s numbers zero = λ u e. e
  under_kept bounds others s numbers (suc n) = numbers n

  formula_kept : (bounds others : List Srt) → ((n : ℕ) → IsKept (slice_get bounds n) (slice_get others n)) → (f : Fml) → is_sorted sorts bounds f ≡ true → is_sorted more others f ≡ true
  formula_kept bounds others k verum e = refl
  formula_kept bounds others k falsum e = refl
  formula_kept bounds others k (eq a b) e = let t = term_kept bounds others k in one_kept _ _ _ _ (t a) (t b) e
  formula_kept bounds others k (lt a b) e = let t = term_kept bounds others k in both_kept _ _ _ _ (of_kept int_sort _ _ (t a)) (of_kept int_sort _ _ (t b)) e
  formula_kept bounds others k (le a b) e = let t = term_kept bounds others k in both_kept _ _ _ _ (of_kept int_sort _ _ (t a)) (of_kept int_sort _ _ (t b)) e
  formula_kept bounds others k (member a g) e = let t = term_kept bounds others k in both_kept _ _ _ _ (of_kept ref_sort _ _ (t a)) (of_kept rgn_sort _ _ (t g)) e
  formula_kept bounds others k (is c a) e = of_kept ref_sort _ _ (term_kept bounds others k a) e
  formula_kept bounds others k (paired p a b) e =
      let t = term_kept bounds others k in
      both_kept _ _ _ _ (of_kept bij_sort _ _ (t p)) (both_kept _ _ _ _ (of_kept ref_sort _ _ (t a)) (of_kept ref_sort _ _ (t b))) e
  formula_kept bounds others k (ext p q) e = let t = term_kept bounds others k in both_kept _ _ _ _ (of_kept bij_sort _ _ (t p)) (of_kept bij_sort _ _ (t q)) e
  formula_kept bounds others k (no f) e = formula_kept bounds others k f e
  formula_kept bounds others k (and f g) e = both_kept _ _ _ _ (formula_kept bounds others k f) (formula_kept bounds others k g) e
  formula_kept bounds others k (or f g) e = both_kept _ _ _ _ (formula_kept bounds others k f) (formula_kept bounds others k g) e
  formula_kept bounds others k (imp f g) e = both_kept _ _ _ _ (formula_kept bounds others k f) (formula_kept bounds others k g) e
  formula_kept bounds others k (every s f) e = formula_kept (s ∷ bounds) (s ∷ others) (under_kept bounds others s k) f e
  formula_kept bounds others k (some s f) e = formula_kept (s ∷ bounds) (s ∷ others) (under_kept bounds others s k) f e

appended : (sorts more : List Srt) (n : ℕ) → IsKept (slice_get sorts n) (slice_get (sorts ++ more) n)
appended [] more n s e = cc
appended (t ∷ sorts) more zero s e = e
appended (t ∷ sorts) more (suc n) s e = appended sorts more n s e

pub sorted_with_more : (sorts more bounds : List Srt) (f : Fml) → is_sorted sorts bounds f ≡ true → is_sorted (sorts ++ more) bounds f ≡ true
sorted_with_more sorts more bounds f e = formula_kept sorts (sorts ++ more) (appended sorts more) bounds bounds (λ n s e. e) f e

-- ---- a closed term put for a bound number of its sort

module _ (sorts : List Srt) (t : Trm) (of_t : Srt) (sorted : sort_at sorts [] t ≡ Some of_t) where
  -- t has its sort under any quantifiers
  anywhere : (bounds : List Srt) → sort_at sorts bounds t ≡ Some of_t
  anywhere bounds = term_kept sorts sorts (λ n s e. e) [] bounds (λ n s e. cc) t of_t sorted

  anywhere_kept : (bounds others : List Srt) → IsKept (sort_at sorts bounds t) (sort_at sorts others t)
  anywhere_kept bounds others s e = anywhere others ∙ (sym (anywhere bounds) ∙ e)

  module _ (n : ℕ) (bounds others : List Srt) (numbers : (m : ℕ) → IsKept (slice_get bounds m) (sort_at sorts others (put_term (S.number n) t (bound m)))) where
    put_term_kept : (a : Trm) → IsKept (sort_at sorts bounds a) (sort_at sorts others (put_term (S.number n) t a))
    put_term_kept (var n) = λ s e. e
    put_term_kept (bound n) = numbers n
    put_term_kept (int n) = λ s e. e
    put_term_kept (add a b) = takes_two_kept int_sort int_sort int_sort _ _ _ _ (put_term_kept a) (put_term_kept b)
    put_term_kept (sub a b) = takes_two_kept int_sort int_sort int_sort _ _ _ _ (put_term_kept a) (put_term_kept b)
    put_term_kept (mul k a) = takes_kept int_sort _ _ _ _ (put_term_kept a) (λ s e. e)
    put_term_kept null = λ s e. e
    put_term_kept (sel m a) = takes_kept ref_sort _ _ _ _ (put_term_kept a) (through value_sort refl _ _ (put_term_kept m))
    put_term_kept (sto m a b) = takes_kept ref_sort _ _ _ _ (put_term_kept a) (stored_kept _ _ _ _ (put_term_kept m) (put_term_kept b))
    put_term_kept empty = λ s e. e
    put_term_kept (one a) = takes_kept ref_sort _ _ _ _ (put_term_kept a) (λ s e. e)
    put_term_kept (cup g h) = takes_two_kept rgn_sort rgn_sort rgn_sort _ _ _ _ (put_term_kept g) (put_term_kept h)
    put_term_kept (cap g h) = takes_two_kept rgn_sort rgn_sort rgn_sort _ _ _ _ (put_term_kept g) (put_term_kept h)
    put_term_kept (less g h) = takes_two_kept rgn_sort rgn_sort rgn_sort _ _ _ _ (put_term_kept g) (put_term_kept h)
    put_term_kept (img m g) = takes_kept rgn_sort _ _ _ _ (put_term_kept g) (through image_sort refl _ _ (put_term_kept m))
    put_term_kept (of c g) = takes_kept rgn_sort _ _ _ _ (put_term_kept g) (λ s e. e)
    put_term_kept (link p a b) = takes_kept bij_sort _ _ _ _ (put_term_kept p) (takes_two_kept ref_sort ref_sort bij_sort _ _ _ _ (put_term_kept a) (put_term_kept b))

  put_under : (n : ℕ) (bounds others : List Srt) (s : Srt) → ((m : ℕ) → IsKept (slice_get bounds m) (sort_at sorts others (put_term (S.number n) t (bound m))))
      → (m : ℕ) → IsKept (slice_get (s ∷ bounds) m) (sort_at sorts (s ∷ others) (put_term (S.number (n + 1)) t (bound m)))
  put_under n bounds others s k zero = at_zero (0 == n + 1) (is_false _ (Decides-eqb 0 (n + 1)) (λ e. omega (arith, e)))
    where
      at_zero : (b : Bool) → b ≡ false → IsKept (Some s) (sort_at sorts (s ∷ others) (if b then t else bound 0))
      at_zero true h = cc
      at_zero false h = λ u e. e
  put_under n bounds others s k (suc m) =
      λ u e. ap (λ b. sort_at sorts (s ∷ others) (if b then t else bound (suc m))) next ∙ either (m == n) u (k m u e)
    where
      next : (suc m == n + 1) ≡ (m == n)
      next = same_test _ _ (Decides-eqb (suc m) (n + 1)) (Decides-eqb m n) (λ e. omega (arith, e)) (λ e. omega (arith, e))

      either : (b : Bool) → IsKept (sort_at sorts others (if b then t else bound m)) (sort_at sorts (s ∷ others) (if b then t else bound (suc m)))
      either true = anywhere_kept others (s ∷ others)
      either false = λ u e. e

  put_kept : (n : ℕ) (bounds others : List Srt) → ((m : ℕ) → IsKept (slice_get bounds m) (sort_at sorts others (put_term (S.number n) t (bound m))))
      → (f : Fml) → is_sorted sorts bounds f ≡ true → is_sorted sorts others (put (S.number n) t f) ≡ true
  put_kept n bounds others k verum e = refl
  put_kept n bounds others k falsum e = refl
  put_kept n bounds others k (eq a b) e = let p = put_term_kept n bounds others k in one_kept _ _ _ _ (p a) (p b) e
  put_kept n bounds others k (lt a b) e = let p = put_term_kept n bounds others k in both_kept _ _ _ _ (of_kept int_sort _ _ (p a)) (of_kept int_sort _ _ (p b)) e
  put_kept n bounds others k (le a b) e = let p = put_term_kept n bounds others k in both_kept _ _ _ _ (of_kept int_sort _ _ (p a)) (of_kept int_sort _ _ (p b)) e
  put_kept n bounds others k (member a g) e = let p = put_term_kept n bounds others k in both_kept _ _ _ _ (of_kept ref_sort _ _ (p a)) (of_kept rgn_sort _ _ (p g)) e
  put_kept n bounds others k (is c a) e = of_kept ref_sort _ _ (put_term_kept n bounds others k a) e
  put_kept n bounds others k (paired q a b) e =
      let p = put_term_kept n bounds others k in
      both_kept _ _ _ _ (of_kept bij_sort _ _ (p q)) (both_kept _ _ _ _ (of_kept ref_sort _ _ (p a)) (of_kept ref_sort _ _ (p b))) e
  put_kept n bounds others k (ext a b) e = let p = put_term_kept n bounds others k in both_kept _ _ _ _ (of_kept bij_sort _ _ (p a)) (of_kept bij_sort _ _ (p b)) e
  put_kept n bounds others k (no f) e = put_kept n bounds others k f e
  put_kept n bounds others k (and f g) e = both_kept _ _ _ _ (put_kept n bounds others k f) (put_kept n bounds others k g) e
  put_kept n bounds others k (or f g) e = both_kept _ _ _ _ (put_kept n bounds others k f) (put_kept n bounds others k g) e
  put_kept n bounds others k (imp f g) e = both_kept _ _ _ _ (put_kept n bounds others k f) (put_kept n bounds others k g) e
  put_kept n bounds others k (every s f) e = put_kept (n + 1) (s ∷ bounds) (s ∷ others) (put_under n bounds others s k) f e
  put_kept n bounds others k (some s f) e = put_kept (n + 1) (s ∷ bounds) (s ∷ others) (put_under n bounds others s k) f e

  pub instantiated_sorted : (f : Fml) → is_sorted sorts (of_t ∷ []) f ≡ true → is_well_sorted sorts (instantiated t f) ≡ true
  instantiated_sorted f e = put_kept 0 (of_t ∷ []) [] at f e
    where
      at : (m : ℕ) → IsKept (slice_get (of_t ∷ []) m) (sort_at sorts [] (put_term (S.number 0) t (bound m)))
      at zero = λ s e. sorted ∙ e
      at (suc m) = λ s e. cc
