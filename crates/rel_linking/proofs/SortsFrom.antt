-- The sorts of the variables from a number on.
use Rattle.std.proofs.Common.{◌≡◌, ℕ, zero, suc, ◌+◌, List, [], ◌∷◌, ◌++◌, replicate, Some, slice_get, refl, sym, ap, ◌∙◌, arith}
use Rattle.std.specs.List.{AllByRecursion}
use Rattle.rel_logic.specs.Syntax.{Srt, int_sort, Trm}
use Rattle.rel_logic.specs.Sorting.{sort_at}
use Rattle.rel_linking.specs.Obligation.{variables_from}

module _ (sorts : List Srt) where
  abbrev pub IsIntTerm : Trm → Type 0
  IsIntTerm t = sort_at sorts [] t ≡ Some int_sort

  abbrev pub AreIntTerms : List Trm → Type 0
  AreIntTerms ts = AllByRecursion IsIntTerm ts

  -- the variables from n on have the sorts of the list
  abbrev pub From : ℕ → List Srt → Type 0
  From n xs = (i : ℕ) → slice_get sorts (n + i) ≡ slice_get xs i

  pub start : (xs : List Srt) → sorts ≡ xs → From 0 xs
  start xs e i = let same : 0 + i ≡ i = omega arith in ap (slice_get sorts) same ∙ ap (λ ys. slice_get ys i) e

  pub here : (n : ℕ) (s : Srt) (xs : List Srt) → From n (s ∷ xs) → slice_get sorts n ≡ Some s
  here n s xs f = let same : n ≡ n + 0 = omega arith in ap (slice_get sorts) same ∙ f 0

  pub next : (n : ℕ) (s : Srt) (xs : List Srt) → From n (s ∷ xs) → From (suc n) xs
  next n s xs f i = let same : suc n + i ≡ n + suc i = omega arith in ap (slice_get sorts) same ∙ f (suc i)

  pub past : (n count : ℕ) (s : Srt) (xs : List Srt) → From n (replicate count s ++ xs) → From (n + count) xs
  past n zero s xs f i = let same : n + zero + i ≡ n + i = omega arith in ap (slice_get sorts) same ∙ f i
  past n (suc count) s xs f i =
      let same : n + suc count + i ≡ suc n + count + i = omega arith in
      ap (slice_get sorts) same ∙ past (suc n) count s xs (next n s (replicate count s ++ xs) f) i

  pub ints : (n count : ℕ) (xs : List Srt) → From n (replicate count int_sort ++ xs) → AreIntTerms (variables_from n count)
  ints n zero xs f = tt
  ints n (suc count) xs f =
      (here n int_sort (replicate count int_sort ++ xs) f, ints (suc n) count xs (next n int_sort (replicate count int_sort ++ xs) f))
