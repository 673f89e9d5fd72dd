-- The sorts of the bound numbers.
use Rattle.std.proofs.Common.{◌≡◌, ℕ, zero, suc, ◌-◌, ◌≢◌, List, ◌∷◌, slice_get, refl, ap, arith}

pub slice_get_next : {A : Type 0} (x : A) (xs : List A) (n : ℕ) → n ≢ 0 → slice_get xs (n - 1) ≡ slice_get (x ∷ xs) n
slice_get_next x xs zero h = absurd (h refl)
slice_get_next x xs (suc n) h = let e : suc n - 1 ≡ n = omega arith in ap (slice_get xs) e
