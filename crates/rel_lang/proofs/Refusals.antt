-- A text is refused at one token at most, and for one reason.
use Rattle.std.proofs.Common.{◌≡◌, ℕ, zero, suc, ◌<◌, ◌≤◌, List, [], ◌∷◌, ◌⊎◌, inl, inr, refl, subst, arith}
use Rattle.rel_lang.specs.Text.{Mark, show_tokens}
use Rattle.rel_lang.specs.Tokens.{Token}
use Rattle.rel_lang.specs.Refusal.{Limits, limits, IsWithin, GoesOn, AreWithin, Reason, Unexpected, TooDeep, TooMany, IsOver, IsOverAt, reach, IsRefused}

-- what goes on with more tokens goes on with fewer
pub goes_less : (m n : ℕ) (ms : List Mark) (ts : List Token) → m ≤ n → GoesOn n ms ts → GoesOn m ms ts
goes_less zero n ms ts le h = tt
goes_less (suc m) zero ms ts le h = absurd (omega arith)
goes_less (suc m) (suc n) [] ts le h = absurd h
goes_less (suc m) (suc n) (k ∷ ms) [] le h = absurd h
goes_less (suc m) (suc n) (k ∷ ms) (t ∷ ts) le h = (h.0, h.1, h.2, goes_less m n ms ts (omega arith) h.3)

over_one : (l : Limits) (r : Reason) (m : Mark) → IsWithin l m → IsOver l r m → ⊥
over_one l Unexpected m within over = over
over_one l TooDeep m within over = let le = within.0 in omega (arith, le, over)
over_one l TooMany m within over = let le = within.1 in let lt = over.1 in omega (arith, le, lt)

-- no mark within the limits is past one
pub within_is_not_over : (l : Limits) (r : Reason) (m n : ℕ) (ms : List Mark) → m < n → AreWithin l n ms → IsOverAt l r m ms → ⊥
within_is_not_over l r m zero ms lt within over = absurd (omega arith)
within_is_not_over l r m (suc n) [] lt within over = over
within_is_not_over l r zero (suc n) (k ∷ ms) lt within over = over_one l r k within.0 over
within_is_not_over l r (suc m) (suc n) (k ∷ ms) lt within over = within_is_not_over l r m n ms (omega arith) within.1 over

reach_more : (r : Reason) (n : ℕ) → n ≤ reach r n
reach_more Unexpected n = omega arith
reach_more TooDeep n = omega arith
reach_more TooMany n = omega arith

-- none is refused earlier
no_earlier : (r s : Reason) (m n : ℕ) (ts : List Token) → m < n → IsRefused r m ts → IsRefused s n ts → ⊥
no_earlier r s m n ts lt one two =
    let b = two.begun in
    let more = reach_more s n in
    let goes : GoesOn (suc m) (show_tokens b.0) ts = goes_less (suc m) (reach s n) (show_tokens b.0) ts (omega (arith, more)) b.2 in
    within_is_not_over limits r m n (show_tokens b.0) lt b.3 (one.stuck b.0 b.1 goes)

order : (m n : ℕ) → (m < n) ⊎ ((n < m) ⊎ (m ≡ n))
order zero zero = inr (inr refl)
order zero (suc n) = inl (omega arith)
order (suc m) zero = inr (inl (omega arith))
order (suc m) (suc n) = elim (order m n) [ inl h ↦ inl (omega (arith, h)) | inr (inl h) ↦ inr (inl (omega (arith, h))) | inr (inr h) ↦ inr (inr (omega (arith, h))) ]

pub one_place : (r s : Reason) (m n : ℕ) (ts : List Token) → IsRefused r m ts → IsRefused s n ts → m ≡ n
one_place r s m n ts one two = elim (order m n) [ inl h ↦ absurd (no_earlier r s m n ts h one two) | inr (inl h) ↦ absurd (no_earlier s r n m ts h two one) | inr (inr h) ↦ h ]

nothing_unexpected : (l : Limits) (n : ℕ) (ms : List Mark) → IsOverAt l Unexpected n ms → ⊥
nothing_unexpected l n [] h = h
nothing_unexpected l zero (m ∷ ms) h = h
nothing_unexpected l (suc n) (m ∷ ms) h = nothing_unexpected l n ms h

not_both : (l : Limits) (n : ℕ) (ms : List Mark) → IsOverAt l TooDeep n ms → IsOverAt l TooMany n ms → ⊥
not_both l n [] deep many = deep
not_both l zero (m ∷ ms) deep many = let le = many.0 in omega (arith, deep, le)
not_both l (suc n) (m ∷ ms) deep many = not_both l n ms deep many

one_reason : (r s : Reason) (n : ℕ) (ts : List Token) → IsRefused r n ts → IsRefused s n ts → r ≡ s
one_reason Unexpected Unexpected n ts one two = refl
one_reason Unexpected TooDeep n ts one two = let b = two.begun in absurd (nothing_unexpected limits n (show_tokens b.0) (one.stuck b.0 b.1 b.2))
one_reason Unexpected TooMany n ts one two = let b = two.begun in absurd (nothing_unexpected limits n (show_tokens b.0) (one.stuck b.0 b.1 b.2))
one_reason TooDeep Unexpected n ts one two = let b = one.begun in absurd (nothing_unexpected limits n (show_tokens b.0) (two.stuck b.0 b.1 b.2))
one_reason TooDeep TooDeep n ts one two = refl
one_reason TooDeep TooMany n ts one two = let b = one.begun in absurd (not_both limits n (show_tokens b.0) (one.stuck b.0 b.1 b.2) (two.stuck b.0 b.1 b.2))
one_reason TooMany Unexpected n ts one two = let b = one.begun in absurd (nothing_unexpected limits n (show_tokens b.0) (two.stuck b.0 b.1 b.2))
one_reason TooMany TooDeep n ts one two = let b = one.begun in absurd (not_both limits n (show_tokens b.0) (two.stuck b.0 b.1 b.2) (one.stuck b.0 b.1 b.2))
one_reason TooMany TooMany n ts one two = refl

pub one_refusal : (r s : Reason) (m n : ℕ) (ts : List Token) → IsRefused r m ts → IsRefused s n ts → (r ≡ s) × (m ≡ n)
one_refusal r s m n ts one two =
    let same = one_place r s m n ts one two in
    (one_reason r s n ts (subst (λ k. IsRefused r k ts) same one) two, same)
