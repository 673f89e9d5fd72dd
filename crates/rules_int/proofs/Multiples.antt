-- How far a loop over entries has compared numbers.
use Rattle.std.proofs.Common.{◌≡◌, ◌⊎◌, inl, inr, ⊎_elim, ℕ, zero, suc, ◌+◌, ◌<◌, ◌≤◌, ℤ, pos, ◌*ℤ◌, Bool, true, false, ◌&&◌, ◌||◌, ◌↔◌, IsTrue, List, [], ◌∷◌, ◌++◌, map, length, get_or, take, take_all, refl, sym, ap, subst, ◌∙◌, arith}
use Rattle.std.proofs.lemmas.List.{take_more, take-map, length-map}
use Rattle.std.proofs.lemmas.Bool.{cases_lt}
use Rattle.std.proofs.Math.IntN.{*ℤ-zero}
use Rattle.rel_list.proofs.Sets.{and_both}
use Rattle.rel_logic.specs.Syntax.{Trm, var}
use Rattle.rel_logic.specs.Equal.{same_trm}
use Rattle.rel_logic.proofs.SameTrees.{same_trm_is}
use Rattle.rules_int.specs.Entries.{Numbers, Entries, number_at, has_atom, number_in}
use Rattle.rules_int.specs.Forms.{AreMultiples, AreMultiplesAt}
use Rattle.rules_int.proofs.Progress.{absent}
use Rattle.rules_int.proofs.Places.{has_push, map_push}

either : (b c : Bool) → (b || c) ≡ true → (b ≡ true) ⊎ (c ≡ true)
either true c e = inl refl
either false c e = inr e

or_true : (b : Bool) → (b || true) ≡ true
or_true true = refl
or_true false = refl

pub compared_more : {X : Type 0} (f : X → Trm × ℤ) (xs : List X) (i : ℕ) (d : X) (k : ℤ) (a c : Numbers) → i < length xs → AreMultiplesAt (take i (map f xs)) k a c → a (f (get_or xs i d)).0 ≡ k *ℤ c (f (get_or xs i d)).0
    → AreMultiplesAt (take (i + 1) (map f xs)) k a c
compared_more f xs i d k a c within so_far here x has =
    let one_more = take-map f (i + 1) xs ∙ ap (map f) (take_more xs i d within) ∙ map_push f (take i xs) (get_or xs i d) ∙ ap (λ es. es ++ f (get_or xs i d) ∷ []) (sym (take-map f i xs)) in
    let parts = sym (has_push (take i (map f xs)) (f (get_or xs i d)) x) ∙ (ap (λ es. has_atom es x) (sym one_more) ∙ has) in
    ⊎_elim (so_far x) (λ e. subst (λ x. a x ≡ k *ℤ c x) ((same_trm_is (f (get_or xs i d)).0 x).0 e) here) (either (has_atom (take i (map f xs)) x) (same_trm (f (get_or xs i d)).0 x) parts)

pub compared_all : {X : Type 0} (f : X → Trm × ℤ) (xs : List X) (i : ℕ) (k : ℤ) (a c : Numbers) → length xs ≤ i → AreMultiplesAt (take i (map f xs)) k a c → AreMultiplesAt (map f xs) k a c
compared_all f xs i k a c past so_far = subst (λ es. AreMultiplesAt es k a c) (take_all i (map f xs) (subst (λ n. n ≤ i) (sym (length-map xs f)) past)) so_far

pub has_entry : {X : Type 0} (f : X → Trm × ℤ) (xs : List X) (i : ℕ) (d : X) → i < length xs → has_atom (map f xs) (f (get_or xs i d)).0 ≡ true
has_entry f [] i d within = absurd (omega (arith, within))
has_entry f (x ∷ xs) zero d within = ap (λ b. b || has_atom (map f xs) (f x).0) ((same_trm_is (f x).0 (f x).0).1 refl)
has_entry f (x ∷ xs) (suc i) d within = ap (λ b. same_trm (f x).0 (f (get_or xs i d)).0 || b) (has_entry f xs i d (omega (arith, within))) ∙ or_true (same_trm (f x).0 (f (get_or xs i d)).0)

-- where neither has the atom, both numbers are 0
pub nothing : (k : ℤ) (c : ℤ) → c ≡ pos 0 → pos 0 ≡ k *ℤ c
nothing k c e = sym (*ℤ-zero k) ∙ ap (λ z. k *ℤ z) (sym e)

pub all_compared : (es fs : Entries) (k : ℤ) → AreMultiplesAt es k (number_at es) (number_at fs) → AreMultiplesAt fs k (number_at es) (number_at fs) → AreMultiples k (number_at es) (number_at fs)
all_compared es fs k h g x = at (has_atom es x) (has_atom fs x) refl refl
  where
    at : (b c : Bool) → has_atom es x ≡ b → has_atom fs x ≡ c → number_at es x ≡ k *ℤ number_at fs x
    at true c i j = h x i
    at false true i j = g x j
    at false false i j = absent es x i ∙ nothing k (number_at fs x) (absent fs x j)

pub nothing_in : (x : Trm) → number_in [] (number_at []) x ≡ pos 0
nothing_in (var n) = refl
nothing_in x = refl

-- ---- numbers of which those of variables stand in an array

pub more_variables : (zs : List ℤ) (c : Numbers) (k : ℤ) (n : ℕ) → ((m : ℕ) → m < n → get_or zs m (pos 0) ≡ k *ℤ c (var m)) → get_or zs n (pos 0) ≡ k *ℤ c (var n) → (m : ℕ) → m < n + 1 → get_or zs m (pos 0) ≡ k *ℤ c (var m)
more_variables zs c k n so_far here m below = ⊎_elim (λ e. subst (λ m. get_or zs m (pos 0) ≡ k *ℤ c (var m)) (sym e) here) (λ less. so_far m less) (last m below)
  where
    last : (m : ℕ) → m < n + 1 → (m ≡ n) ⊎ (m < n)
    last m below = ⊎_elim (λ less. inr less) (λ most. inl (omega (arith, below, most))) (cases_lt m n)

past : (zs : List ℤ) (n : ℕ) → length zs ≤ n → get_or zs n (pos 0) ≡ pos 0
past [] n h = refl
past (z ∷ zs) zero h = absurd (omega (arith, h))
past (z ∷ zs) (suc n) h = past zs n (omega (arith, h))

module _ (zs : List ℤ) (es fs : Entries) (k : ℤ) where
  abbrev AtVariables : Type 0
  AtVariables = (n : ℕ) → n < length zs → get_or zs n (pos 0) ≡ k *ℤ number_at fs (var n)

  all_dense : AtVariables → AreMultiplesAt es k (number_in zs (number_at es)) (number_at fs) → AreMultiplesAt fs k (number_in zs (number_at es)) (number_at fs) → AreMultiples k (number_in zs (number_at es)) (number_at fs)
  all_dense v h g x = at (has_atom es x) (has_atom fs x) refl refl
    where
      neither : (x : Trm) → has_atom es x ≡ false → has_atom fs x ≡ false → number_in zs (number_at es) x ≡ k *ℤ number_at fs x
      neither (var n) i j = ⊎_elim (λ less. v n less) (λ most. past zs n most ∙ nothing k (number_at fs (var n)) (absent fs (var n) j)) (cases_lt n (length zs))
      neither x i j = absent es x i ∙ nothing k (number_at fs x) (absent fs x j)

      at : (b c : Bool) → has_atom es x ≡ b → has_atom fs x ≡ c → number_in zs (number_at es) x ≡ k *ℤ number_at fs x
      at true c i j = h x i
      at false true i j = g x j
      at false false i j = neither x i j

  pub dense_is : (a b c : Bool) → (IsTrue a ↔ AtVariables) → (IsTrue b ↔ AreMultiplesAt es k (number_in zs (number_at es)) (number_at fs)) → (IsTrue c ↔ AreMultiplesAt fs k (number_in zs (number_at es)) (number_at fs))
      → IsTrue ((a && b) && c) ↔ AreMultiples k (number_in zs (number_at es)) (number_at fs)
  dense_is a b c h g r = (
    λ e. let both = and_both (a && b) c e in let first = and_both a b both.0 in all_dense (h.0 first.0) (g.0 first.1) (r.0 both.1),
    λ all. let i = h.1 (λ n less. all (var n)) in let j = g.1 (λ x has. all x) in let l = r.1 (λ x has. all x) in (λ t. (i t && j t) && l t),
  )

-- within the list the default is of no use
pub get_within : (zs : List ℤ) (n : ℕ) (d e : ℤ) → n < length zs → get_or zs n e ≡ get_or zs n d
get_within [] n d e within = absurd (omega (arith, within))
get_within (z ∷ zs) zero d e within = refl
get_within (z ∷ zs) (suc n) d e within = get_within zs n d e (omega (arith, within))
