-- Walks along lists: what is listed, and all elements.
use Rattle.std.proofs.Common.{◌≡◌, ◌⊎◌, ◌↔◌, inl, inr, ⊎_elim, ℕ, ◌+◌, ◌<◌, ◌≤◌, Bool, true, false, IsTrue, is_some, if◌then◌else◌, Option, Some, None, List, [], ◌∷◌, length, get_or, drop, map, refl, sym, ap, subst}
use Rattle.std.specs.List.{AllByRecursion}
use Rattle.std.specs.Str.{bytes_eq}
use Rattle.std.proofs.lemmas.List.{drop_more, drop_all}
use Rattle.std.proofs.lemmas.Slice.Eq.{bytes_eq-Decides}
use Rattle.rel_lang.specs.Syntax.{Word, Effect, Global, Locations}
use Rattle.rel_lang.specs.declared.bundle.Effect as E
use Rattle.rel_lang.specs.View.{effect_of}
use Rattle.rel_flaws.specs.Entries.{find_entry, with_entry}
use Rattle.rel_linking.specs.Form.{IsListed}
use Rattle.rel_linking.specs.Parts.{Names, IsIndexed, Lists, with_listed}

-- ---- the index of what is listed

abbrev one_if : Bool → Option (Unit {0})
one_if b = if b then Some tt else None

in_added : (x y : Word) (ns : Names) → IsIndexed x (with_entry ns y tt) → (x ≡ y) ⊎ IsIndexed x ns
in_added x y [] h =
    (elim (bytes_eq x y) as (λ b. bytes_eq x y ≡ b → IsTrue (is_some (one_if b)) → (x ≡ y) ⊎ IsIndexed x []) [
      | true ↦ λ e i. inl ((bytes_eq-Decides x y).0 e)
      | false ↦ λ e i. cc
    ]) refl h
in_added x y (n ∷ ns) h =
    (elim (bytes_eq y n.0) as (λ b. IsIndexed x (if b then n ∷ ns else n ∷ with_entry ns y tt) → (x ≡ y) ⊎ IsIndexed x (n ∷ ns)) [
      | true ↦ λ i. inr i
      | false ↦ elim (bytes_eq x n.0) as (λ b. IsTrue (is_some (if b then Some n.1 else find_entry x (with_entry ns y tt))) → (x ≡ y) ⊎ IsTrue (is_some (if b then Some n.1 else find_entry x ns))) [
        | true ↦ λ i. inr refl
        | false ↦ λ i. in_added x y ns i
      ]
    ]) h

added_in : (x y : Word) (ns : Names) → IsIndexed x ns → IsIndexed x (with_entry ns y tt)
added_in x y [] h = cc
added_in x y (n ∷ ns) h =
    (elim (bytes_eq y n.0) as (λ b. IsIndexed x (n ∷ ns) → IsIndexed x (if b then n ∷ ns else n ∷ with_entry ns y tt)) [
      | true ↦ λ i. i
      | false ↦ elim (bytes_eq x n.0) as (λ b. IsTrue (is_some (if b then Some n.1 else find_entry x ns)) → IsTrue (is_some (if b then Some n.1 else find_entry x (with_entry ns y tt)))) [
        | true ↦ λ i. refl
        | false ↦ λ i. added_in x y ns i
      ]
    ]) h

added_itself : (y : Word) (ns : Names) → IsIndexed y (with_entry ns y tt)
added_itself y [] = ap (λ b. is_some (one_if b)) ((bytes_eq-Decides y y).1 refl)
added_itself y (n ∷ ns) =
    (elim (bytes_eq y n.0) as (λ b. bytes_eq y n.0 ≡ b → IsIndexed y (if b then n ∷ ns else n ∷ with_entry ns y tt)) [
      | true ↦ λ e. ap (λ b. is_some (if b then Some n.1 else find_entry y ns)) e
      | false ↦ λ e. subst (λ b. IsTrue (is_some (if b then Some n.1 else find_entry y (with_entry ns y tt)))) (sym e) (added_itself y ns)
    ]) refl

-- what is in the index or listed from i on is what is listed
abbrev pub AreIndexed : Names → List E.Effect → ℕ → Type 0
AreIndexed ns ws i = (x : Word) → ((IsIndexed x ns ⊎ IsListed (map effect_of (drop i ws)) x) ↔ IsListed (map effect_of ws) x)

one_more : (ns : Names) (f : Effect) (rest : List Effect) (x : Word) → ((IsIndexed x (with_listed ns f) ⊎ IsListed rest x) ↔ (IsIndexed x ns ⊎ IsListed (f ∷ rest) x))
one_more ns (Global y) rest x = (
  λ h. ⊎_elim (λ i. ⊎_elim (λ e. inr (inl e)) (λ k. inl k) (in_added x y ns i)) (λ l. inr (inr l)) h,
  λ h. ⊎_elim (λ i. inl (added_in x y ns i)) (λ l. ⊎_elim (λ e. inl (subst (λ z. IsIndexed z (with_entry ns y tt)) (sym e) (added_itself y ns))) (λ k. inr k) l) h,
)
one_more ns (Locations p) rest x = (λ h. h, λ h. h)

pub none_indexed : (ws : List E.Effect) → AreIndexed [] ws 0
none_indexed ws x = (λ h. ⊎_elim (λ i. cc) (λ l. l) h, λ l. inr l)

pub indexed_more : (ns : Names) (ws : List E.Effect) (i : ℕ) (d : E.Effect) → i < length ws → AreIndexed ns ws i → AreIndexed (with_listed ns (effect_of (get_or ws i d))) ws (i + 1)
indexed_more ns ws i d h all x =
    let step = one_more ns (effect_of (get_or ws i d)) (map effect_of (drop (i + 1) ws)) x in
    let before : (IsIndexed x ns ⊎ IsListed (map effect_of (get_or ws i d ∷ drop (i + 1) ws)) x) ↔ IsListed (map effect_of ws) x =
    subst (λ es. (IsIndexed x ns ⊎ IsListed (map effect_of es) x) ↔ IsListed (map effect_of ws) x) (drop_more ws i d h) (all x) in
    (λ k. before.0 (step.0 k), λ l. step.1 (before.1 l))

pub all_indexed : (ns : Names) (ws : List E.Effect) (i : ℕ) → length ws ≤ i → AreIndexed ns ws i → Lists ns (map effect_of ws)
all_indexed ns ws i h all x =
    let whole : (IsIndexed x ns ⊎ IsListed (map effect_of []) x) ↔ IsListed (map effect_of ws) x =
    subst (λ es. (IsIndexed x ns ⊎ IsListed (map effect_of es) x) ↔ IsListed (map effect_of ws) x) (drop_all i ws h) (all x) in
    (λ k. whole.0 (inl k), λ l. ⊎_elim (λ k. k) (λ n. absurd n) (whole.1 l))

pub ruleset indexing = (none_indexed, indexed_more, all_indexed)

-- ---- all elements

module _ {X : Type 0} (P : X → Type 0) where
  pub all_more : (xs : List X) (i : ℕ) (d : X) → i < length xs → P (get_or xs i d) → AllByRecursion P (drop (i + 1) xs) → AllByRecursion P (drop i xs)
  all_more xs i d h p rest = subst (AllByRecursion P) (sym (drop_more xs i d h)) (p, rest)

  pub all_at : (xs : List X) (i : ℕ) (d : X) → i < length xs → AllByRecursion P (drop i xs) → P (get_or xs i d) × AllByRecursion P (drop (i + 1) xs)
  all_at xs i d h all = subst (AllByRecursion P) (drop_more xs i d h) all

  pub all_end : (xs : List X) (i : ℕ) → length xs ≤ i → AllByRecursion P (drop i xs)
  all_end xs i h = subst (AllByRecursion P) (sym (drop_all i xs h)) tt

pub ruleset each = (all_more, all_at, all_end)
