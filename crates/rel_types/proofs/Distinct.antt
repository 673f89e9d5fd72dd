-- Lists of names: tests of them, and what the tests say.
use Rattle.std.proofs.Common.{◌≡◌, ◌↔◌, Bool, true, false, not, ◌&&◌, List, [], ◌∷◌, ◌++◌, refl, sym, ◌∙◌, inl, inr, ⊎_elim, true≢false}
use Rattle.std.specs.Prelude.{bytes_eq}
use Rattle.std.specs.List.{AllByRecursion}
use Rattle.std.proofs.lemmas.Bool.{false_from_ne_true, not-false, not_from_true}
use Rattle.std.proofs.lemmas.Slice.Eq.{bytes_eq-Decides}
use Rattle.rel_lang.specs.Syntax.{Word}
use Rattle.rel_lang.specs.Typed.{IsAmong, AreDistinct}
use Rattle.rel_flaws.specs.Inference.{is_among}
use Rattle.rel_types.specs.Items.{repeats, same_names}
use Rattle.rel_types.proofs.Clean.{or_false}

-- ---- one name

pub same_from_true : (x y : Word) → bytes_eq x y ≡ true → x ≡ y
same_from_true x y e = (bytes_eq-Decides x y).0 e

pub true_from_same : (x y : Word) → x ≡ y → bytes_eq x y ≡ true
true_from_same x y e = (bytes_eq-Decides x y).1 e

pub apart_is_false : (x y : Word) → (bytes_eq x y ≡ false) ↔ ¬ (x ≡ y)
apart_is_false x y = (
  λ e same. true≢false (sym (true_from_same x y same) ∙ e),
  λ differs. false_from_ne_true (bytes_eq x y) (λ e. differs (same_from_true x y e)),
)

pub among_is_false : (x : Word) (ys : List Word) → (is_among x ys ≡ false) ↔ ¬ (IsAmong x ys)
among_is_false x [] = (λ e i. i, λ absent. refl)
among_is_false x (y ∷ ys) =
    let split = or_false (bytes_eq x y) (is_among x ys) in (
      λ e. let h = split.0 e in λ i. ⊎_elim (λ same. (apart_is_false x y).0 h.0 same) (λ later. (among_is_false x ys).0 h.1 later) i,
      λ absent. split.1 ((apart_is_false x y).1 (λ same. absent (inl same)), (among_is_false x ys).1 (λ later. absent (inr later))),
    )

-- ---- lists apart

-- none of these names is among the others
abbrev pub AreApart : List Word → List Word → Type 0
AreApart seen xs = AllByRecursion (λ x. ¬ (IsAmong x seen)) xs

pub apart_from_nothing : (xs : List Word) → AreApart [] xs
apart_from_nothing [] = tt
apart_from_nothing (x ∷ xs) = (λ i. i, apart_from_nothing xs)

pub apart_cons : (x : Word) (seen ys : List Word) → AreApart (x ∷ seen) ys ↔ (¬ (IsAmong x ys) × AreApart seen ys)
apart_cons x seen [] = (λ h. (λ i. i, tt), λ h. tt)
apart_cons x seen (y ∷ ys) =
    let rest = apart_cons x seen ys in (
      λ h. let r = rest.0 h.1 in (λ i. ⊎_elim (λ here. h.0 (inl (sym here))) (λ later. r.0 later) i, (λ i. h.0 (inr i), r.1)),
      λ h. (λ i. ⊎_elim (λ here. h.0 (inl (sym here))) (λ later. h.1.0 later) i, rest.1 (λ i. h.0 (inr i), h.1.1)),
    )

pub apart_turned : (xs ys : List Word) → AreApart xs ys → AreApart ys xs
apart_turned xs [] h = apart_from_nothing xs
apart_turned xs (y ∷ ys) h = (apart_cons y ys xs).1 (h.0, apart_turned xs ys h.1)

pub apart_append : (xs seen ys : List Word) → AreApart (xs ++ seen) ys ↔ (AreApart xs ys × AreApart seen ys)
apart_append [] seen ys = (λ h. (apart_from_nothing ys, h), λ h. h.1)
apart_append (x ∷ xs) seen ys =
    let one = apart_cons x (xs ++ seen) ys in
    let two = apart_cons x xs ys in
    let rest = apart_append xs seen ys in (
      λ h. let p = one.0 h in let r = rest.0 p.1 in (two.1 (p.0, r.0), r.1),
      λ h. let p = two.0 h.0 in one.1 (p.0, rest.1 (p.1, h.1)),
    )

pub apart_of_append : (seen xs ys : List Word) → AreApart seen (xs ++ ys) ↔ (AreApart seen xs × AreApart seen ys)
apart_of_append seen [] ys = (λ h. (tt, h), λ h. h.1)
apart_of_append seen (x ∷ xs) ys =
    let rest = apart_of_append seen xs ys in
    (λ h. let r = rest.0 h.1 in ((h.0, r.0), r.1), λ h. (h.0.0, rest.1 (h.0.1, h.1)))

among_append : (x : Word) (xs ys : List Word) → ¬ (IsAmong x (xs ++ ys)) ↔ (¬ (IsAmong x xs) × ¬ (IsAmong x ys))
among_append x [] ys = (λ h. (λ i. i, h), λ h. h.1)
among_append x (z ∷ xs) ys =
    let rest = among_append x xs ys in (
      λ h. let r = rest.0 (λ i. h (inr i)) in (λ i. ⊎_elim (λ here. h (inl here)) (λ later. r.0 later) i, r.1),
      λ h i. ⊎_elim (λ here. h.0 (inl here)) (λ later. rest.1 (λ j. h.0 (inr j), h.1) later) i,
    )

pub distinct_append : (xs ys : List Word) → AreDistinct (xs ++ ys) ↔ (AreDistinct xs × AreDistinct ys × AreApart xs ys)
distinct_append [] ys = (λ h. (tt, h, apart_from_nothing ys), λ h. h.1)
distinct_append (x ∷ xs) ys =
    let rest = distinct_append xs ys in
    let here = among_append x xs ys in
    let split = apart_cons x xs ys in (
      λ h. let a = here.0 h.0 in let r = rest.0 h.1 in ((a.0, r.0), r.1, split.1 (a.1, r.2)),
      λ h. let s = split.0 h.2 in (here.1 (h.0.0, s.0), rest.1 (h.0.1, h.1, s.1)),
    )

-- no name repeats where the names are distinct, and none of them was seen
pub repeats_is_false : (seen xs : List Word) → (repeats seen xs ≡ false) ↔ (AreDistinct xs × AreApart seen xs)
repeats_is_false seen [] = (λ e. (tt, tt), λ h. refl)
repeats_is_false seen (x ∷ xs) =
    let split = or_false (is_among x seen) (repeats (x ∷ seen) xs) in
    let here = among_is_false x seen in
    let rest = repeats_is_false (x ∷ seen) xs in
    let one = apart_cons x seen xs in (
      λ e. let s = split.0 e in let r = rest.0 s.1 in let o = one.0 r.1 in ((o.0, r.0), (here.0 s.0, o.1)),
      λ h. split.1 (here.1 h.1.0, rest.1 (h.0.1, one.1 (h.0.0, h.1.1))),
    )

pub same_names_are_same : (xs ys : List Word) → (not (same_names xs ys) ≡ false) ↔ (xs ≡ ys)
same_names_are_same [] [] = (λ e. refl, λ e. refl)
same_names_are_same [] (y ∷ ys) = (λ e. absurd (true≢false e), λ e. absurd (cc))
same_names_are_same (x ∷ xs) [] = (λ e. absurd (true≢false e), λ e. absurd (cc))
same_names_are_same (x ∷ xs) (y ∷ ys) = let rest = same_names_are_same xs ys in (from rest.0 (bytes_eq x y) refl, to rest.1)
  where
    from : (not (same_names xs ys) ≡ false → xs ≡ ys) → (b : Bool) → bytes_eq x y ≡ b → not (b && same_names xs ys) ≡ false → (x ∷ xs) ≡ (y ∷ ys)
    from later true same e = let here = same_from_true x y same in let rest = later e in cc
    from later false other e = absurd (true≢false e)

    to : (xs ≡ ys → not (same_names xs ys) ≡ false) → (x ∷ xs) ≡ (y ∷ ys) → not (bytes_eq x y && same_names xs ys) ≡ false
    to later e = let here : x ≡ y = cc in let rest : xs ≡ ys = cc in rw (true_from_same x y here) (later rest)

-- a test that is not true
pub not_is_false : (b : Bool) → (not b ≡ false) ↔ (b ≡ true)
not_is_false b = (λ e. not-false b e, λ e. not_from_true b e)
