-- Two lists whose members have the same names, each found in the other by its name.
use Rattle.std.proofs.Common.{◌≡◌, ◌↔◌, List, [], ◌∷◌, map, Option, Some, refl, sym, subst, inl, inr}
use Rattle.std.specs.List.{AllByRecursion}
use Rattle.rel_lang.specs.Syntax.{Word}
use Rattle.rel_lang.specs.State.{find_named}
use Rattle.rel_lang.specs.Typed.{IsAmong, AreDistinct}
use Rattle.rel_types.proofs.Distinct.{true_from_same, apart_is_false}
use Rattle.rel_types.proofs.Equivalences.{iff_same, iff_back, iff_then, iff_both, iff_along}

pub found_here : {B : Type 0} (right : B → Word) (x : Word) (b : B) (bs : List B) → x ≡ right b → find_named right x (b ∷ bs) ≡ Some b
found_here right x b bs e = rw (true_from_same x (right b) e) refl

pub found_later : {B : Type 0} (right : B → Word) (x : Word) (b : B) (bs : List B) → ¬ (x ≡ right b) → find_named right x (b ∷ bs) ≡ find_named right x bs
found_later right x b bs differs = rw ((apart_is_false x (right b)).1 differs) refl

-- the lists are as long as each other, and their members at one place are related
abbrev pub Paired : {A B : Type 0} → (A → B → Type 0) → List A → List B → Type 0
Paired P [] [] = Unit {0}
Paired P (x ∷ xs) (y ∷ ys) = P x y × Paired P xs ys
Paired P _ _ = ⊥

turned : {A B : Type 0} (P : A → B → Type 0) (xs : List A) (ys : List B) → Paired P xs ys ↔ Paired (λ y x. P x y) ys xs
turned P [] [] = iff_same
turned P [] (y ∷ ys) = iff_same
turned P (x ∷ xs) [] = iff_same
turned P (x ∷ xs) (y ∷ ys) = iff_both iff_same (turned P xs ys)

passed : {A B : Type 0} (left : A → Word) (right : B → Word) (F : A → Option B → Type 0) (y : B) (ys : List B) (xs : List A) → ¬ (IsAmong (right y) (map left xs))
    → AllByRecursion (λ x. F x (find_named right (left x) (y ∷ ys))) xs ↔ AllByRecursion (λ x. F x (find_named right (left x) ys)) xs
passed left right F y ys [] absent = iff_same
passed left right F y ys (x ∷ xs) absent =
    iff_both (iff_along (F x) (find_named right (left x) (y ∷ ys)) (find_named right (left x) ys) (found_later right (left x) y ys (λ same. absent (inl (sym same)))))
    (passed left right F y ys xs (λ later. absent (inr later)))

looked_up : {A B : Type 0} (left : A → Word) (right : B → Word) (F : A → Option B → Type 0) (xs : List A) (ys : List B) → map left xs ≡ map right ys → AreDistinct (map left xs)
    → AllByRecursion (λ x. F x (find_named right (left x) ys)) xs ↔ Paired (λ x y. F x (Some y)) xs ys
looked_up left right F [] [] e distinct = iff_same
looked_up left right F [] (y ∷ ys) e distinct = absurd (cc)
looked_up left right F (x ∷ xs) [] e distinct = absurd (cc)
looked_up left right F (x ∷ xs) (y ∷ ys) e distinct =
    let here : left x ≡ right y = cc in
    let rest : map left xs ≡ map right ys = cc in
    iff_both (iff_along (F x) (find_named right (left x) (y ∷ ys)) (Some y) (found_here right (left x) y ys here))
    (iff_then (passed left right F y ys xs (subst (λ n. ¬ (IsAmong n (map left xs))) here distinct.0)) (looked_up left right F xs ys rest distinct.1))

paired_alike : {A B : Type 0} (left : A → Word) (right : B → Word) (H : A → Type 0) (P Q : A → B → Type 0)
    → ((x : A) (y : B) → left x ≡ right y → H x → P x y ↔ Q x y) → (xs : List A) (ys : List B) → map left xs ≡ map right ys → AllByRecursion H xs → Paired P xs ys ↔ Paired Q xs ys
paired_alike left right H P Q each [] [] e all = iff_same
paired_alike left right H P Q each [] (y ∷ ys) e all = iff_same
paired_alike left right H P Q each (x ∷ xs) [] e all = iff_same
paired_alike left right H P Q each (x ∷ xs) (y ∷ ys) e all =
    let here : left x ≡ right y = cc in
    let rest : map left xs ≡ map right ys = cc in
    iff_both (each x y here all.0) (paired_alike left right H P Q each xs ys rest all.1)

-- What is said of each member of one list with its partner, and of each of the other with its own, is one thing where it is so of two partners.
pub matched : {A B : Type 0} (left : A → Word) (right : B → Word) (F : A → Option B → Type 0) (G : B → Option A → Type 0) (H : A → Type 0)
    → ((x : A) (y : B) → left x ≡ right y → H x → F x (Some y) ↔ G y (Some x)) → (xs : List A) (ys : List B)
    → map left xs ≡ map right ys → AreDistinct (map left xs) → AllByRecursion H xs
    → AllByRecursion (λ x. F x (find_named right (left x) ys)) xs ↔ AllByRecursion (λ y. G y (find_named left (right y) xs)) ys
matched left right F G H each xs ys e distinct all =
    iff_then (looked_up left right F xs ys e distinct)
    (iff_then (paired_alike left right H (λ x y. F x (Some y)) (λ x y. G y (Some x)) each xs ys e all)
    (iff_then (turned (λ x y. G y (Some x)) xs ys) (iff_back (looked_up right left G ys xs (sym e) (subst AreDistinct e distinct)))))
