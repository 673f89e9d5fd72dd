-- What is written of repetitions.
use Rattle.std.proofs.Common.{◌≡◌, ℕ, suc, ◌+◌, ◌<◌, ◌≤◌, List, [], ◌∷◌, ◌++◌, length, get_or, take, map, refl, sym, ap, subst, ◌∙◌, append_assoc, arith}
use Rattle.std.proofs.lemmas.List.{append-nil, take_more, take_all}
use Rattle.std.proofs.lemmas.Slice.{between_to_end}
use Rattle.std.specs.Prelude.{codes}
use Rattle.std.specs.List.{between}
use Rattle.std.specs.Fmt.{decimal}
use Rattle.rel_lang.specs.Text.{Mark, counted, element, repeated, behind, listed, show_place_numbers}
use Rattle.rel_show.specs.Written.{written}
use Rattle.rel_show.proofs.Writing.{written-append, written-element, writing}

-- What is written of a list from a number on: what is written of each element, one behind the other.
pub record IsByElement {X : Type 0} (whole : ℕ → List X → List ℕ) (one : X → List ℕ) : Type 0 where
  pub none : (n : ℕ) → whole n [] ≡ []
  pub more : (n : ℕ) (x : X) (xs : List X) → whole n (x ∷ xs) ≡ one x ++ whole (suc n) xs

pub whole_push : {X : Type 0} (whole : ℕ → List X → List ℕ) (one : X → List ℕ) → IsByElement whole one → (n : ℕ) (xs : List X) (x : X) → whole n (xs ++ x ∷ []) ≡ whole n xs ++ one x
whole_push whole one by n [] x = by.more n x [] ∙ ap (λ t. one x ++ t) (by.none (suc n)) ∙ append-nil (one x) ∙ sym (ap (λ t. t ++ one x) (by.none n))
whole_push whole one by n (y ∷ ys) x =
    by.more n y (ys ++ x ∷ []) ∙ ap (λ t. one y ++ t) (whole_push whole one by (suc n) ys x)
    ∙ sym (append_assoc (one y) (whole (suc n) ys) (one x)) ∙ ap (λ t. t ++ one x) (sym (by.more n y ys))

-- a loop's step, where the loop goes over a list that equals this one
pub whole_more : {X : Type 0} (whole : ℕ → List X → List ℕ) (one : X → List ℕ) → IsByElement whole one
    → (n : ℕ) (start before after : List ℕ) (xs ys : List X) (i : ℕ) (x : X) → ys ≡ xs → i < length ys → x ≡ get_or ys i x
    → before ≡ start ++ whole n (take i xs) → after ≡ before ++ one x → after ≡ start ++ whole n (take (i + 1) xs)
whole_more whole one by n start before after xs ys i x same h at was now =
    let inside : i < length xs = subst (λ zs. i < length zs) same h in
    let found : x ≡ get_or xs i x = subst (λ zs. x ≡ get_or zs i x) same at in
    now ∙ ap (λ t. t ++ one x) was ∙ append_assoc start (whole n (take i xs)) (one x)
    ∙ ap (λ t. start ++ t) (ap (λ y. whole n (take i xs) ++ one y) found ∙ sym (whole_push whole one by n (take i xs) (get_or xs i x)) ∙ ap (whole n) (sym (take_more xs i x inside)))

-- and its end
pub whole_all : {X : Type 0} (whole : ℕ → List X → List ℕ) (n : ℕ) (start now : List ℕ) (xs : List X) (i : ℕ) → length xs ≤ i
    → now ≡ start ++ whole n (take i xs) → now ≡ start ++ whole n xs
whole_all whole n start now xs i h was = was ∙ ap (λ ys. start ++ whole n ys) (take_all i xs h)

abbrev pub repeated_text : {X Y : Type 0} → (Y → List Mark) → (X → Y) → ℕ → List X → List ℕ
repeated_text f view n xs = written (repeated f n (map view xs))

pub repetition : {X Y : Type 0} (f : Y → List Mark) (view : X → Y) → IsByElement (repeated_text f view) (λ x. written (f (view x)))
repetition f view = record {
  none = λ n. refl;
  more = λ n x xs. written-append (element n (f (view x))) (repeated f (suc n) (map view xs))
      ∙ ap (λ t. t ++ written (repeated f (suc n) (map view xs))) (written-element n (f (view x)));
}

-- the first element, and those behind commas
written_listed : {X Y : Type 0} (f : Y → List Mark) (view : X → Y) (xs : List X) (x : X) → 0 < length xs → x ≡ get_or xs 0 x
    → written (listed f (map view xs)) ≡ written (f (view x)) ++ written (repeated (behind (codes ",") f) 1 (map view (between 1 (length xs) xs)))
written_listed f view [] x h is = absurd (omega arith)
written_listed f view (y ∷ ys) x h is =
    written-append (f (view y)) (repeated (behind (codes ",") f) 1 (map view ys))
    ∙ ap (λ z. written (f (view z)) ++ written (repeated (behind (codes ",") f) 1 (map view ys))) (sym is)
    ∙ ap (λ zs. written (f (view x)) ++ written (repeated (behind (codes ",") f) 1 (map view zs))) (sym (between_to_end (y ∷ ys) 1 (length (y ∷ ys)) (omega arith)))

pub listed_from : {X Y : Type 0} (f : Y → List Mark) (view : X → Y) (xs : List X) (x : X) (start now : List ℕ) → 0 < length xs → x ≡ get_or xs 0 x → now ≡ start ++ written (f (view x))
    → now ++ written (repeated (behind (codes ",") f) 1 (map view (between 1 (length xs) xs))) ≡ start ++ written (listed f (map view xs))
listed_from f view xs x start now some at was =
    let rest = written (repeated (behind (codes ",") f) 1 (map view (between 1 (length xs) xs))) in
    ap (λ t. t ++ rest) was ∙ append_assoc start (written (f (view x))) rest ∙ ap (λ t. start ++ t) (sym (written_listed f view xs x some at))

-- elements of which the same is written
pub same_repeated : {X : Type 0} (f g : X → List Mark) → ((x : X) → written (f x) ≡ written (g x)) → (xs : List X) (n m : ℕ) → written (repeated f n xs) ≡ written (repeated g m xs)
same_repeated f g same [] n m = refl
same_repeated f g same (x ∷ xs) n m =
    written-append (element n (f x)) (repeated f (suc n) xs)
    ∙ ap (λ t. t ++ written (repeated f (suc n) xs)) (written-element n (f x) ∙ same x ∙ sym (written-element m (g x)))
    ∙ ap (λ t. written (element m (g x)) ++ t) (same_repeated f g same xs (suc n) (suc m))
    ∙ sym (written-append (element m (g x)) (repeated g (suc m) xs))

numbers : (ns : List ℕ) (j k : ℕ) → written (repeated (λ n. counted n ∷ []) j (map (λ n. n) ns)) ≡ written (repeated (λ n. counted n ∷ []) k ns)
numbers [] j k = refl
numbers (n ∷ ns) j k = ap (λ t. decimal n ++ 32 ∷ t) (numbers ns (suc j) (suc k))

-- the numbers of a place
pub place_numbers : (ns : List ℕ) → written (repeated (λ n. counted n ∷ []) 1 (map (λ n. n) ns)) ≡ written (show_place_numbers ns)
place_numbers [] = refl
place_numbers (n ∷ ns) = ap (λ t. decimal n ++ 32 ∷ t) (numbers ns 2 1)

pub ruleset places = (writing, place_numbers)
