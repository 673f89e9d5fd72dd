-- Loops that read each element of a list.
use Rattle.std.proofs.Common.{◌≡◌, ℕ, ◌+◌, ◌<◌, ◌≤◌, suc, List, [], ◌∷◌, ◌++◌, map, length, get_or, drop, Option, Some, None, Result, Ok, Err, option_map, option_and_then, refl, sym, ap, ◌∙◌, append_assoc, append-nil, add-one, drop-cons}
use Rattle.std.proofs.Math.ListN.{drop_of_length-le}
use Rattle.rel_proofio.specs.Parts.{traverse}
use Rattle.rel_proofio.specs.ProofFile.{result_and_then, each}

drop_here : {X : Type 0} (xs : List X) (i : ℕ) (x : X) → i < length xs → x ≡ get_or xs i x → drop i xs ≡ x ∷ drop (i + 1) xs
drop_here xs i x h e =
    drop-cons xs i x h ∙ (ap (λ w. w ∷ drop (suc i) xs) (sym e) ∙ ap (λ k. x ∷ drop k xs) (sym (add-one i)))

-- ---- a value at each

-- the elements below i gave done
pub record IsReadTo {A B X : Type 0} (f : A → Option B) (v : X → A) (xs : List X) (i : ℕ) (done : List B) : Type 0 where
  pub rest : traverse f (map v xs) ≡ option_map (λ ys. done ++ ys) (traverse f (map v (drop i xs)))

traverse_here : {A B X : Type 0} (f : A → Option B) (v : X → A) (xs : List X) (i : ℕ) (x : X) → i < length xs → x ≡ get_or xs i x
    → traverse f (map v (drop i xs)) ≡ option_and_then (λ y. option_map (λ ys. y ∷ ys) (traverse f (map v (drop (i + 1) xs)))) (f (v x))
traverse_here f v xs i x h e = ap (λ l. traverse f (map v l)) (drop_here xs i x h e)

joined : {B : Type 0} (done : List B) (y : B) (t : Option (List B))
    → option_map (λ ys. done ++ ys) (option_map (λ ys. y ∷ ys) t) ≡ option_map (λ ys. (done ++ y ∷ []) ++ ys) t
joined done y None = refl
joined done y (Some ys) = ap Some (sym (append_assoc done (y ∷ []) ys))

whole : {B : Type 0} (t : Option (List B)) → t ≡ option_map (λ ys. [] ++ ys) t
whole None = refl
whole (Some ys) = refl

pub read_none : {A B X : Type 0} (f : A → Option B) (v : X → A) (xs : List X) → IsReadTo f v xs 0 []
read_none f v xs = record { rest = whole (traverse f (map v xs)) }

pub read_more : {A B X : Type 0} {f : A → Option B} {v : X → A} {xs : List X} {i : ℕ} {done : List B} (x : X) (y : B)
    → IsReadTo f v xs i done → i < length xs → x ≡ get_or xs i x → f (v x) ≡ Some y → IsReadTo f v xs (i + 1) (done ++ y ∷ [])
read_more {f = f} {v = v} {xs = xs} {i = i} {done = done} x y p h e s = record {
  rest = p.rest ∙ (ap (option_map (λ ys. done ++ ys)) (traverse_here f v xs i x h e
      ∙ ap (option_and_then (λ z. option_map (λ ys. z ∷ ys) (traverse f (map v (drop (i + 1) xs))))) s)
      ∙ joined done y (traverse f (map v (drop (i + 1) xs))));
}

pub read_fails : {A B X : Type 0} {f : A → Option B} {v : X → A} {xs : List X} {i : ℕ} {done : List B} (x : X)
    → IsReadTo f v xs i done → i < length xs → x ≡ get_or xs i x → f (v x) ≡ None → traverse f (map v xs) ≡ None
read_fails {f = f} {v = v} {xs = xs} {i = i} {done = done} x p h e s =
    p.rest ∙ ap (option_map (λ ys. done ++ ys)) (traverse_here f v xs i x h e
    ∙ ap (option_and_then (λ z. option_map (λ ys. z ∷ ys) (traverse f (map v (drop (i + 1) xs))))) s)

pub read_all : {A B X : Type 0} {f : A → Option B} {v : X → A} {xs : List X} {i : ℕ} {done : List B}
    → IsReadTo f v xs i done → length xs ≤ i → traverse f (map v xs) ≡ Some done
read_all {f = f} {v = v} {xs = xs} {i = i} {done = done} p h =
    p.rest ∙ (ap (λ l. option_map (λ ys. done ++ ys) (traverse f (map v l))) (drop_of_length-le xs h) ∙ ap Some (append-nil done))

-- ---- a value at each, or the first fault

-- the elements below i gave what those of done stand for
pub record IsTakenTo {A B X Y E : Type 0} (f : ℕ → A → Result B E) (v : X → A) (w : Y → B) (xs : List X) (i : ℕ) (done : List Y) : Type 0 where
  pub rest : each f 0 (map v xs) ≡ result_and_then (λ ys. Ok (map w done ++ ys)) (each f i (map v (drop i xs)))

each_here : {A B X E : Type 0} (f : ℕ → A → Result B E) (v : X → A) (xs : List X) (i : ℕ) (x : X) → i < length xs → x ≡ get_or xs i x
    → each f i (map v (drop i xs)) ≡ result_and_then (λ y. result_and_then (λ ys. Ok (y ∷ ys)) (each f (i + 1) (map v (drop (i + 1) xs)))) (f i (v x))
each_here f v xs i x h e =
    ap (λ l. each f i (map v l)) (drop_here xs i x h e)
    ∙ ap (λ k. result_and_then (λ y. result_and_then (λ ys. Ok (y ∷ ys)) (each f k (map v (drop (i + 1) xs)))) (f i (v x))) (sym (add-one i))

map_push : {B Y : Type 0} (w : Y → B) (done : List Y) (y : Y) → map w (done ++ y ∷ []) ≡ map w done ++ w y ∷ []
map_push w [] y = refl
map_push w (z ∷ done) y = ap (λ l. w z ∷ l) (map_push w done y)

results_joined : {B E : Type 0} (done : List B) (y : B) (r : Result (List B) E)
    → result_and_then (λ ys. Ok (done ++ ys)) (result_and_then (λ ys. Ok (y ∷ ys)) r) ≡ result_and_then (λ ys. Ok ((done ++ y ∷ []) ++ ys)) r
results_joined done y (Err e) = refl
results_joined done y (Ok ys) = ap Ok (sym (append_assoc done (y ∷ []) ys))

result_whole : {B E : Type 0} (r : Result (List B) E) → r ≡ result_and_then (λ ys. Ok ([] ++ ys)) r
result_whole (Err e) = refl
result_whole (Ok ys) = refl

pub taken_none : {A B X Y E : Type 0} (f : ℕ → A → Result B E) (v : X → A) (w : Y → B) (xs : List X) → IsTakenTo f v w xs 0 []
taken_none f v w xs = record { rest = result_whole (each f 0 (map v xs)) }

-- what the element at i gives, before those behind it
element_gives : {A B X Y E : Type 0} (f : ℕ → A → Result B E) (v : X → A) (w : Y → B) (xs : List X) (i : ℕ) (done : List Y) (x : X) (r : Result B E)
    → IsTakenTo f v w xs i done → i < length xs → x ≡ get_or xs i x → f i (v x) ≡ r
    → each f 0 (map v xs)
    ≡ result_and_then (λ ys. Ok (map w done ++ ys)) (result_and_then (λ y. result_and_then (λ ys. Ok (y ∷ ys)) (each f (i + 1) (map v (drop (i + 1) xs)))) r)
element_gives f v w xs i done x r p h e s =
    let later = each f (i + 1) (map v (drop (i + 1) xs)) in
    p.rest ∙ ap (result_and_then (λ ys. Ok (map w done ++ ys))) (each_here f v xs i x h e ∙ ap (result_and_then (λ y. result_and_then (λ ys. Ok (y ∷ ys)) later)) s)

pub taken_more : {A B X Y E : Type 0} {f : ℕ → A → Result B E} {v : X → A} {w : Y → B} {xs : List X} {i : ℕ} {done : List Y} (x : X) (y : Y)
    → IsTakenTo f v w xs i done → i < length xs → x ≡ get_or xs i x → f i (v x) ≡ Ok (w y) → IsTakenTo f v w xs (i + 1) (done ++ y ∷ [])
taken_more {f = f} {v = v} {w = w} {xs = xs} {i = i} {done = done} x y p h e s = record {
  rest = let later = each f (i + 1) (map v (drop (i + 1) xs)) in
      element_gives f v w xs i done x (Ok (w y)) p h e s
      ∙ (results_joined (map w done) (w y) later ∙ ap (λ l. result_and_then (λ ys. Ok (l ++ ys)) later) (sym (map_push w done y)));
}

pub taken_fails : {A B X Y E : Type 0} {f : ℕ → A → Result B E} {v : X → A} {w : Y → B} {xs : List X} {i : ℕ} {done : List Y} (x : X) (fault : E)
    → IsTakenTo f v w xs i done → i < length xs → x ≡ get_or xs i x → f i (v x) ≡ Err fault → each f 0 (map v xs) ≡ Err fault
taken_fails {f = f} {v = v} {w = w} {xs = xs} {i = i} {done = done} x fault p h e s = element_gives f v w xs i done x (Err fault) p h e s

pub taken_all : {A B X Y E : Type 0} {f : ℕ → A → Result B E} {v : X → A} {w : Y → B} {xs : List X} {i : ℕ} {done : List Y}
    → IsTakenTo f v w xs i done → length xs ≤ i → each f 0 (map v xs) ≡ Ok (map w done)
taken_all {f = f} {v = v} {w = w} {xs = xs} {i = i} {done = done} p h =
    p.rest ∙ (ap (λ l. result_and_then (λ ys. Ok (map w done ++ ys)) (each f i (map v l))) (drop_of_length-le xs h) ∙ ap Ok (append-nil (map w done)))
