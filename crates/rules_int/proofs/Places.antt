-- Where an atom's entry stands, and what becomes of the numbers when one is put.
use Rattle.std.proofs.Common.{◌≡◌, ℕ, zero, suc, ◌+◌, ◌<◌, ◌≤◌, ℤ, pos, Bool, true, false, not, ◌&&◌, ◌||◌, if◌then◌else◌, List, [], ◌∷◌, ◌++◌, map, length, get_or, set, take, take_all, drop, refl, sym, ap, subst, ◌∙◌, arith}
use Rattle.std.proofs.lemmas.List.{take_more, drop_more, drop_all, take-map, get_or-map, length-map}
use Rattle.rel_list.proofs.Sets.{and_both}
use Rattle.rel_logic.specs.Syntax.{Trm}
use Rattle.rel_logic.specs.Equal.{same_trm}
use Rattle.rel_logic.proofs.SameTrees.{same_trm_is}
use Rattle.rules_int.specs.Entries.{Entries, number_at, has_atom, are_distinct, IsPlace}

same : (a b : Trm) → same_trm a b ≡ true → a ≡ b
same a b e = (same_trm_is a b).0 e

itself : (a : Trm) → same_trm a a ≡ true
itself a = (same_trm_is a a).1 refl

clash : false ≡ true → ⊥
clash e = cc

-- atoms that are the same to one are not another's
other : (a b c : Trm) → same_trm a b ≡ false → same_trm a c ≡ true → same_trm c b ≡ false
other a b c e f = ap (λ x. same_trm x b) (sym (same a c f)) ∙ e

turned : (a b : Trm) → same_trm a b ≡ false → same_trm b a ≡ false
turned a b e = at (same_trm b a) refl
  where
    at : (x : Bool) → same_trm b a ≡ x → x ≡ false
    at true f = absurd (clash (sym e ∙ (ap (same_trm a) (same b a f) ∙ itself a)))
    at false f = refl

neither : (b c : Bool) → (b || c) ≡ false → (b ≡ false) × (c ≡ false)
neither true c e = cc
neither false c e = (refl, e)

-- ---- where it stands

pub has_push : (es : Entries) (e : Trm × ℤ) (a : Trm) → has_atom (es ++ e ∷ []) a ≡ has_atom es a || same_trm e.0 a
has_push [] e a = or_false (same_trm e.0 a)
  where
    or_false : (b : Bool) → (b || false) ≡ b
    or_false true = refl
    or_false false = refl
has_push (d ∷ es) e a = ap (λ b. same_trm d.0 a || b) (has_push es e a) ∙ or_assoc (same_trm d.0 a) (has_atom es a) (same_trm e.0 a)
  where
    or_assoc : (b c d : Bool) → (b || (c || d)) ≡ ((b || c) || d)
    or_assoc true c d = refl
    or_assoc false c d = refl

pub map_push : {X : Type 0} (f : X → Trm × ℤ) (ys : List X) (y : X) → map f (ys ++ y ∷ []) ≡ map f ys ++ f y ∷ []
map_push f [] y = refl
map_push f (x ∷ ys) y = ap (λ zs. f x ∷ zs) (map_push f ys y)

pub next_place : {X : Type 0} (f : X → Trm × ℤ) (xs : List X) (i : ℕ) (d : X) (a : Trm) → i < length xs → has_atom (take i (map f xs)) a ≡ false → same_trm (f (get_or xs i d)).0 a ≡ false
    → has_atom (take (i + 1) (map f xs)) a ≡ false
next_place f xs i d a within none isnt =
    ap (λ es. has_atom es a) (take-map f (i + 1) xs ∙ ap (map f) (take_more xs i d within) ∙ map_push f (take i xs) (get_or xs i d) ∙ ap (λ es. es ++ f (get_or xs i d) ∷ []) (sym (take-map f i xs)))
    ∙ has_push (take i (map f xs)) (f (get_or xs i d)) a ∙ (λ j. none j || isnt j)

pub within_items : {X : Type 0} (f : X → Trm × ℤ) (xs : List X) (a : Trm) (i : ℕ) → IsPlace (map f xs) a i → i < length xs
within_items f xs a i p = subst (λ n. i < n) (length-map xs f) p.within

pub found : {X : Type 0} (f : X → Trm × ℤ) (xs : List X) (i : ℕ) (d : X) (a : Trm) → i < length xs → has_atom (take i (map f xs)) a ≡ false → same_trm (f (get_or xs i d)).0 a ≡ true → IsPlace (map f xs) a i
found f xs i d a within none is = record {
  within = subst (λ n. i < n) (sym (length-map xs f)) within;
  none_before = none;
  here = ap (λ e. same_trm e.0 a) (get_or-map f xs i d (a, pos 0) within) ∙ is;
}

pub not_found : {X : Type 0} (f : X → Trm × ℤ) (xs : List X) (i : ℕ) (a : Trm) → length xs ≤ i → has_atom (take i (map f xs)) a ≡ false → has_atom (map f xs) a ≡ false
not_found f xs i a past none = subst (λ es. has_atom es a ≡ false) (take_all i (map f xs) (subst (λ n. n ≤ i) (sym (length-map xs f)) past)) none

before_first : (e : Trm × ℤ) (es : Entries) (a : Trm) (i : ℕ) → IsPlace (e ∷ es) a (suc i) → (same_trm e.0 a ≡ false) × IsPlace es a i
before_first e es a i p =
    let none = neither (same_trm e.0 a) (has_atom (take i es) a) p.none_before in
    let within = p.within in
    (none.0, record { within = omega (arith, within); none_before = none.1; here = p.here })

-- ---- the number there

pub number_found : (es : Entries) (a : Trm) (i : ℕ) → IsPlace es a i → number_at es a ≡ (get_or es i (a, pos 0)).1
number_found [] a i p = let within = p.within in absurd (omega (arith, within))
number_found (e ∷ es) a zero p = ap (λ b. if b then e.1 else number_at es a) p.here
number_found (e ∷ es) a (suc i) p = let b = before_first e es a i p in ap (λ b. if b then e.1 else number_at es a) b.0 ∙ number_found es a i b.1

-- ---- a number is put in its place

if_other : (b c : Bool) (x y z : ℤ) → (b ≡ true → c ≡ true → ⊥) → (if b then x else (if c then y else z)) ≡ (if c then y else (if b then x else z))
if_other true true x y z apart = absurd (apart refl refl)
if_other true false x y z apart = refl
if_other false c x y z apart = refl

if_gone : (b c : Bool) (x y z : ℤ) → (b ≡ false → c ≡ false) → (if b then x else z) ≡ (if b then x else (if c then y else z))
if_gone true c x y z gone = refl
if_gone false c x y z gone = ap (λ c. if c then y else z) (sym (gone refl))

pub put_found : (es : Entries) (a : Trm) (i : ℕ) (z : ℤ) → IsPlace es a i → (b : Trm) → number_at (set es i (a, z)) b ≡ (if same_trm a b then z else number_at es b)
put_found [] a i z p b = let within = p.within in absurd (omega (arith, within))
put_found (e ∷ es) a zero z p b = if_gone (same_trm a b) (same_trm e.0 b) z e.1 (number_at es b) (λ f. ap (λ x. same_trm x b) (same e.0 a p.here) ∙ f)
put_found (e ∷ es) a (suc i) z p b =
    let q = before_first e es a i p in
    ap (λ x. if same_trm e.0 b then e.1 else x) (put_found es a i z q.1 b)
    ∙ if_other (same_trm e.0 b) (same_trm a b) e.1 z (number_at es b) (λ h k. clash (sym q.0 ∙ (ap (same_trm e.0) (same a b k) ∙ h)))

has_set : (es : Entries) (a : Trm) (i : ℕ) (z : ℤ) → IsPlace es a i → (b : Trm) → has_atom (set es i (a, z)) b ≡ has_atom es b
has_set [] a i z p b = let within = p.within in absurd (omega (arith, within))
has_set (e ∷ es) a zero z p b = ap (λ x. same_trm x b || has_atom es b) (sym (same e.0 a p.here))
has_set (e ∷ es) a (suc i) z p b = ap (λ x. same_trm e.0 b || x) (has_set es a i z (before_first e es a i p).1 b)

pub distinct_found : (es : Entries) (a : Trm) (i : ℕ) (z : ℤ) → IsPlace es a i → are_distinct es ≡ true → are_distinct (set es i (a, z)) ≡ true
distinct_found [] a i z p d = d
distinct_found (e ∷ es) a zero z p d = ap (λ x. not (has_atom es x) && are_distinct es) (sym (same e.0 a p.here)) ∙ d
distinct_found (e ∷ es) a (suc i) z p d =
    let both = and_both (not (has_atom es e.0)) (are_distinct es) d in
    let q = (before_first e es a i p).1 in
    let first = ap not (has_set es a i z q e.0) ∙ both.0 in
    let later = distinct_found es a i z q both.1 in
    λ j. first j && later j

-- ---- a number is put at the end

pub put_push : (es : Entries) (a : Trm) (z : ℤ) → has_atom es a ≡ false → (b : Trm) → number_at (es ++ (a, z) ∷ []) b ≡ (if same_trm a b then z else number_at es b)
put_push [] a z none b = refl
put_push (e ∷ es) a z none b =
    let both = neither (same_trm e.0 a) (has_atom es a) none in
    ap (λ x. if same_trm e.0 b then e.1 else x) (put_push es a z both.1 b)
    ∙ if_other (same_trm e.0 b) (same_trm a b) e.1 z (number_at es b) (λ h k. clash (sym both.0 ∙ (ap (same_trm e.0) (same a b k) ∙ h)))

pub distinct_push : (es : Entries) (a : Trm) (z : ℤ) → has_atom es a ≡ false → are_distinct es ≡ true → are_distinct (es ++ (a, z) ∷ []) ≡ true
distinct_push [] a z none d = refl
distinct_push (e ∷ es) a z none d =
    let apart = neither (same_trm e.0 a) (has_atom es a) none in
    let both = and_both (not (has_atom es e.0)) (are_distinct es) d in
    let first = ap not (has_push es (a, z) e.0 ∙ (λ j. not_true (has_atom es e.0) both.0 j || turned e.0 a apart.0 j)) in
    let later = distinct_push es a z apart.1 both.1 in
    λ j. first j && later j
  where
    not_true : (b : Bool) → not b ≡ true → b ≡ false
    not_true true e = cc
    not_true false e = refl

-- after a push that may have failed
pub distinct_after : {X : Type 0} (f : X → Trm × ℤ) (b : Bool) (ys xs : List X) (y : X) → ys ≡ (if b then xs ++ y ∷ [] else xs) → has_atom (map f xs) (f y).0 ≡ false → are_distinct (map f xs) ≡ true → are_distinct (map f ys) ≡ true
distinct_after f true ys xs y e none d = ap (λ zs. are_distinct (map f zs)) e ∙ (ap are_distinct (map_push f xs y) ∙ distinct_push (map f xs) (f y).0 (f y).1 none d)
distinct_after f false ys xs y e none d = ap (λ zs. are_distinct (map f zs)) e ∙ d

pub put_after : {X : Type 0} (f : X → Trm × ℤ) (ys xs : List X) (y : X) → ys ≡ xs ++ y ∷ [] → has_atom (map f xs) (f y).0 ≡ false → (b : Trm) → number_at (map f ys) b ≡ (if same_trm (f y).0 b then (f y).1 else number_at (map f xs) b)
put_after f ys xs y e none b = ap (λ zs. number_at (map f zs) b) e ∙ (ap (λ es. number_at es b) (map_push f xs y) ∙ put_push (map f xs) (f y).0 (f y).1 none b)

-- ---- what a loop over entries has left

pub left_over : {X : Type 0} (f : X → Trm × ℤ) (xs : List X) (i : ℕ) (d : X) → i < length xs → drop i (map f xs) ≡ f (get_or xs i d) ∷ drop (i + 1) (map f xs)
left_over f xs i d within =
    drop_more (map f xs) i (f d) (subst (λ n. i < n) (sym (length-map xs f)) within) ∙ ap (λ e. e ∷ drop (i + 1) (map f xs)) (get_or-map f xs i d (f d) within)

pub nothing_left : {X : Type 0} (f : X → Trm × ℤ) (xs : List X) (i : ℕ) → length xs ≤ i → drop i (map f xs) ≡ []
nothing_left f xs i past = drop_all i (map f xs) (subst (λ n. n ≤ i) (sym (length-map xs f)) past)
