-- Terms found by the place of their name, in a list or under quantifiers.
use Rattle.std.proofs.Common.{◌≡◌, ℕ, zero, suc, ◌+◌, ◌<◌, ◌≤◌, pos, Bool, true, false, List, [], ◌∷◌, ◌++◌, map, Option, Some, None, length, get_or, take, option_map, slice_get, refl, sym, ap, subst, ◌∙◌, add-one, arith}
use Rattle.std.specs.Prelude.{◌||◌, if◌then◌else◌, bytes_eq}
use Rattle.std.proofs.lemmas.List.{take_more, take_all, length-take-le}
use Rattle.std.proofs.lemmas.Option.{slice_get_read}
use Rattle.std.proofs.lemmas.Slice.Eq.{bytes_eq-Decides}
use Rattle.rel_lang.specs.Syntax.{Word, Side, Left, Right, Decl}
use Rattle.rel_lang.specs.State.{find_named, position}
use Rattle.rel_flaws.specs.Entries.{find_entry, with_entry}
use Rattle.rel_logic.specs.Syntax.{ref_sort, Trm, var, bound, int, add, sub, mul, null, sel, sto, empty, one, cup, cap, less, img, of, link}
use Rattle.rel_encode.specs.Terms.{Store, term_named, lifted, member_declared}
use Rattle.rel_encode.specs.Relations.{sort_of_declared}
use Rattle.rel_encode.specs.Binders.{Binding, OfLeft, OfRight, OfBijection, scope_under, store_under, bijection_under}
use Rattle.rel_encode.specs.Places.{next, place_named, ArePlaces, place_or, term_at, Found, Inside, Outside, deeper, binds, is_bound, found_under, bijection_found, term_found}

-- ---- terms under quantifiers

pub lifted_none : (t : Trm) → lifted 0 t ≡ t
lifted_none (var n) = refl
lifted_none (bound n) = let e : n + 0 ≡ n = omega arith in ap bound e
lifted_none (int n) = refl
lifted_none (add a b) = λ i. add (lifted_none a i) (lifted_none b i)
lifted_none (sub a b) = λ i. sub (lifted_none a i) (lifted_none b i)
lifted_none (mul n a) = λ i. mul n (lifted_none a i)
lifted_none null = refl
lifted_none (sel m a) = λ i. sel (lifted_none m i) (lifted_none a i)
lifted_none (sto m a b) = λ i. sto (lifted_none m i) (lifted_none a i) (lifted_none b i)
lifted_none empty = refl
lifted_none (one a) = λ i. one (lifted_none a i)
lifted_none (cup g h) = λ i. cup (lifted_none g i) (lifted_none h i)
lifted_none (cap g h) = λ i. cap (lifted_none g i) (lifted_none h i)
lifted_none (less g h) = λ i. less (lifted_none g i) (lifted_none h i)
lifted_none (img m g) = λ i. img (lifted_none m i) (lifted_none g i)
lifted_none (of c g) = λ i. of c (lifted_none g i)
lifted_none (link p a b) = λ i. link (lifted_none p i) (lifted_none a i) (lifted_none b i)

module _ (d k : ℕ) (more : d + 1 ≡ k) where
  pub lifted_more : (t : Trm) → lifted 1 (lifted d t) ≡ lifted k t
  lifted_more (var n) = refl
  lifted_more (bound n) = let e : (n + d) + 1 ≡ n + k = omega (arith, more) in ap bound e
  lifted_more (int n) = refl
  lifted_more (add a b) = λ i. add (lifted_more a i) (lifted_more b i)
  lifted_more (sub a b) = λ i. sub (lifted_more a i) (lifted_more b i)
  lifted_more (mul n a) = λ i. mul n (lifted_more a i)
  lifted_more null = refl
  lifted_more (sel m a) = λ i. sel (lifted_more m i) (lifted_more a i)
  lifted_more (sto m a b) = λ i. sto (lifted_more m i) (lifted_more a i) (lifted_more b i)
  lifted_more empty = refl
  lifted_more (one a) = λ i. one (lifted_more a i)
  lifted_more (cup g h) = λ i. cup (lifted_more g i) (lifted_more h i)
  lifted_more (cap g h) = λ i. cap (lifted_more g i) (lifted_more h i)
  lifted_more (less g h) = λ i. less (lifted_more g i) (lifted_more h i)
  lifted_more (img m g) = λ i. img (lifted_more m i) (lifted_more g i)
  lifted_more (of c g) = λ i. of c (lifted_more g i)
  lifted_more (link p a b) = λ i. link (lifted_more p i) (lifted_more a i) (lifted_more b i)

  lifted_all_more : (ts : List Trm) → map (lifted 1) (map (lifted d) ts) ≡ map (lifted k) ts
  lifted_all_more [] = refl
  lifted_all_more (t ∷ ts) = λ i. lifted_more t i ∷ lifted_all_more ts i

lifted_all_none : (ts : List Trm) → map (lifted 0) ts ≡ ts
lifted_all_none [] = refl
lifted_all_none (t ∷ ts) = λ i. lifted_none t i ∷ lifted_all_none ts i

-- ---- the term of a name

pub named_lifted : {A : Type 0} (name : A → Word) (x : Word) (k : ℕ) (xs : List A) (ts : List Trm)
    → term_named name x xs (map (lifted k) ts) ≡ lifted k (term_named name x xs ts)
named_lifted name x k [] ts = refl
named_lifted name x k (a ∷ xs) [] = refl
named_lifted name x k (a ∷ xs) (t ∷ ts) =
    elim (bytes_eq x (name a)) as (λ b. (if b then lifted k t else term_named name x xs (map (lifted k) ts)) ≡ lifted k (if b then t else term_named name x xs ts)) [
      | true ↦ refl
      | false ↦ named_lifted name x k xs ts
    ]

nothing_there : (o : Option ℕ) → int (pos 0) ≡ term_at o []
nothing_there None = refl
nothing_there (Some k) = refl

one_further : (o : Option ℕ) (t : Trm) (ts : List Trm) → term_at o ts ≡ term_at (next o) (t ∷ ts)
one_further None t ts = refl
one_further (Some k) t ts = let e : suc k ≡ k + 1 = omega arith in ap (λ n. get_or (t ∷ ts) n (int (pos 0))) e

pub named_at : {A : Type 0} (name : A → Word) (x : Word) (xs : List A) (ts : List Trm) → term_named name x xs ts ≡ term_at (place_named name x xs) ts
named_at name x [] ts = refl
named_at name x (a ∷ xs) [] = nothing_there (place_named name x (a ∷ xs))
named_at name x (a ∷ xs) (t ∷ ts) =
    elim (bytes_eq x (name a)) as (λ b. (if b then t else term_named name x xs ts) ≡ term_at (if b then Some 0 else next (place_named name x xs)) (t ∷ ts)) [
      | true ↦ refl
      | false ↦ named_at name x xs ts ∙ one_further (place_named name x xs) t ts
    ]

-- ---- under quantifiers

lifted_found : (f : Found) (t : Trm) → lifted 1 (term_found f t) ≡ term_found (deeper f) t
lifted_found (Inside k) t = refl
lifted_found (Outside d) t = lifted_more d (d + 1) refl t

one_deeper : (s : Side) (bs : List Binding) (x : Word) (sc : List Decl) (st : Store) (u : Trm)
    → term_named (λ d. d.name) x (scope_under s bs sc) (store_under s bs st).vars ≡ term_found (found_under s bs x) u
    → term_named (λ d. d.name) x (scope_under s bs sc) (map (lifted 1) (store_under s bs st).vars) ≡ term_found (deeper (found_under s bs x)) u
one_deeper s bs x sc st u h =
    named_lifted (λ d. d.name) x 1 (scope_under s bs sc) (store_under s bs st).vars ∙ ap (lifted 1) h ∙ lifted_found (found_under s bs x) u

bound_here : (s : Side) (bs : List Binding) (x y : Word) (sc : List Decl) (st : Store) (u : Trm)
    → term_named (λ d. d.name) x (scope_under s bs sc) (map (lifted 1) (store_under s bs st).vars) ≡ term_found (deeper (found_under s bs x)) u
    → (if bytes_eq x y then bound 0 else term_named (λ d. d.name) x (scope_under s bs sc) (map (lifted 1) (store_under s bs st).vars))
    ≡ term_found (if bytes_eq x y then Inside 0 else deeper (found_under s bs x)) u
bound_here s bs x y sc st u h =
    elim (bytes_eq x y) as (λ b. (if b then bound 0 else term_named (λ d. d.name) x (scope_under s bs sc) (map (lifted 1) (store_under s bs st).vars))
    ≡ term_found (if b then Inside 0 else deeper (found_under s bs x)) u) [
      | true ↦ refl
      | false ↦ h
    ]

variable_step : (s : Side) (b : Binding) (bs : List Binding) (x : Word) (sc : List Decl) (st : Store) (u : Trm)
    → term_named (λ d. d.name) x (scope_under s bs sc) (map (lifted 1) (store_under s bs st).vars) ≡ term_found (deeper (found_under s bs x)) u
    → term_named (λ d. d.name) x (scope_under s (b ∷ bs) sc) (store_under s (b ∷ bs) st).vars ≡ term_found (found_under s (b ∷ bs) x) u
variable_step Left (OfLeft y c) bs x sc st u h = bound_here Left bs x y sc st u h
variable_step Left (OfRight y c) bs x sc st u h = h
variable_step Left OfBijection bs x sc st u h = h
variable_step Right (OfLeft y c) bs x sc st u h = h
variable_step Right (OfRight y c) bs x sc st u h = bound_here Right bs x y sc st u h
variable_step Right OfBijection bs x sc st u h = h

pub variable_under : (s : Side) (bs : List Binding) (x : Word) (sc : List Decl) (st : Store)
    → term_named (λ d. d.name) x (scope_under s bs sc) (store_under s bs st).vars ≡ term_found (found_under s bs x) (term_named (λ d. d.name) x sc st.vars)
variable_under s [] x sc st = sym (lifted_none (term_named (λ d. d.name) x sc st.vars))
variable_under s (b ∷ bs) x sc st =
    let u = term_named (λ d. d.name) x sc st.vars in
    variable_step s b bs x sc st u (one_deeper s bs x sc st u (variable_under s bs x sc st))

next_length : (bs : List Binding) (b : Binding) → length bs + 1 ≡ length (b ∷ bs)
next_length bs b = omega arith

maps_step : (s : Side) (b : Binding) (bs : List Binding) (st : Store) → (store_under s (b ∷ bs) st).maps ≡ map (lifted 1) (store_under s bs st).maps
maps_step Left (OfLeft y c) bs st = refl
maps_step Left (OfRight y c) bs st = refl
maps_step Left OfBijection bs st = refl
maps_step Right (OfLeft y c) bs st = refl
maps_step Right (OfRight y c) bs st = refl
maps_step Right OfBijection bs st = refl

pub maps_under : (s : Side) (bs : List Binding) (st : Store) → (store_under s bs st).maps ≡ map (lifted (length bs)) st.maps
maps_under s [] st = sym (lifted_all_none st.maps)
maps_under s (b ∷ bs) st =
    maps_step s b bs st ∙ ap (map (lifted 1)) (maps_under s bs st) ∙ lifted_all_more (length bs) (length (b ∷ bs)) (next_length bs b) st.maps

alloc_step : (s : Side) (b : Binding) (bs : List Binding) (st : Store) → (store_under s (b ∷ bs) st).alloc ≡ lifted 1 (store_under s bs st).alloc
alloc_step Left (OfLeft y c) bs st = refl
alloc_step Left (OfRight y c) bs st = refl
alloc_step Left OfBijection bs st = refl
alloc_step Right (OfLeft y c) bs st = refl
alloc_step Right (OfRight y c) bs st = refl
alloc_step Right OfBijection bs st = refl

pub alloc_under : (s : Side) (bs : List Binding) (st : Store) → (store_under s bs st).alloc ≡ lifted (length bs) st.alloc
alloc_under s [] st = sym (lifted_none st.alloc)
alloc_under s (b ∷ bs) st =
    alloc_step s b bs st ∙ ap (lifted 1) (alloc_under s bs st) ∙ lifted_more (length bs) (length (b ∷ bs)) (next_length bs b) st.alloc

-- the map of a field
pub field_under : {A : Type 0} (name : A → Word) (f : Word) (xs : List A) (s : Side) (bs : List Binding) (st : Store)
    → term_named name f xs (store_under s bs st).maps ≡ lifted (length bs) (term_named name f xs st.maps)
field_under name f xs s bs st = ap (term_named name f xs) (maps_under s bs st) ∙ named_lifted name f (length bs) xs st.maps

pub bijection_is : (bs : List Binding) (p : Trm) → bijection_under bs p ≡ term_found (bijection_found bs) p
bijection_is [] p = sym (lifted_none p)
bijection_is (OfBijection ∷ bs) p = refl
bijection_is (OfLeft x c ∷ bs) p = ap (lifted 1) (bijection_is bs p) ∙ lifted_found (bijection_found bs) p
bijection_is (OfRight x c ∷ bs) p = ap (lifted 1) (bijection_is bs p) ∙ lifted_found (bijection_found bs) p

-- ---- places in a list

pub place_in_map : {A B : Type 0} (name : B → Word) (f : A → B) (x : Word) (xs : List A) → place_named name x (map f xs) ≡ place_named (λ a. name (f a)) x xs
place_in_map name f x [] = refl
place_in_map name f x (a ∷ xs) = ap (λ o. if bytes_eq x (name (f a)) then Some 0 else next o) (place_in_map name f x xs)

-- below the list's length, where there is one
abbrev pub IsPlace : Option ℕ → ℕ → Type 0
IsPlace None n = Unit {0}
IsPlace (Some k) n = k < n

next_is_place : (o : Option ℕ) (n : ℕ) → IsPlace o n → IsPlace (next o) (suc n)
next_is_place None n h = tt
next_is_place (Some k) n h = omega (arith, h)

place_is_place : {A : Type 0} (name : A → Word) (x : Word) (xs : List A) → IsPlace (place_named name x xs) (length xs)
place_is_place name x [] = tt
place_is_place name x (a ∷ xs) =
    elim (bytes_eq x (name a)) as (λ b. IsPlace (if b then Some 0 else next (place_named name x xs)) (suc (length xs))) [
      | true ↦ omega arith
      | false ↦ next_is_place (place_named name x xs) (length xs) (place_is_place name x xs)
    ]

pub place_within : {A : Type 0} (name : A → Word) (x : Word) (xs : List A) (k : ℕ) → Some k ≡ place_named name x xs → k < length xs
place_within name x xs k e = subst (λ o. IsPlace o (length xs)) (sym e) (place_is_place name x xs)

abbrev pub item_at : {A : Type 0} → Option ℕ → List A → Option A
item_at None xs = None
item_at (Some k) xs = slice_get xs k

item_further : {A : Type 0} (o : Option ℕ) (a : A) (xs : List A) → item_at o xs ≡ item_at (next o) (a ∷ xs)
item_further None a xs = refl
item_further (Some k) a xs = let e : suc k ≡ k + 1 = omega arith in ap (λ n. slice_get (a ∷ xs) n) e

found_at : {A : Type 0} (name : A → Word) (x : Word) (xs : List A) → find_named name x xs ≡ item_at (place_named name x xs) xs
found_at name x [] = refl
found_at name x (a ∷ xs) =
    elim (bytes_eq x (name a)) as (λ b. (if b then Some a else find_named name x xs) ≡ item_at (if b then Some 0 else next (place_named name x xs)) (a ∷ xs)) [
      | true ↦ refl
      | false ↦ found_at name x xs ∙ item_further (place_named name x xs) a xs
    ]

pub found_none : {A : Type 0} (name : A → Word) (x : Word) (xs : List A) → None ≡ place_named name x xs → None ≡ find_named name x xs
found_none name x xs e = sym (found_at name x xs ∙ ap (λ o. item_at o xs) (sym e))

pub found_some : {A : Type 0} (name : A → Word) (x : Word) (xs : List A) (k : ℕ) (a : A) → Some k ≡ place_named name x xs → a ≡ get_or xs k a
    → Some a ≡ find_named name x xs
found_some name x xs k a e at =
    sym (found_at name x xs ∙ ap (λ o. item_at o xs) (sym e) ∙ slice_get_read xs (length xs) k a refl (place_within name x xs k e) at)

pub found_in_map : {A B : Type 0} (name : B → Word) (f : A → B) (x : Word) (xs : List A)
    → find_named name x (map f xs) ≡ option_map f (find_named (λ a. name (f a)) x xs)
found_in_map name f x [] = refl
found_in_map name f x (a ∷ xs) =
    elim (bytes_eq x (name (f a))) as (λ b. (if b then Some (f a) else find_named name x (map f xs)) ≡ option_map f (if b then Some a else find_named (λ c. name (f c)) x xs)) [
      | true ↦ refl
      | false ↦ found_in_map name f x xs
    ]

one_later : (o : Option ℕ) (n : ℕ) → suc (place_or o n) ≡ place_or (next o) (suc n)
one_later None n = refl
one_later (Some k) n = omega arith

pub position_is : (x : Word) (ys : List Word) → position x ys ≡ place_or (place_named (λ y. y) x ys) (length ys)
position_is x [] = refl
position_is x (y ∷ ys) =
    elim (bytes_eq x y) as (λ b. (if b then 0 else suc (position x ys)) ≡ place_or (if b then Some 0 else next (place_named (λ z. z) x ys)) (suc (length ys))) [
      | true ↦ refl
      | false ↦ ap suc (position_is x ys) ∙ one_later (place_named (λ z. z) x ys) (length ys)
    ]

-- ---- an index of places

abbrev pub or_else : {A : Type 0} → Option A → Option A → Option A
or_else None o = o
or_else (Some a) o = Some a

or_nothing : {A : Type 0} (o : Option A) → or_else o None ≡ o
or_nothing None = refl
or_nothing (Some a) = refl

abbrev pub given : {V : Type 0} → Word → Word → V → Option V
given x y v = if bytes_eq x y then Some v else None

entry_further : {V : Type 0} (x y : Word) (v : V) (e : Word × V) (es : List (Word × V)) → find_entry x (with_entry es y v) ≡ or_else (find_entry x es) (given x y v)
    → find_entry x (e ∷ with_entry es y v) ≡ or_else (find_entry x (e ∷ es)) (given x y v)
entry_further x y v e es h =
    elim (bytes_eq x e.0) as (λ b. (if b then Some e.1 else find_entry x (with_entry es y v)) ≡ or_else (if b then Some e.1 else find_entry x es) (given x y v)) [
      | true ↦ refl
      | false ↦ h
    ]

entry_there : {V : Type 0} (x y : Word) (v : V) (e : Word × V) (es : List (Word × V)) → y ≡ e.0
    → find_entry x (e ∷ es) ≡ or_else (find_entry x (e ∷ es)) (given x y v)
entry_there x y v e es same =
    (elim (bytes_eq x e.0) as (λ b. bytes_eq x e.0 ≡ b → (if b then Some e.1 else find_entry x es) ≡ or_else (if b then Some e.1 else find_entry x es) (given x y v)) [
      | true ↦ λ h. refl
      | false ↦ λ h. sym (ap (λ c. or_else (find_entry x es) (if c then Some v else None)) (ap (bytes_eq x) same ∙ h) ∙ or_nothing (find_entry x es))
    ]) refl

pub found_with : {V : Type 0} (x y : Word) (v : V) (es : List (Word × V)) → find_entry x (with_entry es y v) ≡ or_else (find_entry x es) (given x y v)
found_with x y v [] = refl
found_with x y v (e ∷ es) =
    (elim (bytes_eq y e.0) as (λ b. bytes_eq y e.0 ≡ b → find_entry x (if b then e ∷ es else e ∷ with_entry es y v) ≡ or_else (find_entry x (e ∷ es)) (given x y v)) [
      | true ↦ λ same. entry_there x y v e es ((bytes_eq-Decides y e.0).0 same)
      | false ↦ λ differs. entry_further x y v e es (found_with x y v es)
    ]) refl

placed_next : (o : Option ℕ) (b : Bool) (n : ℕ) → next (or_else o (if b then Some n else None)) ≡ or_else (next o) (if b then Some (suc n) else None)
placed_next None true n = let e : n + 1 ≡ suc n = omega arith in ap Some e
placed_next None false n = refl
placed_next (Some k) b n = refl

placed_last : {A : Type 0} (name : A → Word) (x : Word) (xs : List A) (a : A)
    → place_named name x (xs ++ a ∷ []) ≡ or_else (place_named name x xs) (if bytes_eq x (name a) then Some (length xs) else None)
placed_last name x [] a = refl
placed_last name x (c ∷ xs) a =
    elim (bytes_eq x (name c)) as (λ b. (if b then Some 0 else next (place_named name x (xs ++ a ∷ [])))
    ≡ or_else (if b then Some 0 else next (place_named name x xs)) (if bytes_eq x (name a) then Some (suc (length xs)) else None)) [
      | true ↦ refl
      | false ↦ ap next (placed_last name x xs a) ∙ placed_next (place_named name x xs) (bytes_eq x (name a)) (length xs)
    ]

-- one step of making an index
pub one_placed : {A : Type 0} (name : A → Word) (xs : List A) (i : ℕ) (a : A) (es : List (Word × ℕ)) → i < length xs → a ≡ get_or xs i a
    → ArePlaces name (take i xs) es → ArePlaces name (take (i + 1) xs) (with_entry es (name a) i)
one_placed name xs i a es h at before x =
    found_with x (name a) i es
    ∙ ap (λ o. or_else o (if bytes_eq x (name a) then Some i else None)) (before x)
    ∙ ap (λ n. or_else (place_named name x (take i xs)) (if bytes_eq x (name a) then Some n else None)) (sym (length-take-le i xs (omega (arith, h))))
    ∙ sym (placed_last name x (take i xs) a)
    ∙ ap (λ l. place_named name x l) (sym (take_more xs i a h ∙ ap (λ b. take i xs ++ b ∷ []) (sym at)))

pub all_placed : {A : Type 0} (name : A → Word) (xs : List A) (i : ℕ) (es : List (Word × ℕ)) → length xs ≤ i → ArePlaces name (take i xs) es → ArePlaces name xs es
all_placed name xs i es e before = subst (λ l. ArePlaces name l es) (take_all i xs e) before

-- ---- the sort of a variable

pub sort_under : (s : Side) (bs : List Binding) (x : Word) (sc : List Decl)
    → sort_of_declared (find_named (λ d. d.name) x (scope_under s bs sc)) ≡ (if is_bound s bs x then ref_sort else sort_of_declared (find_named (λ d. d.name) x sc))
sort_under s [] x sc = refl
sort_under s (b ∷ bs) x sc = sort_step s b bs x sc (sort_under s bs x sc)
  where
    here : (s : Side) (bs : List Binding) (x y c : Word) (sc : List Decl)
        → sort_of_declared (find_named (λ d. d.name) x (scope_under s bs sc)) ≡ (if is_bound s bs x then ref_sort else sort_of_declared (find_named (λ d. d.name) x sc))
        → sort_of_declared (if bytes_eq x y then Some (member_declared y c) else find_named (λ d. d.name) x (scope_under s bs sc))
        ≡ (if bytes_eq x y || is_bound s bs x then ref_sort else sort_of_declared (find_named (λ d. d.name) x sc))
    here s bs x y c sc h =
        elim (bytes_eq x y) as (λ b. sort_of_declared (if b then Some (member_declared y c) else find_named (λ d. d.name) x (scope_under s bs sc))
        ≡ (if b || is_bound s bs x then ref_sort else sort_of_declared (find_named (λ d. d.name) x sc))) [
          | true ↦ refl
          | false ↦ h
        ]

    sort_step : (s : Side) (b : Binding) (bs : List Binding) (x : Word) (sc : List Decl)
        → sort_of_declared (find_named (λ d. d.name) x (scope_under s bs sc)) ≡ (if is_bound s bs x then ref_sort else sort_of_declared (find_named (λ d. d.name) x sc))
        → sort_of_declared (find_named (λ d. d.name) x (scope_under s (b ∷ bs) sc))
        ≡ (if is_bound s (b ∷ bs) x then ref_sort else sort_of_declared (find_named (λ d. d.name) x sc))
    sort_step Left (OfLeft y c) bs x sc h = here Left bs x y c sc h
    sort_step Left (OfRight y c) bs x sc h = h
    sort_step Left OfBijection bs x sc h = h
    sort_step Right (OfLeft y c) bs x sc h = h
    sort_step Right (OfRight y c) bs x sc h = here Right bs x y c sc h
    sort_step Right OfBijection bs x sc h = h
