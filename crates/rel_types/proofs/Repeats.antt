-- Which names are among others, and which are declared again.
use Rattle.std.proofs.Common.{◌≡◌, ℕ, ◌<◌, ◌+◌, Bool, true, false, ◌||◌, if◌then◌else◌, List, [], ◌∷◌, ◌++◌, map, take, get_or, length, Some, refl, sym, ap, ap₂, ◌∙◌, append_assoc, subst}
use Rattle.std.specs.Prelude.{bytes_eq, is_some}
use Rattle.std.proofs.lemmas.Slice.Eq.{bytes_eq-Decides}
use Rattle.std.proofs.lemmas.List.{take_more, map-append}
use Rattle.rel_lang.specs.Syntax.{Word}
use Rattle.rel_lang.specs.State.{Scope, find_variable}
use Rattle.rel_lang.specs.Typed.{names_of}
use Rattle.rel_lang.specs.View.{decl_of}
use Rattle.rel_lang.specs.declared.bundle.Decl.{Decl}
use Rattle.rel_flaws.specs.Inference.{is_among, is_in_scope}
use Rattle.rel_types.specs.Items.{repeats, declared_names}
use Rattle.rel_flaws.specs.Entries.{with_entry}
use Rattle.rel_types.specs.Lookups.{SameLookups, SameNames, names_in}
use Rattle.rel_types.proofs.Lookups.{in_same}

-- ---- disjunctions

pub or_assoc : (a b c : Bool) → ((a || b) || c) ≡ (a || (b || c))
or_assoc true b c = refl
or_assoc false b c = refl

pub or_false : (a : Bool) → (a || false) ≡ a
or_false true = refl
or_false false = refl

or_twice : (a b : Bool) → (a || (b || a)) ≡ (b || a)
or_twice true true = refl
or_twice true false = refl
or_twice false true = refl
or_twice false false = refl

or_swapped : (a b c : Bool) → (a || (b || c)) ≡ (b || (a || c))
or_swapped true true c = refl
or_swapped true false c = refl
or_swapped false b c = refl

-- ---- names

pub among_both : (x : Word) (xs ys : List Word) → is_among x (xs ++ ys) ≡ (is_among x xs || is_among x ys)
among_both x [] ys = refl
among_both x (y ∷ xs) ys = ap (λ b. bytes_eq x y || b) (among_both x xs ys) ∙ sym (or_assoc (bytes_eq x y) (is_among x xs) (is_among x ys))

pub same_names_after : (xs ys xs' ys' : List Word) → SameNames xs xs' → SameNames ys ys' → SameNames (xs ++ ys) (xs' ++ ys')
same_names_after xs ys xs' ys' h k x = among_both x xs ys ∙ ap₂ (λ a b. a || b) (h x) (k x) ∙ sym (among_both x xs' ys')

-- the names of an index with one more
pub names_with : {V : Type 0} (es : List (Word × V)) (y : Word) (v : V) → SameNames (names_in (with_entry es y v)) (y ∷ names_in es)
names_with [] y v x = refl
names_with (e ∷ es) y v x =
    (elim (bytes_eq y e.0) as (λ b. bytes_eq y e.0 ≡ b → is_among x (names_in (if b then e ∷ es else e ∷ with_entry es y v)) ≡ (bytes_eq x y || (bytes_eq x e.0 || is_among x (names_in es)))) [
      | true ↦ λ same. there ((bytes_eq-Decides y e.0).0 same)
      | false ↦ λ differs. ap (λ b. bytes_eq x e.0 || b) (names_with es y v x) ∙ or_swapped (bytes_eq x e.0) (bytes_eq x y) (is_among x (names_in es))
    ]) refl
  where
    doubled : (a b : Bool) → (a || b) ≡ (a || (a || b))
    doubled true b = refl
    doubled false b = refl

    there : y ≡ e.0 → (bytes_eq x e.0 || is_among x (names_in es)) ≡ (bytes_eq x y || (bytes_eq x e.0 || is_among x (names_in es)))
    there same = doubled (bytes_eq x e.0) (is_among x (names_in es)) ∙ ap (λ z. bytes_eq x z || (bytes_eq x e.0 || is_among x (names_in es))) (sym same)

-- what is in scope is what it names
pub named_in : (sc : Scope) (x : Word) → is_in_scope x sc ≡ is_among x (names_of sc)
named_in [] x = refl
named_in (v ∷ sc) x =
    elim (bytes_eq x v.name) as (λ b. is_some (if b then Some v else find_variable x sc) ≡ (b || is_among x (names_of sc))) [
      | true ↦ refl
      | false ↦ named_in sc x
    ]

pub same_names_of : (sc sd : Scope) → SameLookups sc sd → SameNames (names_of sc) (names_of sd)
same_names_of sc sd h x = sym (named_in sc x) ∙ in_same sc sd h x ∙ named_in sd x

-- ---- names that are declared again

pub repeats_same : (s t : List Word) → SameNames s t → (xs : List Word) → repeats s xs ≡ repeats t xs
repeats_same s t h [] = refl
repeats_same s t h (x ∷ xs) = ap₂ (λ a b. a || b) (h x) (repeats_same (x ∷ s) (x ∷ t) (λ y. ap (λ b. bytes_eq y x || b) (h y)) xs)

moved : (y x : Word) (xs s : List Word) → is_among y (xs ++ x ∷ s) ≡ is_among y ((x ∷ xs) ++ s)
moved y x xs s =
    among_both y xs (x ∷ s) ∙ or_swapped (is_among y xs) (bytes_eq y x) (is_among y s) ∙ ap (λ b. bytes_eq y x || b) (sym (among_both y xs s))

-- the names of one list, then those of another
pub repeats_both : (s xs ys : List Word) → repeats s (xs ++ ys) ≡ (repeats s xs || repeats (xs ++ s) ys)
repeats_both s [] ys = refl
repeats_both s (x ∷ xs) ys =
    ap (λ b. is_among x s || b) (repeats_both (x ∷ s) xs ys ∙ ap (λ b. repeats (x ∷ s) xs || b) (repeats_same (xs ++ x ∷ s) ((x ∷ xs) ++ s) (λ y. moved y x xs s) ys))
    ∙ sym (or_assoc (is_among x s) (repeats (x ∷ s) xs) (repeats ((x ∷ xs) ++ s) ys))

-- one more name
pub repeats_more : (s xs : List Word) (y : Word) → repeats s (xs ++ y ∷ []) ≡ (repeats s xs || is_among y (xs ++ s))
repeats_more s xs y = repeats_both s xs (y ∷ []) ∙ ap (λ b. repeats s xs || b) (or_false (is_among y (xs ++ s)))

-- the names of so many declarations, and of the next
pub names_more : (ds : List Decl) (i : ℕ) (d : Decl) → i < length ds → d ≡ get_or ds i d
    → declared_names (map decl_of (take (i + 1) ds)) ≡ declared_names (map decl_of (take i ds)) ++ d.name ∷ []
names_more ds i d h is =
    ap (λ l. declared_names (map decl_of l)) (take_more ds i d h ∙ ap (λ a. take i ds ++ a ∷ []) (sym is))
    ∙ ap declared_names (map-append decl_of (take i ds) (d ∷ [])) ∙ map-append _ (map decl_of (take i ds)) (decl_of d ∷ [])

-- what a loop over declarations knows after so many
pub record AreGoneOver (before first own : List Word) (found : Bool) (ds : List Decl) (i : ℕ) : Type 0 where
  pub names : SameNames own (declared_names (map decl_of (take i ds)) ++ first)
  pub repeated : found ≡ repeats (first ++ before) (declared_names (map decl_of (take i ds)))

behind : (y x : Word) (xs s : List Word) → is_among y ((xs ++ x ∷ []) ++ s) ≡ (bytes_eq y x || is_among y (xs ++ s))
behind y x xs s = ap (is_among y) (append_assoc xs (x ∷ []) s) ∙ moved y x xs s

pub gone_more : (before first own own' : List Word) (repeated : Bool) (ds : List Decl) (i : ℕ) (d : Decl) → i < length ds → d ≡ get_or ds i d
    → AreGoneOver before first own repeated ds i → SameNames own' (d.name ∷ own)
    → AreGoneOver before first own' (repeated || (is_among d.name own || is_among d.name before)) ds (i + 1)
gone_more before first own own' repeated ds i d h is gone more =
    let xs : List Word = declared_names (map decl_of (take i ds)) in
    let next : declared_names (map decl_of (take (i + 1) ds)) ≡ xs ++ d.name ∷ [] = names_more ds i d h is in
    record {
      names = λ x. more x ∙ ap (λ b. bytes_eq x d.name || b) (gone.names x) ∙ sym (behind x d.name xs first) ∙ ap (λ l. is_among x (l ++ first)) (sym next);
      repeated =
          ap₂ (λ a b. a || (b || is_among d.name before)) gone.repeated (gone.names d.name)
          ∙ ap (λ b. repeats (first ++ before) xs || b) (sym (among_both d.name (xs ++ first) before) ∙ ap (is_among d.name) (append_assoc xs first before))
          ∙ sym (repeats_more (first ++ before) xs d.name) ∙ ap (repeats (first ++ before)) (sym next);
    }

-- one more, by what was found of its name
pub gone_one_more : (before first own own' : List Word) (repeated : Bool) (ds : List Decl) (i : ℕ) (d : Decl) (name : Word) (was there : Bool) → i < length ds → d ≡ get_or ds i d
    → name ≡ d.name → was ≡ is_among name own → there ≡ is_among name before
    → AreGoneOver before first own repeated ds i → SameNames own' (name ∷ own)
    → AreGoneOver before first own' (repeated || (was || there)) ds (i + 1)
gone_one_more before first own own' repeated ds i d name was there h is e k l gone more =
    subst (λ r. AreGoneOver before first own' r ds (i + 1))
    (sym (ap₂ (λ a b. repeated || (a || b)) (k ∙ ap (λ n. is_among n own) e) (l ∙ ap (λ n. is_among n before) e)))
    (gone_more before first own own' repeated ds i d h is gone (subst (λ n. SameNames own' (n ∷ own)) e more))
