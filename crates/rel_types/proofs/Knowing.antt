-- What an index has of a list, by name, and one more of it.
use Rattle.std.proofs.Common.{◌≡◌, ℕ, suc, ◌<◌, ◌≤◌, ◌+◌, Bool, true, false, if◌then◌else◌, List, [], ◌∷◌, ◌++◌, map, take, get_or, length, Option, Some, None, option_map, refl, sym, ap, ap₂, ◌∙◌, subst, append_assoc, append-nil, length-append}
use Rattle.std.specs.Prelude.{bytes_eq}
use Rattle.std.proofs.lemmas.Slice.Eq.{bytes_eq-Decides}
use Rattle.std.proofs.lemmas.List.{take_more, take_all, map-append}
use Rattle.rel_lang.specs.Syntax.{Word}
use Rattle.rel_lang.specs.State.{find_named}
use Rattle.rel_flaws.specs.Entries.{find_entry, with_entry}
use Rattle.rel_types.specs.Known.{BothAre}
use Rattle.rel_types.specs.ByName.{AreByName, Adds, place_in, AreCounted}
use Rattle.rel_types.proofs.Calling.{or_next, found_both}

-- ---- one more entry

or_none : {A : Type 0} (o : Option A) → or_next o None ≡ o
or_none None = refl
or_none (Some a) = refl

pub entry_with : {V : Type 0} (es : List (Word × V)) (y : Word) (v : V) (x : Word) → find_entry x (with_entry es y v) ≡ or_next (find_entry x es) (if bytes_eq x y then Some v else None)
entry_with [] y v x = refl
entry_with (e ∷ es) y v x =
    (elim (bytes_eq y e.0) as (λ b. bytes_eq y e.0 ≡ b → find_entry x (if b then e ∷ es else e ∷ with_entry es y v)
    ≡ or_next (if bytes_eq x e.0 then Some e.1 else find_entry x es) (if bytes_eq x y then Some v else None)) [
      | true ↦ λ same. there ((bytes_eq-Decides y e.0).0 same)
      | false ↦ λ differs. elim (bytes_eq x e.0) as (λ c. (if c then Some e.1 else find_entry x (with_entry es y v)) ≡ or_next (if c then Some e.1 else find_entry x es) (if bytes_eq x y then Some v else None)) [
        | true ↦ refl
        | false ↦ entry_with es y v x
      ]
    ]) refl
  where
    there : y ≡ e.0 → find_entry x (e ∷ es) ≡ or_next (find_entry x (e ∷ es)) (if bytes_eq x y then Some v else None)
    there same =
        (elim (bytes_eq x e.0) as (λ c. bytes_eq x e.0 ≡ c → (if c then Some e.1 else find_entry x es) ≡ or_next (if c then Some e.1 else find_entry x es) (if bytes_eq x y then Some v else None)) [
          | true ↦ λ is. refl
          | false ↦ λ isnt. sym (ap (λ b. or_next (find_entry x es) (if b then Some v else None)) (ap (bytes_eq x) same ∙ isnt) ∙ or_none (find_entry x es))
        ]) refl

-- ---- what belongs together

both_next : {A V : Type 0} (R : A → V → Type 0) (o q : Option A) (p r : Option V) → BothAre R o p → BothAre R q r → BothAre R (or_next o q) (or_next p r)
both_next R None q None r h k = k
both_next R (Some a) q (Some v) r h k = h
both_next R None q (Some v) r h k = absurd h
both_next R (Some a) q None r h k = absurd h

both_last : {A V : Type 0} (R : A → V → Type 0) (a : A) (v : V) (b : Bool) → R a v → BothAre R (if b then Some a else None) (if b then Some v else None)
both_last R a v true h = h
both_last R a v false h = tt

-- the list with one more has what the index with one more has
one_more : {A V : Type 0} (R : A → V → Type 0) (name : A → Word) (es : List (Word × V)) (a : A) (y : Word) (v : V) → y ≡ name a → R a v → Adds R name es (with_entry es y v) (a ∷ [])
one_more R name es a y v e r before h x =
    subst (λ o. BothAre R o (find_entry x (with_entry es y v))) (sym (found_both name x before (a ∷ [])))
    (subst (λ p. BothAre R (or_next (find_named name x before) (if bytes_eq x (name a) then Some a else None)) p) (sym (entry_with es y v x))
    (both_next R (find_named name x before) (if bytes_eq x (name a) then Some a else None) (find_entry x es) (if bytes_eq x y then Some v else None) (h x)
    (subst (λ z. BothAre R (if bytes_eq x z then Some a else None) (if bytes_eq x y then Some v else None)) e (both_last R a v (bytes_eq x y) r))))

pub adds_one : {A V : Type 0} (R : A → V → Type 0) (name : A → Word) (es fs : List (Word × V)) (a : A) (y : Word) (v : V) → fs ≡ with_entry es y v → y ≡ name a → R a v → Adds R name es fs (a ∷ [])
adds_one R name es fs a y v is e r = subst (λ gs. Adds R name es gs (a ∷ [])) (sym is) (one_more R name es a y v e r)

pub adds_none : {A V : Type 0} (R : A → V → Type 0) (name : A → Word) (es : List (Word × V)) → Adds R name es es []
adds_none R name es before h = subst (λ l. AreByName R name l es) (sym (append-nil before)) h

adds_both : {A V : Type 0} (R : A → V → Type 0) (name : A → Word) (es fs gs : List (Word × V)) (ms ns : List A) → Adds R name es fs ms → Adds R name fs gs ns → Adds R name es gs (ms ++ ns)
adds_both R name es fs gs ms ns h k before l =
    subst (λ bs. AreByName R name bs gs) (append_assoc before ms ns) (k (before ++ ms) (h before l))

pub from_none : {A V : Type 0} (R : A → V → Type 0) (name : A → Word) (before es : List (Word × V)) (ms : List A) → before ≡ [] → Adds R name before es ms → AreByName R name ms es
from_none R name before es ms e h = h [] (subst (AreByName R name []) (sym e) (λ x. tt))

-- what the first so many of a list give, and what the next gives
pub gives_next : {A B X : Type 0} (gives : List B → List A) → ((bs cs : List B) → gives (bs ++ cs) ≡ gives bs ++ gives cs) → (f : X → B) (xs : List X) (i : ℕ) (d : X) → i < length xs → d ≡ get_or xs i d
    → gives (map f (take i xs)) ++ gives (f d ∷ []) ≡ gives (map f (take (i + 1) xs))
gives_next gives both f xs i d h is =
    sym (ap (λ l. gives (map f l)) (take_more xs i d h ∙ ap (λ a. take i xs ++ a ∷ []) (sym is)) ∙ ap gives (map-append f (take i xs) (d ∷ [])) ∙ both (map f (take i xs)) (f d ∷ []))

pub adds_next : {A B V X : Type 0} (R : A → V → Type 0) (name : A → Word) (gives : List B → List A) → ((bs cs : List B) → gives (bs ++ cs) ≡ gives bs ++ gives cs) → (f : X → B)
    → (es fs gs : List (Word × V)) (xs : List X) (i : ℕ) (d : X) → i < length xs → d ≡ get_or xs i d
    → Adds R name es fs (gives (map f (take i xs))) → Adds R name fs gs (gives (f d ∷ [])) → Adds R name es gs (gives (map f (take (i + 1) xs)))
adds_next R name gives both f es fs gs xs i d h is old new =
    subst (Adds R name es gs) (gives_next gives both f xs i d h is) (adds_both R name es fs gs (gives (map f (take i xs))) (gives (f d ∷ [])) old new)

-- the same of a list itself
pub adds_more : {A V X : Type 0} (R : A → V → Type 0) (name : A → Word) (f : X → A) (es fs gs : List (Word × V)) (xs : List X) (i : ℕ) (d : X) → i < length xs → d ≡ get_or xs i d
    → Adds R name es fs (map f (take i xs)) → Adds R name fs gs (f d ∷ []) → Adds R name es gs (map f (take (i + 1) xs))
adds_more R name f = adds_next R name (λ l. l) (λ bs cs. refl) f

-- all of a list
pub adds_all : {A B V X : Type 0} (R : A → V → Type 0) (name : A → Word) (gives : List B → List A) (f : X → B) (es gs : List (Word × V)) (xs ys : List X) (i : ℕ) → length xs ≤ i → xs ≡ ys
    → Adds R name es gs (gives (map f (take i xs))) → Adds R name es gs (gives (map f ys))
adds_all R name gives f es gs xs ys i h e = subst (λ l. Adds R name es gs (gives (map f l))) (take_all i xs h ∙ e)

-- ---- numbers

place_with : (x : Word) (ys : List Word) (y : Word) → place_in x (ys ++ y ∷ []) ≡ or_next (place_in x ys) (if bytes_eq x y then Some (length ys) else None)
place_with x [] y = refl
place_with x (z ∷ ys) y =
    elim (bytes_eq x z) as (λ b. (if b then Some 0 else option_map suc (place_in x (ys ++ y ∷ []))) ≡ or_next (if b then Some 0 else option_map suc (place_in x ys)) (if bytes_eq x y then Some (suc (length ys)) else None)) [
      | true ↦ refl
      | false ↦ ap (option_map suc) (place_with x ys y) ∙ moved (place_in x ys) (bytes_eq x y)
    ]
  where
    moved : (o : Option ℕ) (b : Bool) → option_map suc (or_next o (if b then Some (length ys) else None)) ≡ or_next (option_map suc o) (if b then Some (suc (length ys)) else None)
    moved None true = refl
    moved None false = refl
    moved (Some n) b = refl

pub counted_one : (ys : List Word) (es fs : List (Word × ℕ)) (x y : Word) (n m : ℕ) → fs ≡ with_entry es y n → y ≡ x → m ≡ n + 1 → AreCounted ys es n → AreCounted (ys ++ x ∷ []) fs m
counted_one ys es fs x y n m is e next h = record {
  numbers = λ z.
      ap (find_entry z) is ∙ entry_with es y n z
      ∙ ap₂ (λ o b. or_next o (if b then Some n else None)) (h.numbers z) (ap (bytes_eq z) e) ∙ ap (λ k. or_next (place_in z ys) (if bytes_eq z x then Some k else None)) h.count
      ∙ sym (place_with z ys x);
  count = next ∙ ap (λ k. k + 1) h.count ∙ sym (length-append ys (x ∷ []));
}
