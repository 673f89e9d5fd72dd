-- Equivalences put together.
use Rattle.std.proofs.Common.{◌≡◌, ◌↔◌, false, not, List, [], ◌∷◌, ◌++◌, map, Option, Some, None, IsSome, IsSomeAnd, refl, sym, subst, true≢false}
use Rattle.std.specs.Prelude.{is_some}
use Rattle.std.specs.List.{AllByRecursion}

pub iff_same : {A : Type 0} → A ↔ A
iff_same = (λ a. a, λ a. a)

pub iff_back : {A B : Type 0} → A ↔ B → B ↔ A
iff_back e = (e.1, e.0)

pub iff_then : {A B C : Type 0} → A ↔ B → B ↔ C → A ↔ C
iff_then e f = (λ a. f.0 (e.0 a), λ c. e.1 (f.1 c))

pub iff_both : {A B C D : Type 0} → A ↔ C → B ↔ D → (A × B) ↔ (C × D)
iff_both e f = (λ h. (e.0 h.0, f.0 h.1), λ h. (e.1 h.0, f.1 h.1))

pub iff_along : {X : Type 0} (P : X → Type 0) (x y : X) → x ≡ y → P x ↔ P y
iff_along P x y e = (λ h. subst P e h, λ h. subst P (sym e) h)

pub iff_all : {X : Type 0} (P Q : X → Type 0) → ((x : X) → P x ↔ Q x) → (xs : List X) → AllByRecursion P xs ↔ AllByRecursion Q xs
iff_all P Q each [] = (λ h. tt, λ h. tt)
iff_all P Q each (x ∷ xs) = let rest = iff_all P Q each xs in (λ h. ((each x).0 h.0, rest.0 h.1), λ h. ((each x).1 h.0, rest.1 h.1))

-- ---- lists

pub all_of_append : {X : Type 0} (P : X → Type 0) (xs ys : List X) → AllByRecursion P (xs ++ ys) ↔ (AllByRecursion P xs × AllByRecursion P ys)
all_of_append P [] ys = (λ h. (tt, h), λ h. h.1)
all_of_append P (x ∷ xs) ys = let rest = all_of_append P xs ys in (λ h. let r = rest.0 h.1 in ((h.0, r.0), r.1), λ h. (h.0.0, rest.1 (h.0.1, h.1)))

pub all_both : {X : Type 0} (P Q : X → Type 0) (xs : List X) → AllByRecursion (λ x. P x × Q x) xs ↔ (AllByRecursion P xs × AllByRecursion Q xs)
all_both P Q [] = (λ h. (tt, tt), λ h. tt)
all_both P Q (x ∷ xs) = let rest = all_both P Q xs in (λ h. let r = rest.0 h.1 in ((h.0.0, r.0), (h.0.1, r.1)), λ h. ((h.0.0, h.1.0), rest.1 (h.0.1, h.1.1)))

pub all_mapped : {X Y : Type 0} (P : Y → Type 0) (f : X → Y) (xs : List X) → AllByRecursion (λ x. P (f x)) xs ↔ AllByRecursion P (map f xs)
all_mapped P f [] = (λ h. tt, λ h. tt)
all_mapped P f (x ∷ xs) = iff_both iff_same (all_mapped P f xs)

-- ---- options

pub some_is_tested : {A : Type 0} (o : Option A) → IsSome o ↔ (not (is_some o) ≡ false)
some_is_tested None = (λ h. absurd (true≢false (sym h)), λ e. absurd (true≢false e))
some_is_tested (Some a) = (λ h. refl, λ e. refl)

pub some_weaker : {A : Type 0} (P Q : A → Type 0) → ((a : A) → P a → Q a) → (o : Option A) → IsSomeAnd o P → IsSomeAnd o Q
some_weaker P Q each None h = absurd h
some_weaker P Q each (Some a) h = each a h
