-- Where a name stands: in a list, and under quantifiers.
use Rattle.std.specs.Prelude.{◌≡◌, ℕ, ◌+◌, pos, Bool, false, ◌||◌, List, [], ◌∷◌, Option, Some, None, get_or, if◌then◌else◌, bytes_eq}
use Rattle.rel_lang.specs.Syntax.{Word, Side, Left, Right}
use Rattle.rel_flaws.specs.Entries.{find_entry}
use Rattle.rel_logic.specs.Syntax.{Trm, bound, int}
use Rattle.rel_encode.specs.Terms.{lifted}
use Rattle.rel_encode.specs.Binders.{Binding, OfLeft, OfRight, OfBijection}

-- ---- in a list

abbrev pub next : Option ℕ → Option ℕ
next None = None
next (Some k) = Some (k + 1)

-- the place of the first one of this name
abbrev pub place_named : {A : Type 0} → (A → Word) → Word → List A → Option ℕ
place_named name x [] = None
place_named name x (a ∷ xs) = if bytes_eq x (name a) then Some 0 else next (place_named name x xs)

-- an index has the place of each name
abbrev pub ArePlaces : {A : Type 0} → (A → Word) → List A → List (Word × ℕ) → Type 0
ArePlaces name xs entries = (x : Word) → find_entry x entries ≡ place_named name x xs

-- the place, or the number where there is none
abbrev pub place_or : Option ℕ → ℕ → ℕ
place_or None n = n
place_or (Some k) n = k

-- the term at a place; 0 where there is none
abbrev pub term_at : Option ℕ → List Trm → Trm
term_at None ts = int (pos 0)
term_at (Some k) ts = get_or ts k (int (pos 0))

-- ---- under quantifiers

-- A name that a quantifier binds has a number; of another one it is told how many quantifiers stand around.
pub data Found : Type 0 where
  Inside : ℕ → Found
  Outside : ℕ → Found

-- from under one more quantifier
abbrev pub deeper : Found → Found
deeper (Inside k) = Inside (k + 1)
deeper (Outside d) = Outside (d + 1)

-- whether a quantifier binds the name on the side
abbrev pub binds : Side → Binding → Word → Bool
binds Left (OfLeft y c) x = bytes_eq x y
binds Right (OfRight y c) x = bytes_eq x y
binds _ _ x = false

abbrev pub found_under : Side → List Binding → Word → Found
found_under s [] x = Outside 0
found_under s (b ∷ bs) x = if binds s b x then Inside 0 else deeper (found_under s bs x)

-- some quantifier does
abbrev pub is_bound : Side → List Binding → Word → Bool
is_bound s [] x = false
is_bound s (b ∷ bs) x = binds s b x || is_bound s bs x

abbrev pub bijection_found : List Binding → Found
bijection_found [] = Outside 0
bijection_found (OfBijection ∷ bs) = Inside 0
bijection_found (_ ∷ bs) = deeper (bijection_found bs)

-- the term of what was found, where it has this one outside of the quantifiers
abbrev pub term_found : Found → Trm → Trm
term_found (Inside k) t = bound k
term_found (Outside d) t = lifted d t
