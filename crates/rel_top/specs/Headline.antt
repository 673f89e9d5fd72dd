-- What a yes says.
use Rattle.std.specs.Prelude.{◌≡◌, ℕ, List, [], ◌∷◌, codes}
use Rattle.rel_io.specs.Told.{Told, untold, absent, bytes}
use Rattle.rel_lang.specs.TrueBundle.{StandsForTrueBundle}

-- the bytes are there and have the property, where anything is told of them
abbrev pub WhereTold : Told → (List ℕ → Type 0) → Type 0
WhereTold untold P = Unit {0}
WhereTold absent P = ⊥
WhereTold (bytes content) P = P content

-- Where the words are those of `check` and anything is told of the bundle's file, its bytes stand for a bundle, and every bundle that they stand
-- for is true.
abbrev pub IsYes : (List ℕ → Told) → List (List ℕ) → Type 0
IsYes told words = (bundle proof : List ℕ) → words ≡ codes "check" ∷ bundle ∷ proof ∷ [] → WhereTold (told bundle) StandsForTrueBundle
