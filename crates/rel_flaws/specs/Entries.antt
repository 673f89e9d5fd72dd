-- Names with what is known of each, as lists.
use Rattle.std.specs.Prelude.{List, [], ◌∷◌, fold, Option, Some, None, bytes_eq, if◌then◌else◌}
use denote.Ref.{Bor}
use Rattle.rel_lang.specs.Syntax.{Word}

abbrev pub find_entry : {V : Type 0} → Word → List (Word × V) → Option V
find_entry x [] = None
find_entry x (e ∷ es) = if bytes_eq x e.0 then Some e.1 else find_entry x es

-- with this one last, unless the name is there
abbrev pub with_entry : {V : Type 0} → List (Word × V) → Word → V → List (Word × V)
with_entry [] x v = (x, v) ∷ []
with_entry (e ∷ es) x v = if bytes_eq x e.0 then e ∷ es else e ∷ with_entry es x v

-- with another value for a name that is there
abbrev pub with_value : {V : Type 0} → List (Word × V) → Word → V → List (Word × V)
with_value [] x v = []
with_value (e ∷ es) x v = if bytes_eq x e.0 then (e.0, v) ∷ es else e ∷ with_value es x v

-- the last of these in front
abbrev pub last_first : List (Bor Word × Bor Word) → List (Word × Word)
last_first qs = fold (λ done q. (q.0.now, q.1.now) ∷ done) [] qs

abbrev pub without_front : {X : Type 0} → List X → List X
without_front [] = []
without_front (x ∷ xs) = xs
