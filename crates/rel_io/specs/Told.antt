-- What is told of the bytes under a name and of the bytes of a sink, and counts of faults.
use Rattle.std.specs.Prelude.{◌≡◌, ℕ, ◌-◌, ◌^◌, ◌<◌, ◌⊎◌, List, ◌++◌, length, take, ◌≤◌, Option, Some, None, ⊤}

-- nothing is told, nothing stands there, or these bytes stand there
pub data Told : Type 0 where
  untold : Told
  absent : Told
  bytes : List ℕ → Told

-- a count rose; where it stands at the greatest u64 it counts as risen
abbrev pub Rose : ℕ → ℕ → Type 0
Rose old new = (old < new) ⊎ (new ≡ 2 ^ 64 - 1)

-- what stands there, where it is told, is this
abbrev pub IsToldAs : Told → List ℕ → Type 0
IsToldAs untold content = ⊤
IsToldAs absent content = ⊥
IsToldAs (bytes told) content = content ≡ told

-- more than limit bytes stand there, where it is told
abbrev pub IsLonger : Told → ℕ → Type 0
IsLonger untold limit = ⊤
IsLonger absent limit = ⊥
IsLonger (bytes told) limit = limit < length told

-- after a write of the content: what is told once is told from then on
abbrev pub Replaces : Told → Told → List ℕ → Type 0
Replaces untold new content = IsToldAs new content
Replaces absent new content = new ≡ bytes content
Replaces (bytes told) new content = new ≡ bytes content

-- the bytes so far, where they are told, grew by this piece
abbrev pub Appends : Option (List ℕ) → Option (List ℕ) → List ℕ → Type 0
Appends None new piece = ⊤
Appends (Some sofar) new piece = new ≡ Some (sofar ++ piece)

-- they grew by a front of the piece, which may be none of it or all
abbrev pub AppendsFront : Option (List ℕ) → Option (List ℕ) → List ℕ → Type 0
AppendsFront old new piece = (n : ℕ) × (n ≤ length piece) × Appends old new (take n piece)
