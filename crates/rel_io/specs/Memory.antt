-- Files in memory as a list of names and contents, and calls that are to fail.
use Rattle.std.specs.Prelude.{◌≡◌, ℕ, ◌<◌, List, [], ◌∷◌, ◌++◌, Bool, if◌then◌else◌, ◌==◌, bytes_eq, length, take, slice_index_or, ⊤}
use Rattle.std.specs.List.{list_any}
use Rattle.rel_io.specs.Told.{Told, absent, bytes}

-- a name and what stands under it
abbrev pub File : Type 0
File = List ℕ × List ℕ

-- what the list tells of a name
abbrev pub told_in : List File → List ℕ → Told
told_in [] name = absent
told_in (file ∷ files) name = if bytes_eq file.0 name then bytes file.1 else told_in files name

-- no name stands twice
abbrev pub HaveDistinctNames : List File → Type 0
HaveDistinctNames [] = ⊤
HaveDistinctNames (file ∷ files) = (told_in files file.0 ≡ absent) × HaveDistinctNames files

-- of each name the bytes are told that come with it
abbrev pub AreTold : List File → Type 0
AreTold files = (front back : List File) (file : File) → files ≡ front ++ file ∷ back →
    told_in files file.0 ≡ bytes file.1

-- the first file under the name stands at this place
pub record IsPlace (files : List File) (name : List ℕ) (place : ℕ) : Type 0 where
  pub within : place < length files
  pub none_before : told_in (take place files) name ≡ absent
  pub here : (any : File) → (slice_index_or files place any).0 ≡ name

-- the call of this number is to fail
abbrev pub is_to_fail : List ℕ → ℕ → Bool
is_to_fail fails call = list_any (λ number. number == call) fails
