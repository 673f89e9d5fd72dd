-- What an index has of a list, by name.
use Rattle.std.specs.Prelude.{◌≡◌, ℕ, suc, List, [], ◌∷◌, ◌++◌, map, length, Option, Some, None, option_map, bytes_eq, if◌then◌else◌}
use denote.Ref.{Bor}
use Rattle.rel_lang.specs.Syntax.{Word, Body, Judgement, Item}
use Rattle.rel_lang.specs.State.{ClassField, find_named, class_items}
use Rattle.rel_lang.specs.declared.bundle.Decl as D
use Rattle.rel_flaws.specs.Entries.{find_entry}
use Rattle.rel_flaws.specs.View.{field_of}
use Rattle.rel_flaws.specs.AlignmentView.{judgement_about}
use Rattle.rel_flaws.specs.declared.scope.SeenField.{SeenField}
use Rattle.rel_flaws.specs.declared.sides.Subjects.{Subjects}
use Rattle.rel_types.specs.Known.{BothAre, HasLocals, subjects}

-- each name finds what belongs to the first of the list that has it
abbrev pub AreByName : {A V : Type 0} → (A → V → Type 0) → (A → Word) → List A → List (Word × V) → Type 0
AreByName R name ms es = (x : Word) → BothAre R (find_named name x ms) (find_entry x es)

-- the index now has these besides, each unless its name was there
abbrev pub Adds : {A V : Type 0} → (A → V → Type 0) → (A → Word) → List (Word × V) → List (Word × V) → List A → Type 0
Adds R name old new added = (before : List _) → AreByName R name before old → AreByName R name (before ++ added) new

-- ---- what belongs together

abbrev pub IsFieldSeen : ClassField → SeenField → Type 0
IsFieldSeen d s = field_of d.name s ≡ d

abbrev pub IsAbout : Judgement → Subjects → Type 0
IsAbout j s = subjects (judgement_about j.name s) ≡ subjects j

-- of a method's name and its body
abbrev pub AreLocals : Word × Body → Bor (List D.Decl) → Type 0
AreLocals b ds = HasLocals b.1 ds

-- ---- numbers

-- the place of the first of this name
abbrev pub place_in : Word → List Word → Option ℕ
place_in x [] = None
place_in x (y ∷ ys) = if bytes_eq x y then Some 0 else option_map suc (place_in x ys)

-- each name has the number of its place
abbrev pub AreNumbered : List Word → List (Word × ℕ) → Type 0
AreNumbered names es = (x : Word) → find_entry x es ≡ place_in x names

-- and so many names there are
pub record AreCounted (names : List Word) (es : List (Word × ℕ)) (n : ℕ) : Type 0 where
  pub numbers : AreNumbered names es
  pub count : n ≡ length names

abbrev pub class_names : List Item → List Word
class_names is = map (λ c. c.name) (class_items is)
