-- Numbers of atoms, and lists of atoms with numbers.
use Rattle.std.specs.Prelude.{◌≡◌, ◌<◌, ℕ, ℤ, pos, Bool, true, false, not, ◌&&◌, ◌||◌, if◌then◌else◌, List, [], ◌∷◌, length, get_or, take}
use Rattle.rel_logic.specs.Syntax.{Trm, var}
use Rattle.rel_logic.specs.Equal.{same_trm}

-- a number for each atom
abbrev pub Numbers : Type 0
Numbers = Trm → ℤ

abbrev pub Entries : Type 0
Entries = List (Trm × ℤ)

-- that of the atom's first entry; without one it is 0
abbrev pub number_at : Entries → Numbers
number_at [] a = pos 0
number_at (e ∷ es) a = if same_trm e.0 a then e.1 else number_at es a

abbrev pub has_atom : Entries → Trm → Bool
has_atom [] a = false
has_atom (e ∷ es) a = same_trm e.0 a || has_atom es a

-- no atom stands twice
abbrev pub are_distinct : Entries → Bool
are_distinct [] = true
are_distinct (e ∷ es) = not (has_atom es e.0) && are_distinct es

-- a variable's number stands in the list at its place
abbrev pub number_in : List ℤ → Numbers → Numbers
number_in zs others (var n) = get_or zs n (pos 0)
number_in zs others a = others a

-- the atom's first entry has this place
pub record IsPlace (es : Entries) (a : Trm) (i : ℕ) : Type 0 where
  pub within : i < length es
  pub none_before : has_atom (take i es) a ≡ false
  pub here : same_trm (get_or es i (a, pos 0)).0 a ≡ true
