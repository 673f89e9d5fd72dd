-- The forms that the code's values stand for, and how one is joined to another.
use Rattle.std.specs.Prelude.{◌≡◌, true, ℤ, pos, ◌+ℤ◌, ◌-ℤ◌, ◌*ℤ◌, FitsSigned, if◌then◌else◌, map}
use Rattle.std.specs.Int.{w128}
use Rattle.rel_logic.specs.Syntax.{Trm}
use Rattle.rel_logic.specs.Equal.{same_trm}
use Rattle.rel_logic.specs.View.{trm_of}
use Rattle.rules_int.specs.declared.parts.Parts.{Parts}
use Rattle.rules_int.specs.declared.join.Join.{Join}
use Rattle.rules_int.specs.declared.join.Join.TheVariants.{Plus, Minus, MinusPlusOne, PlusTimes}
use Rattle.rules_int.specs.Linear.{Linear, coefficient}
use Rattle.rules_int.specs.Entries.{Numbers, Entries, number_at, has_atom}

-- ---- numbers of atoms

-- the atom has the number after, and the others have theirs
abbrev pub IsPut : Numbers → Trm → ℤ → Numbers → Type 0
IsPut before a z after = (b : Trm) → after b ≡ (if same_trm a b then z else before b)

-- ---- how numbers are joined

abbrev pub join : Join → ℤ → ℤ → ℤ
join Plus a c = a +ℤ c
join Minus a c = a -ℤ c
join MinusPlusOne a c = a -ℤ c
join (PlusTimes k) a c = a +ℤ k *ℤ c

-- constants are joined like coefficients, but for the one
abbrev pub join_constants : Join → ℤ → ℤ → ℤ
join_constants MinusPlusOne a c = (a -ℤ c) +ℤ pos 1
join_constants Plus a c = a +ℤ c
join_constants Minus a c = a -ℤ c
join_constants (PlusTimes k) a c = a +ℤ k *ℤ c

abbrev pub Fits : ℤ → Type 0
Fits z = FitsSigned w128 z

-- a product on the way fits too
abbrev pub HasProduct : Join → ℤ → Type 0
HasProduct (PlusTimes k) c = Fits (k *ℤ c)
HasProduct Plus c = Unit {0}
HasProduct Minus c = Unit {0}
HasProduct MinusPlusOne c = Unit {0}

abbrev pub CanJoin : Join → ℤ → ℤ → Type 0
CanJoin how a c = HasProduct how c × Fits (join how a c)

abbrev pub CanJoinConstants : Join → ℤ → ℤ → Type 0
CanJoinConstants how a c = HasProduct how c × Fits (join_constants how a c)

abbrev pub CanJoinEach : Join → Numbers → Numbers → Type 0
CanJoinEach how a c = (x : Trm) → CanJoin how (a x) (c x)

abbrev pub JoinsEach : Join → Numbers → Numbers → Numbers → Type 0
JoinsEach how a c after = (x : Trm) → (after x ≡ join how (a x) (c x)) × CanJoin how (a x) (c x)

-- ---- multiples

-- each number is k times the other
abbrev pub AreMultiples : ℤ → Numbers → Numbers → Type 0
AreMultiples k a c = (x : Trm) → a x ≡ k *ℤ c x

-- the same of the atoms that have an entry
abbrev pub AreMultiplesAt : Entries → ℤ → Numbers → Numbers → Type 0
AreMultiplesAt es k a c = (x : Trm) → has_atom es x ≡ true → a x ≡ k *ℤ c x

-- ---- forms

-- the constant and the numbers are those of the form, and fit
pub record IsLike (constant : ℤ) (numbers : Numbers) (f : Linear) : Type 0 where
  pub constant_is : constant ≡ f.constant
  pub numbers_are : (x : Trm) → numbers x ≡ coefficient f.parts x
  pub constant_fits : Fits constant
  pub numbers_fit : (x : Trm) → Fits (numbers x)

-- the atoms of the code's parts, with their numbers
abbrev pub entries_of : Parts → Entries
entries_of p = map (λ e. (trm_of e.0.now, e.1)) p.entries.items

-- the number of an atom in parts
abbrev pub parts_at : Parts → Numbers
parts_at p = number_at (entries_of p)
