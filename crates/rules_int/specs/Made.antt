-- The forms that the code makes, and those that it joins.
use Rattle.std.specs.Prelude.{ℤ, Option, Some, None, option_and_then}
use Rattle.rel_logic.specs.Syntax.{Trm}
use Rattle.rules_int.specs.declared.dense.Dense.{Dense}
use Rattle.rules_int.specs.declared.forms.Form.{Form}
use Rattle.rules_int.specs.declared.join.Join.{Join}
use Rattle.rules_int.specs.declared.join.Join.TheVariants.{Plus, Minus, MinusPlusOne, PlusTimes}
use Rattle.rules_int.specs.Linear.{Linear, plus, minus, times, minus_plus_one, within, joined}
use Rattle.rules_int.specs.Entries.{Numbers, number_in}
use Rattle.rules_int.specs.Forms.{Fits, IsLike, parts_at}

-- the code's form is this one, or there is none on either side
abbrev pub IsFormOf : {N : Type 0} → (N → Numbers) → Option Linear → Option (Form N) → Type 0
IsFormOf at None None = Unit {0}
IsFormOf at None (Some f) = ⊥
IsFormOf at (Some g) None = ⊥
IsFormOf at (Some g) (Some f) = IsLike f.constant (at f.numbers) g

abbrev pub FitsNumbers : Numbers → Type 0
FitsNumbers numbers = (x : Trm) → Fits (numbers x)

abbrev pub FitsIfAny : {N : Type 0} → (N → Numbers) → Option (Form N) → Type 0
FitsIfAny at None = Unit {0}
FitsIfAny at (Some f) = FitsNumbers (at f.numbers)

-- two forms joined so
abbrev pub joined_by : Join → Option Linear → Option Linear → Option Linear
joined_by Plus o p = joined plus o p
joined_by Minus o p = joined minus o p
joined_by MinusPlusOne o p = joined minus_plus_one o p
joined_by (PlusTimes k) o p = joined plus o (option_and_then (λ f. within (times k f)) p)

-- whatever forms the two are, the result is their join
abbrev pub IsJoinOf : {N M : Type 0} → (N → Numbers) → (M → Numbers) → Join → Option (Form N) → Option (Form M) → Option (Form N) → Type 0
IsJoinOf at other how a c r = (o p : Option Linear) → IsFormOf at o a → IsFormOf other p c → IsFormOf at (joined_by how o p) r

-- whatever form that is, the result is k times it
abbrev pub IsMultipleOf : {N : Type 0} → (N → Numbers) → ℤ → Option (Form N) → Option (Form N) → Type 0
IsMultipleOf at k c r = (p : Option Linear) → IsFormOf at p c → IsFormOf at (option_and_then (λ f. within (times k f)) p) r

-- the numbers of a sum's atoms
abbrev pub dense_at : Dense → Numbers
dense_at d = number_in d.variables.items (parts_at d.others)
