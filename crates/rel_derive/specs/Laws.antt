-- The law of accepted steps, which a function of `laws` proves.
use Rattle.std.specs.Prelude.{List}
use Rattle.rel_logic.specs.Syntax.{Sqt}
use Rattle.rel_logic.specs.Truth.{IsValid}
use Rattle.rules_table.specs.Nodes.{Stp, IsSound}
use Rattle.rel_derive.specs.Rules.{first_node, IsAccepted}

-- A sequent whose node is sound is valid if steps are accepted for it.
abbrev pub AcceptedSequentsAreValid : Type 0
AcceptedSequentsAreValid = (q : Sqt) (steps : List Stp) → IsSound (first_node q) → IsAccepted q steps → IsValid q
