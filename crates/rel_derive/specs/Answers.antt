-- What a step answers.
use Rattle.std.specs.Prelude.{◌≡◌, List, map, reverse, Vec, Result, Ok, Err}
use Rattle.std.specs.List.{AllByRecursion}
use Rattle.rel_logic.specs.declared.sequent.Node.{Node}
use Rattle.rel_logic.specs.Syntax.{Nod}
use Rattle.rel_logic.specs.View.{node_of}
use Rattle.rules_table.specs.declared.theory.Added.{Added}
use Rattle.rules_table.specs.Nodes.{Stp, Addition, child, kids}
use Rattle.rules_table.specs.View.{addition_of}
use Rattle.rel_derive.specs.declared.checker.StepFault.{StepFault}
use Rattle.rel_derive.specs.declared.checker.StepFault.TheVariants as Fault
use Rattle.rel_derive.specs.declared.pile.Waiting.{Waiting}
use Rattle.rel_derive.specs.Rules.{outcome_of_all, Moves, HasRoom}
use Rattle.rel_derive.specs.Pile.{waits_at}

-- no node is open, or no children make a good step
abbrev pub IsStuck : List Nod → Stp → Type 0
IsStuck stack s = (after : List Nod) → ¬ (Moves stack s after)

-- a step moves the stack, or is bad, or there was no memory; only the first changes it
abbrev pub IsStepAnswer : {U : Type 0} → List Nod → Stp → Result U StepFault → List Nod → Type 0
IsStepAnswer before s (Ok u) after = Moves before s after × AllByRecursion HasRoom after
IsStepAnswer before s (Err Fault.Bad) after = (after ≡ before) × IsStuck before s
IsStepAnswer before s (Err Fault.Memory) after = after ≡ before

-- the child has room
abbrev pub IsRoomFor : Node → Added → Type 0
IsRoomFor n a = HasRoom (child (node_of n) (addition_of a))

-- the additions are the children's at the node, and each child has room
pub record AreChildren (n : Node) (s : Stp) (added : List Added) : Type 0 where
  pub good : outcome_of_all (node_of n) s ≡ kids (map addition_of added)
  pub room : AllByRecursion (IsRoomFor n) added

-- the children wait, the first one last, or the step is bad, or there was no memory
abbrev pub IsChildrenAnswer : {Z : Type 0} → Node → Stp → Result (Vec Waiting Z) StepFault → Type 0
IsChildrenAnswer n s (Ok ws) = (added : List Added) × AreChildren n s added × (reverse ws.items ≡ map (waits_at n) added)
IsChildrenAnswer n s (Err Fault.Bad) = (added : List Addition) → ¬ (outcome_of_all (node_of n) s ≡ kids added)
IsChildrenAnswer n s (Err Fault.Memory) = Unit {0}
