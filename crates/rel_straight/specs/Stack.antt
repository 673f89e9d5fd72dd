-- The stack of nodes that a checker stands for, and what its calls answer.
use Rattle.std.specs.Prelude.{◌≡◌, ℕ, ◌<◌, List, map, reverse, take, length, slice_get, Some, Result, Ok, Err}
use Rattle.rel_logic.specs.declared.sequent.Node.{Node}
use Rattle.rel_logic.specs.Syntax.{Trm, int_sort, eq, no, Sqt, Nod}
use Rattle.rel_logic.specs.View.{node_of}
use Rattle.rel_logic.specs.Truth.{IsValid}
use Rattle.rel_straight.specs.declared.step.Step.{Step}
use Rattle.rel_straight.specs.declared.checker.Checker.{Checker}
use Rattle.rel_straight.specs.declared.checker.StepFault.{StepFault}
use Rattle.rel_straight.specs.declared.checker.StepFault.TheVariants as Fault
use Rattle.rel_straight.specs.declared.checker.Verdict.{Verdict}
use Rattle.rel_straight.specs.declared.checker.Verdict.TheVariants.{Accepted, BadStep, OpenNodes}
use Rattle.rel_straight.specs.Linear.{term_sort}
use Rattle.rel_straight.specs.Rules.{Moves, Runs, first_stack, IsAccepted}

-- the last node is on top
abbrev pub stacked : List Node → List Nod
stacked nodes = reverse (map node_of nodes)

abbrev pub stack_of : Checker → List Nod
stack_of c = stacked c.nodes.items

-- no step moves the stack
abbrev pub IsStuck : List Nod → Step → Type 0
IsStuck stack step = (after : List Nod) → ¬ (Moves stack step after)

-- a step moves the stack, or is bad, or there was no memory; only the first changes it
abbrev pub IsStepAnswer : {U : Type 0} → List Nod → Step → Result U StepFault → List Nod → Type 0
IsStepAnswer before step (Ok u) after = Moves before step after
IsStepAnswer before step (Err Fault.Bad) after = (after ≡ before) × IsStuck before step
IsStepAnswer before step (Err Fault.Memory) after = after ≡ before

-- formula i says that two terms of sort Int differ
pub record DiffersAt (n : Nod) (i : ℕ) (t u : Trm) : Type 0 where
  pub formula : slice_get n.forms i ≡ Some (no (eq t u))
  pub left_int : term_sort n.sorts t ≡ Some int_sort
  pub right_int : term_sort n.sorts u ≡ Some int_sort

-- the steps before number k are good, and this one is not
pub record IsBadStep (q : Sqt) (steps : List Step) (k : ℕ) : Type 0 where
  pub stack : List Nod
  pub step : Step
  pub before : Runs (first_stack q) (take k steps) stack
  pub number : slice_get steps k ≡ Some step
  pub bad : IsStuck stack step

-- all steps are good, and leave n nodes open
pub record LeavesOpen (q : Sqt) (steps : List Step) (n : ℕ) : Type 0 where
  pub stack : List Nod
  pub run : Runs (first_stack q) steps stack
  pub open_nodes : length stack ≡ n
  pub some_open : 0 < n

abbrev pub IsVerdict : Sqt → List Step → Verdict → Type 0
IsVerdict q steps Accepted = IsAccepted q steps × IsValid q
IsVerdict q steps (BadStep k) = IsBadStep q steps k
IsVerdict q steps (OpenNodes n) = LeavesOpen q steps n
