-- What lists of steps come to.
use Rattle.std.specs.Prelude.{◌≡◌, ℕ, ◌<◌, List, take, length, slice_get, Some}
use Rattle.rel_logic.specs.Syntax.{Sqt, Nod}
use Rattle.rules_table.specs.Nodes.{Stp}
use Rattle.rel_derive.specs.declared.verdict.Outcome.{Outcome}
use Rattle.rel_derive.specs.declared.verdict.Outcome.TheVariants.{Accepted, BadStep, OpenNodes}
use Rattle.rel_derive.specs.Rules.{Runs, first_stack, IsAccepted}
use Rattle.rel_derive.specs.Answers.{IsStuck}

-- the steps before number k are good, and this one is not
pub record IsBadStep (q : Sqt) (steps : List Stp) (k : ℕ) : Type 0 where
  pub stack : List Nod
  pub step : Stp
  pub before : Runs (first_stack q) (take k steps) stack
  pub number : slice_get steps k ≡ Some step
  pub bad : IsStuck stack step

-- all steps are good, and leave n nodes open
pub record LeavesOpen (q : Sqt) (steps : List Stp) (n : ℕ) : Type 0 where
  pub stack : List Nod
  pub run : Runs (first_stack q) steps stack
  pub open_nodes : length stack ≡ n
  pub some_open : 0 < n

abbrev pub IsOutcome : Sqt → List Stp → Outcome → Type 0
IsOutcome q steps Accepted = IsAccepted q steps
IsOutcome q steps (BadStep k) = IsBadStep q steps k
IsOutcome q steps (OpenNodes n) = LeavesOpen q steps n
