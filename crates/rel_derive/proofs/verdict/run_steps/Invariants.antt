use Rattle.std.proofs.Common.{map, take}
use Rattle.rel_logic.specs.View.{sequent_of}
use Rattle.rules_table.specs.View.{step_of}
use Rattle.rel_derive.specs.Rules.{Runs, first_stack}
use Rattle.rel_derive.specs.Stack.{stack_of}
use Rattle.rel_derive.proofs.verdict.run_steps.Given as goal

abbrev pub invariant-loop-number : goal.invariant-loop-number
invariant-loop-number l = Runs (first_stack (sequent_of l.fn.sequent)) (take l.number (map step_of l.items)) (stack_of l.checker)
