use Rattle.std.proofs.Common.{take}
use Rattle.rel_logic.specs.View.{sequent_of}
use Rattle.rel_straight.specs.Rules.{Runs, first_stack}
use Rattle.rel_straight.specs.Stack.{stack_of}
use Rattle.rel_straight.proofs.checker.verdict_of.Given as goal

abbrev pub invariant-loop-number : goal.invariant-loop-number
invariant-loop-number l = Runs (first_stack (sequent_of l.sequent)) (take l.number l.items) (stack_of l.checker)
