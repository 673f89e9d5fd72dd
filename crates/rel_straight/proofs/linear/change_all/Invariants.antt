use Rattle.rel_straight.specs.Forms.{coefficient_at}
use Rattle.rel_straight.proofs.Combine.{Progress}
use Rattle.rel_straight.proofs.linear.change_all.Given as goal

abbrev pub invariant-loop-variable : goal.invariant-loop-variable
invariant-loop-variable l = Progress l.how (coefficient_at l.initial.a) (coefficient_at l.a) l.c.entries l.variable-iterator
