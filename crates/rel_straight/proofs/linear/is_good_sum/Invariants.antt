use Rattle.rel_logic.specs.View.{node_of}
use Rattle.rel_straight.specs.Forms.{linear}
use Rattle.rel_straight.proofs.Sums.{Summed}
use Rattle.rel_straight.proofs.linear.is_good_sum.Given as goal

abbrev pub invariant-loop-i : goal.invariant-loop-i
invariant-loop-i l = Summed (node_of l.node) l.items l.i-index (linear l.sum)
