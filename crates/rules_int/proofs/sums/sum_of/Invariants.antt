use Rattle.std.proofs.Common.{zip, drop}
use Rattle.rel_logic.specs.View.{node_of}
use Rattle.rules_int.proofs.Summing.{Summed}
use Rattle.rules_int.proofs.sums.sum_of.Given as goal

abbrev pub invariant-loop-j : goal.invariant-loop-j
invariant-loop-j l = Summed (node_of l.node) (zip l.nums l.ints) (drop l.j (zip l.nums l.ints)) l.sum
