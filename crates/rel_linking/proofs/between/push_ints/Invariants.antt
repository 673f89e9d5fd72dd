use Rattle.std.proofs.Common.{◌≡◌, ◌++◌, map, replicate}
use Rattle.rel_logic.specs.Syntax.{int_sort}
use Rattle.rel_logic.specs.View.{sort_of}
use Rattle.rel_linking.proofs.between.push_ints.Given as goal

abbrev pub invariant-loop-i : goal.invariant-loop-i
invariant-loop-i l = map sort_of l.sorts ≡ map sort_of l.initial.sorts ++ replicate l._i int_sort
