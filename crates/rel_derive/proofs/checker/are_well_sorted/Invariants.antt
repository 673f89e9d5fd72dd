use Rattle.std.proofs.Common.{◌↔◌, drop, map}
use Rattle.rel_logic.specs.View.{sort_of}
use Rattle.rel_derive.specs.Taken.{AreSortedOver}
use Rattle.rel_derive.proofs.checker.are_well_sorted.Given as goal

abbrev pub invariant-loop-i : goal.invariant-loop-i
invariant-loop-i l = let sorts = map sort_of l.sorts in AreSortedOver sorts l.forms ↔ AreSortedOver sorts (drop l.i l.forms)
