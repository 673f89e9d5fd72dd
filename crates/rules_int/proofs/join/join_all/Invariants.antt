use Rattle.std.proofs.Common.{drop}
use Rattle.rules_int.specs.Forms.{entries_of}
use Rattle.rules_int.proofs.Progress.{Progress}
use Rattle.rules_int.proofs.join.join_all.Given as goal

abbrev pub invariant-loop-entry : goal.invariant-loop-entry
invariant-loop-entry g l = Progress l.how (g.N.Numbers.at l.initial.numbers) (g.N.Numbers.at l.numbers) (entries_of l.other) (drop l.entry-index (entries_of l.other))
