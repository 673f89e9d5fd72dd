use Rattle.std.proofs.Common.{take}
use Rattle.rules_int.specs.Forms.{entries_of, parts_at, AreMultiplesAt}
use Rattle.rules_int.proofs.numbers.are_multiples_at.Given as goal

abbrev pub invariant-loop-entry : goal.invariant-loop-entry
invariant-loop-entry g l = AreMultiplesAt (take l.entry-index (entries_of l.parts)) l.k (g.N.Numbers.at l.numbers) (parts_at l.other)
