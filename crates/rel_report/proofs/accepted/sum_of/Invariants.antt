-- The sum of the counts before this one, each of which has 32 bits.
use Rattle.std.proofs.Common.{◌≡◌, ◌≤◌, ◌*◌, ◌^◌, take}
use Rattle.rel_report.specs.Lines.{sum_of}
use Rattle.rel_report.proofs.accepted.sum_of.Given as goal

abbrev pub invariant-loop-count : goal.invariant-loop-count
invariant-loop-count l = (l.sum ≡ sum_of (take l.count-index l.counts)) × (l.sum ≤ l.count-index * (2 ^ 32))
