use Rattle.std.proofs.Common.{◌+◌, ◌*◌, ◌-◌, map}
use Rattle.rel_lang.specs.Refusal.{limits}
use Rattle.rel_lang.specs.View.{bicommand_of}
use Rattle.rel_parse.specs.Biprograms.{begins_bicommand, ended_bicommand_at, many_bicommands_at, bicommand_at}
use Rattle.rel_parse.proofs.Loop.{SoFar}
use Rattle.rel_parse.proofs.biprogram.+bicommand.Given as goal

abbrev pub decreases-biform : goal.decreases-biform
decreases-biform l = 8 * l.left + 5

abbrev pub decreases-bibranches : goal.decreases-bibranches
decreases-bibranches l = 8 * l.left + 4

abbrev pub decreases-biblock : goal.decreases-biblock
decreases-biblock l = 8 * l.left + 3

abbrev pub decreases-bicommands : goal.decreases-bicommands
decreases-bicommands l = 8 * l.left + 2

abbrev pub decreases-ended_bicommand : goal.decreases-ended_bicommand
decreases-ended_bicommand l = 8 * l.left + 1

abbrev pub decreases-bicommand : goal.decreases-bicommand
decreases-bicommand l = 8 * l.left

abbrev pub invariant-bicommands-loop : goal.invariant-bicommands-loop
invariant-bicommands-loop l = SoFar begins_bicommand (ended_bicommand_at limits.most l.left) (limits.most - l.counter) (map bicommand_of l.read.0) l.read.1.now (many_bicommands_at limits.most (bicommand_at limits.most l.left) l.tokens)
