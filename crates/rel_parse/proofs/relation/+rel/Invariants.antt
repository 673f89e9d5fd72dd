use Rattle.std.proofs.Common.{◌+◌, ◌*◌}
use Rattle.rel_parse.proofs.relation.+rel.Given as goal

abbrev pub decreases-rel : goal.decreases-rel
decreases-rel l = 4 * l.left

abbrev pub decreases-negation : goal.decreases-negation
decreases-negation l = 4 * l.left + 2

abbrev pub decreases-eventually : goal.decreases-eventually
decreases-eventually l = 4 * l.left + 2

abbrev pub decreases-connecting : goal.decreases-connecting
decreases-connecting l = 4 * l.left + 2

abbrev pub decreases-sided : goal.decreases-sided
decreases-sided l = 4 * l.left + 2

abbrev pub decreases-every : goal.decreases-every
decreases-every l = 4 * l.left + 3

abbrev pub decreases-exists : goal.decreases-exists
decreases-exists l = 4 * l.left + 3

abbrev pub decreases-part : goal.decreases-part
decreases-part l = 4 * l.left + 1
