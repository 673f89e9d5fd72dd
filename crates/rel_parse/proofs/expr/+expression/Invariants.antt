use Rattle.std.proofs.Common.{◌+◌, ◌*◌}
use Rattle.rel_parse.proofs.expr.+expression.Given as goal

abbrev pub decreases-expression : goal.decreases-expression
decreases-expression l = 3 * l.left

abbrev pub decreases-closed : goal.decreases-closed
decreases-closed l = 3 * l.left + 1

abbrev pub decreases-product : goal.decreases-product
decreases-product l = 3 * l.left + 1

abbrev pub decreases-operated : goal.decreases-operated
decreases-operated l = 3 * l.left + 1

abbrev pub decreases-parenthesized : goal.decreases-parenthesized
decreases-parenthesized l = 3 * l.left + 2

abbrev pub decreases-single : goal.decreases-single
decreases-single l = 3 * l.left + 2

abbrev pub decreases-old : goal.decreases-old
decreases-old l = 3 * l.left + 2
