use Rattle.std.proofs.Common.{◌+◌, ◌*◌}
use Rattle.rel_proofio.proofs.tree.+term.Given as goal

abbrev pub decreases-term : goal.decreases-term
decreases-term l = 5 * l.depth

abbrev pub decreases-term_with : goal.decreases-term_with
decreases-term_with l = 5 * l.depth + 4

abbrev pub decreases-boxed_term : goal.decreases-boxed_term
decreases-boxed_term l = 5 * l.depth + 1

abbrev pub decreases-one_term : goal.decreases-one_term
decreases-one_term l = 5 * l.depth + 3

abbrev pub decreases-two_terms : goal.decreases-two_terms
decreases-two_terms l = 5 * l.depth + 2

abbrev pub decreases-three_terms : goal.decreases-three_terms
decreases-three_terms l = 5 * l.depth + 3

abbrev pub decreases-multiple : goal.decreases-multiple
decreases-multiple l = 5 * l.depth + 3

abbrev pub decreases-class_and_term : goal.decreases-class_and_term
decreases-class_and_term l = 5 * l.depth + 3
