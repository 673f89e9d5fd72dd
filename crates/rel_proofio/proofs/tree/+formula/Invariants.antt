use Rattle.std.proofs.Common.{◌+◌, ◌*◌}
use Rattle.rel_proofio.proofs.tree.+formula.Given as goal

abbrev pub decreases-formula : goal.decreases-formula
decreases-formula l = 4 * l.depth

abbrev pub decreases-formula_with : goal.decreases-formula_with
decreases-formula_with l = 4 * l.depth + 3

abbrev pub decreases-boxed_formula : goal.decreases-boxed_formula
decreases-boxed_formula l = 4 * l.depth + 1

abbrev pub decreases-one_formula : goal.decreases-one_formula
decreases-one_formula l = 4 * l.depth + 2

abbrev pub decreases-two_formulas : goal.decreases-two_formulas
decreases-two_formulas l = 4 * l.depth + 2

abbrev pub decreases-sort_and_formula : goal.decreases-sort_and_formula
decreases-sort_and_formula l = 4 * l.depth + 2
