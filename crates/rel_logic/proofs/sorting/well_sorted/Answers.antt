-- What a formula's being well sorted tells.
use Rattle.std.proofs.Common.{sym, ◌∙◌, map}
use Rattle.rel_logic.specs.View.{sort_of, fml_of}
use Rattle.rel_logic.proofs.Sorts.{well_sorted_closed, well_sorted_truth}
use Rattle.rel_logic.proofs.sorting.well_sorted.Goals as goal

pub returns-clause-closed : goal.returns-clause-closed
returns-clause-closed c = λ e. well_sorted_closed (map sort_of c.args.sorts.now) (fml_of c.args.f.now) (sym c.is_sorted_outside.ensures ∙ e)

pub returns-clause-truth : goal.returns-clause-truth
returns-clause-truth c = λ e. well_sorted_truth (map sort_of c.args.sorts.now) (fml_of c.args.f.now) (sym c.is_sorted_outside.ensures ∙ e)
