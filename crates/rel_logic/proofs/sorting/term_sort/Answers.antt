-- What a term's sort tells.
use Rattle.std.proofs.Common.{sym, ◌∙◌, map}
use Rattle.rel_logic.specs.View.{sort_of, trm_of}
use Rattle.rel_logic.proofs.Sorts.{sorted_term_closed, sorted_value}
use Rattle.rel_logic.proofs.sorting.term_sort.Goals as goal

pub returns-clause-closed : goal.returns-clause-closed
returns-clause-closed c = λ s e. sorted_term_closed (map sort_of c.args.sorts.now) (trm_of c.args.t.now) s (sym c.sort_outside.ensures ∙ e)

pub returns-clause-value : goal.returns-clause-value
returns-clause-value c = λ s e. sorted_value (map sort_of c.args.sorts.now) (trm_of c.args.t.now) s (sym c.sort_outside.ensures ∙ e)
