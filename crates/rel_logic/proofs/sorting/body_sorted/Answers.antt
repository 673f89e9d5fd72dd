-- A formula that is sorted under one bound number has one free bound number at most.
use Rattle.std.proofs.Common.{map, sym, ◌∙◌}
use Rattle.rel_logic.specs.View.{sort_of, fml_of}
use Rattle.rel_logic.proofs.Sorts.{body_bound}
use Rattle.rel_logic.proofs.sorting.body_sorted.Goals as goal

pub returns : goal.returns
returns c = record {
  exact = c.is_body.ensures;
  one = λ e. body_bound (map sort_of c.args.sorts.now) (sort_of c.args.sort) (fml_of c.args.f.now) (sym c.is_body.ensures ∙ e);
}
