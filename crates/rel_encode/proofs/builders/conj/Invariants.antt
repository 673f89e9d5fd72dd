use Rattle.std.proofs.Common.{◌≡◌, ◌+◌, map, length}
use Rattle.rel_logic.specs.View.{fml_of}
use Rattle.rel_encode.specs.Formulas.{conj}
use Rattle.rel_encode.proofs.Joins.{onto}
use Rattle.rel_encode.proofs.builders.conj.Given as goal

abbrev pub invariant-loop : goal.invariant-loop
invariant-loop l = record {
  whole : onto (map fml_of l.formulas-inside.items.items) (fml_of l.all) ≡ conj (map fml_of l.fn.formulas);
  left : length l.formulas-inside.items.items + l.counter ≡ l.end;
}
