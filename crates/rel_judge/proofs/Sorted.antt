-- The node of a well sorted sequent is sound.
use Rattle.std.proofs.Common.{IsTrue, arith}
use Rattle.std.proofs.lemmas.List.{length_push}
use Rattle.std.proofs.lemmas.List.Elements.{All-push}
use Rattle.rel_logic.specs.Syntax.{Sqt, no}
use Rattle.rel_logic.specs.Sorting.{is_well_sorted}
use Rattle.rules_table.specs.Nodes.{IsSound}
use Rattle.rel_derive.specs.Rules.{first_node}
use Rattle.rel_linking.specs.Sorted.{IsWellSorted}

pub node_is_sound : (q : Sqt) → IsWellSorted q → IsSound (first_node q)
node_is_sound q h = record {
  sorted = All-push (λ f. IsTrue (is_well_sorted q.sorts f)) q.hyps (no q.goal) h.hyps h.goal;
  variables = h.few_variables;
  formulas = let few = h.few_hyps in omega (arith, few, length_push q.hyps (no q.goal));
}
