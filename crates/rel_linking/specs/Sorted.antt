-- A sequent whose formulas are closed and well sorted, and whose lists are short.
use Rattle.std.specs.Prelude.{ℕ, ◌<◌, ◌^◌, IsTrue, All, length}
use Rattle.rel_logic.specs.Syntax.{Sqt}
use Rattle.rel_logic.specs.Sorting.{is_well_sorted}

pub record IsWellSorted (q : Sqt) : Type 0 where
  pub hyps : All (λ f. IsTrue (is_well_sorted q.sorts f)) q.hyps
  pub goal : IsTrue (is_well_sorted q.sorts q.goal)
  pub few_variables : length q.sorts < 2 ^ 31
  pub few_hyps : length q.hyps < 2 ^ 30
