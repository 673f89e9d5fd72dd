-- The steps, additions and outcomes that the code's values stand for.
use Rattle.std.specs.Prelude.{map}
use Rattle.rel_logic.specs.View.{sort_of, trm_of, fml_of}
use Rattle.rules_table.specs.declared.step.Step.{Step}
use Rattle.rules_table.specs.declared.theory.Added.{Added}
use Rattle.rules_table.specs.declared.theory.Answer.{Answer}
use Rattle.rules_table.specs.declared.theory.Answer.TheVariants as A
use Rattle.rules_table.specs.Nodes.{Stp, Addition, Outcome, not_mine, bad, kids}

abbrev pub step_of : Step → Stp
step_of s = record { row = s.row; nums = s.nums; ints = s.ints; terms = map trm_of s.terms; forms = map fml_of s.forms; class = s.class }

abbrev pub addition_of : Added → Addition
addition_of a = record { fresh = map sort_of a.fresh; forms = map fml_of a.forms }

abbrev pub outcome_of : Answer → Outcome
outcome_of A.NotMine = not_mine
outcome_of A.Bad = bad
outcome_of (A.Kids added) = kids (map addition_of added)
