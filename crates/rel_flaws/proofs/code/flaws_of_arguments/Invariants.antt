use Rattle.std.proofs.Common.{◌≡◌, ◌≤◌, drop, map, length}
use Rattle.rel_lang.specs.View.{expression_of, decl_of}
use Rattle.rel_flaws.specs.Code.{flaws_of_arguments}
use Rattle.rel_flaws.specs.View.{tables_seen, scope_of, flaws_of}
use Rattle.rel_flaws.proofs.code.flaws_of_arguments.Given as goal

abbrev pub invariant-loop-i : goal.invariant-loop-i
invariant-loop-i l = record {
  within : l.i ≤ length l.args;
  gathered : flaws_of l.flaws ≡ flaws_of_arguments (tables_seen l.tables) (scope_of l.scope) (map expression_of (drop l.i l.args)) (map decl_of (drop l.i l.params));
}

abbrev pub decreases-loop-i : goal.decreases-loop-i
decreases-loop-i l = l.i
