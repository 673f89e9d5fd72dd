use Rattle.std.proofs.Common.{◌≡◌, ◌++◌, map, take}
use Rattle.rel_logic.specs.View.{fml_of}
use Rattle.rel_encode.specs.Changes.{effects_of}
use Rattle.rel_encode.proofs.Gathered.{gathered, of_kept}
use Rattle.rel_encode.proofs.frame.add_kept_variables.Given as goal

abbrev pub invariant-loop-i : goal.invariant-loop-i
invariant-loop-i l =
    map fml_of l.facts ≡ map fml_of l.initial.facts ++ gathered (of_kept (effects_of l.change)) (take l.i l.scope) (take l.i l.before) (take l.i l.after)
