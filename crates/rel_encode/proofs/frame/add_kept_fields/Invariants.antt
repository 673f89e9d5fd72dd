use Rattle.std.proofs.Common.{◌≡◌, ◌++◌, map, take}
use Rattle.rel_logic.specs.View.{fml_of}
use Rattle.rel_encode.specs.Changes.{numbers_before, scope_before, store_before, effects_of}
use Rattle.rel_encode.proofs.Gathered.{gathered, of_field}
use Rattle.rel_encode.proofs.frame.add_kept_fields.Given as goal

abbrev pub invariant-loop-i : goal.invariant-loop-i
invariant-loop-i l =
    map fml_of l.facts
    ≡ map fml_of l.initial.facts ++ gathered (of_field (effects_of l.change) (numbers_before l.change) (scope_before l.change) (store_before l.change))
    (take l.i l.fields) (take l.i l.before) (take l.i l.after)
