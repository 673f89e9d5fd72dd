use Rattle.std.proofs.Common.{◌≡◌, ◌-◌, map, take}
use Rattle.rel_lang.specs.View.{effect_of}
use Rattle.rel_logic.specs.View.{fml_of}
use Rattle.rel_encode.specs.Frame.{outside_places}
use Rattle.rel_encode.specs.Changes.{numbers_before, scope_before, store_before, effects_of}
use Rattle.rel_encode.proofs.frame.outside_places.Given as goal

abbrev pub invariant-loop-i : goal.invariant-loop-i
invariant-loop-i l =
    outside_places (numbers_before l.change) (scope_before l.change) (store_before l.change) (take (l.n - l.i) (effects_of l.change)) l.f (fml_of l.outside)
    ≡ outside_places (numbers_before l.change) (scope_before l.change) (store_before l.change) (effects_of l.change) l.f (fml_of l.fn.body)
