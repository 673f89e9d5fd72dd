use Rattle.std.proofs.Common.{map, take}
use Rattle.rel_lang.specs.View.{effect_of}
use Rattle.rel_encode.specs.Changes.{AreListed}
use Rattle.rel_encode.proofs.frame.listed.Given as goal

abbrev pub invariant-loop-i : goal.invariant-loop-i
invariant-loop-i l = AreListed l.index (take l.i (map effect_of l.writes))
