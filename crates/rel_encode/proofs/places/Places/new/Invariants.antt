use Rattle.std.proofs.Common.{take}
use Rattle.rel_encode.specs.Places.{ArePlaces}
use Rattle.rel_encode.proofs.places.Places.new.Given as goal

abbrev pub invariant-loop-i : goal.invariant-loop-i
invariant-loop-i g l = ArePlaces g.T.Named.word (take l.i l.items) l.index
