use Rattle.std.proofs.Common.{map, take}
use Rattle.rel_lang.specs.View.{body_of}
use Rattle.rel_types.specs.ByName.{Adds, AreLocals}
use Rattle.rel_types.proofs.bodies.add_locals.Given as goal

abbrev pub invariant-loop-name : goal.invariant-loop-name
invariant-loop-name l = Adds AreLocals (λ b. b.0) l.fn.bodies l.bodies (map (λ p. (p.0, body_of p.1)) (take l.name-index l.name-items))
