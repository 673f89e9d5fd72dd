use Rattle.std.proofs.Common.{map, take}
use Rattle.rel_lang.specs.View.{proc_of}
use Rattle.rel_types.specs.ByName.{Adds}
use Rattle.rel_types.specs.Known.{IsProcSeen}
use Rattle.rel_types.proofs.bodies.add_owns.Given as goal

abbrev pub invariant-loop-proc : goal.invariant-loop-proc
invariant-loop-proc l = Adds IsProcSeen (λ q. q.name) l.fn.bodies l.bodies (map proc_of (take l.proc-index l.proc-items))
