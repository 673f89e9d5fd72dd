use Rattle.std.proofs.Common.{◌++◌, map, take}
use Rattle.rel_lang.specs.Typed.{signature_of_proc}
use Rattle.rel_lang.specs.View.{proc_of}
use Rattle.rel_flaws.specs.CodeView.{callees_seen}
use Rattle.rel_types.specs.Called.{SameCallees}
use Rattle.rel_types.proofs.called.add_procs.Given as goal

abbrev pub invariant-loop-proc : goal.invariant-loop-proc
invariant-loop-proc l = SameCallees (callees_seen l.callees) (callees_seen l.fn.callees ++ map (λ q. signature_of_proc (proc_of q)) (take l.proc-index l.proc-items))
