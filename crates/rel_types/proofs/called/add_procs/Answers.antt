use Rattle.rel_lang.specs.Typed.{signature_of_proc}
use Rattle.rel_lang.specs.View.{proc_of}
use Rattle.rel_flaws.specs.CodeView.{callees_seen}
use Rattle.rel_types.proofs.Calling.{more_callees}
use Rattle.rel_types.proofs.called.add_procs.Goals as goal

pub loop-proc-preserved : goal.loop-proc-preserved
loop-proc-preserved c =
    more_callees (λ q. signature_of_proc (proc_of q)) (callees_seen c.add_proc.new.callees) (callees_seen c.loop-proc.callees) (callees_seen c.args.callees.now)
    c.as_slice-proc-items.result.now c.loop-proc.proc-index c.proc-item.result c.loop-proc-test.true c.proc-item.is c.loop-proc.invariant c.in_ok-add_proc.ensures
