use Rattle.rel_lang.specs.View.{proc_of}
use Rattle.rel_types.specs.Known.{IsProcSeen}
use Rattle.rel_types.proofs.Knowing.{adds_none, adds_more, adds_all}
use Rattle.rel_types.proofs.bodies.add_owns.Goals as goal

pub loop-proc-init : goal.loop-proc-init
loop-proc-init c = adds_none IsProcSeen (λ q. q.name) c.args.bodies.now

pub loop-proc-preserved : goal.loop-proc-preserved
loop-proc-preserved c =
    adds_more IsProcSeen (λ q. q.name) proc_of c.args.bodies.now c.loop-proc.bodies c.add_own.new.bodies c.as_slice-proc-items.result.now c.loop-proc.proc-index c.proc-item.result
    c.loop-proc-test.true c.proc-item.is c.loop-proc.invariant c.in_ok-add_own.ensures

pub returns : goal.returns
returns c =
    adds_all IsProcSeen (λ q. q.name) (λ l. l) proc_of c.args.bodies.now c.loop-proc.bodies c.as_slice-proc-items.result.now c.args.procs.now c.loop-proc.proc-index
    c.loop-proc-test.false c.as_slice-proc-items.ensures c.loop-proc.invariant
