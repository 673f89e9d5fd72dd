use Rattle.rel_lang.specs.View.{proc_of}
use Rattle.rel_types.specs.Known.{IsProcSeen}
use Rattle.rel_types.proofs.Knowing.{adds_one}
use Rattle.rel_types.proofs.bodies.add_own.Goals as goal

pub returns : goal.returns
returns c =
    adds_one IsProcSeen (λ q. q.name) c.args.bodies.now c.insert.new.self (proc_of c.args.proc.now) c.as_str.result.now c.of_proc.result c.in_ok-insert.ensures c.as_str.ensures
    (record { params = c.of_proc.ensures.params; locals = c.of_proc.ensures.locals; result = c.of_proc.ensures.result })
