use Rattle.std.proofs.Common.{◌≡◌, true, arith}
use Rattle.rel_io.proofs.Places.{none_so_far}
use Rattle.rel_io.proofs.memory_files.place.Goals as goal

pub loop-i-preserved : goal.loop-i-preserved
loop-i-preserved c =
    none_so_far c.args.files.now c.args.name.now c.loop-i.i c.at.result.now (omega arith) c.loop-i.invariant c.at.ensures
    (λ e. let t : c.is_text.result ≡ true = c.is_text.ensures.1 e in cc)
