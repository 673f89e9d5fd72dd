-- Each step puts the formula outside of one more place, from the last to the first.
use Rattle.std.proofs.Common.{◌+◌, ◌-◌, ◌∙◌, arith}
use Rattle.rel_logic.specs.View.{fml_of}
use Rattle.rel_encode.specs.Changes.{numbers_before, scope_before, store_before}
use Rattle.rel_encode.proofs.Changed.{one_outside}
use Rattle.rel_encode.proofs.frame.outside_places.Goals as goal

pub loop-i-preserved : goal.loop-i-preserved
loop-i-preserved c =
    let change = c.args.change.now in
    let n = c.len-n.result in
    let i = c.loop-i.i in
    one_outside (numbers_before change) (scope_before change) (store_before change) change.writes.now (n - i) (n - (i + 1)) c.at.result.now c.args.f.now
    (fml_of c.loop-i.outside) (fml_of c.in_ok-outside-2.outside) (omega arith) (omega arith) c.at.ensures c.in_ok-outside-2.ensures
    ∙ c.loop-i.invariant
