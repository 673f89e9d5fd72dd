use Rattle.rel_top.proofs.Verdicts.{line_more}
use Rattle.rel_top.proofs.show.lines_of.Goals as goal

pub loop-item-preserved : goal.loop-item-preserved
loop-item-preserved c =
    line_more _ _ _ c.args.items.now _ c.loop-item.item-index _ c.as_slice-item-items.ensures c.loop-item-test.true c.item-item.is c.in_ok-line_of.ensures c.loop-item.invariant c.in_ok-push.ensures.ok
