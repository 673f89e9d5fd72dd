use Rattle.rel_report.proofs.Counted.{lines_more}
use Rattle.rel_report.proofs.accepted.item_lines.Goals as goal

pub loop-number-preserved : goal.loop-number-preserved
loop-number-preserved c =
    lines_more _ _ _ c.args.items.now _ c.args.counts.now c.loop-number.number _ _ c.as_slice-item-items.ensures c.requires c.loop-number-test.true c.item-item.is
    c.at.ensures c.in_ok-item_line.ensures c.loop-number.invariant c.in_ok-push.ensures.ok
