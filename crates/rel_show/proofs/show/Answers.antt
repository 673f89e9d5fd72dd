use Rattle.std.proofs.Common.{[]}
use Rattle.rel_show.proofs.Repetitions.{whole_more}
use Rattle.rel_show.proofs.Items.{by_line}
use Rattle.rel_show.proofs.show.Goals as goal

pub loop-item-preserved : goal.loop-item-preserved
loop-item-preserved c =
    whole_more _ _ by_line 1 [] _ _ c.args.b.now.items _ c.loop-item.item-index _ c.as_slice-item-items.ensures c.loop-item-test.true c.item-item.is c.loop-item.invariant c.in_ok-show_line.ensures
