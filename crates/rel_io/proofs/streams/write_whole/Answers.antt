use Rattle.std.proofs.Common.{rules}
use Rattle.rel_io.proofs.Pieces.{one_more_written}
use Rattle.rel_io.proofs.streams.write_whole.Goals as goal

pub loop-preserved : goal.loop-preserved
loop-preserved g c = record {
  within = search rules;
  taken = one_more_written _ (g.W.Write.contents c.loop.writer) _ c.args.content.now c.loop.at c.in_ok-at.field-0 c.loop.invariant.taken c.in_ok-at.ensures.taken;
}
