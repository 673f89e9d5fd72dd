use Rattle.std.proofs.Common.{arith}
use Rattle.rel_io.proofs.Pieces.{one_more_given}
use Rattle.rel_io.proofs.streams.read_within.Goals as goal

pub returns-in_err-read_piece-clause-takes : goal.returns-in_err-read_piece-clause-takes
returns-in_err-read_piece-clause-takes g c =
    let step = c.read_piece.ensures.takes in
    one_more_given _ _ _ c.loop.content.items step.0 c.args.limit (omega (arith, step.1)) c.loop.invariant.given step.2
