use Rattle.std.proofs.Common.{take}
use Rattle.rel_top.specs.Ending.{output, IsPrinted}
use Rattle.rel_top.proofs.run.put_lines.Given as goal

-- the lines so far were printed
abbrev pub invariant-loop-line : goal.invariant-loop-line
invariant-loop-line g l =
    IsPrinted (output (g.S.Sink.written l.fn.out) (g.S.Sink.written l.out) (g.S.Sink.faults l.fn.out) (g.S.Sink.faults l.out)) (take l.line-index l.lines)
