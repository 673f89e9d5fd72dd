-- the lines of the items before this one
use Rattle.std.proofs.Common.{◌≡◌, take, map}
use Rattle.rel_lang.specs.View.{item_of}
use Rattle.rel_report.specs.Lines.{item_lines}
use Rattle.rel_report.proofs.accepted.item_lines.Given as goal

abbrev pub invariant-loop-number : goal.invariant-loop-number
invariant-loop-number l = l.lines ≡ item_lines (map item_of (take l.number l.items)) l.counts
