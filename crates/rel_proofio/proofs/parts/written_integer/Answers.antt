-- A text that begins with a digit above 0, behind a minus or not, is an integer exactly where it parses.
use Rattle.std.proofs.Common.{◌∙◌, arith}
use Rattle.rel_proofio.proofs.Integers.{parsed_minus, parsed_plain}
use Rattle.rel_proofio.proofs.parts.written_integer.Goals as goal

pub returns-then-first-eq45 : goal.returns-then-first-eq45
returns-then-first-eq45 c =
    c.ok.ensures.value ∙ parsed_minus c.args.text.now c.parse.result c.parse.ensures.value.0 (grind arith) (grind arith)

pub returns-then-first-ge49 : goal.returns-then-first-ge49
returns-then-first-ge49 c =
    c.ok-then-first-ge49.ensures.value
    ∙ parsed_plain c.args.text.now c.parse-then-first-ge49.result c.parse-then-first-ge49.ensures.value.0 (grind arith)
