use Rattle.rel_top.proofs.Verdicts.{faulty_answer}
use Rattle.rel_top.proofs.check.faulty.Goals as goal

pub returns : goal.returns
returns c = faulty_answer c.with_line.result _ c.with_line.ensures c.args.fault c.in_ok-text_fault.ensures.some c.in_ok-text_fault.ensures.line
