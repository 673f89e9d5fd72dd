use Rattle.rel_top.proofs.Verdicts.{no_proof_answer}
use Rattle.rel_top.proofs.check.without_proof.Goals as goal

pub returns : goal.returns
returns c = no_proof_answer c.with_line.result _ c.with_line.ensures c.args.bundle.now c.in_ok-proof_not_built.ensures
