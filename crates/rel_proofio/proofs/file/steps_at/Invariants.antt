-- The elements before this one gave the steps so far.
use Rattle.serde_json.specs.View.{view}
use Rattle.rules_table.specs.View.{step_of}
use Rattle.rel_proofio.specs.ProofFile.{step_at}
use Rattle.rel_proofio.proofs.Loops.{IsTakenTo}
use Rattle.rel_proofio.proofs.file.steps_at.Given as goal

abbrev pub invariant-loop-number : goal.invariant-loop-number
invariant-loop-number l = IsTakenTo (step_at l.proof) view step_of l.values l.number l.steps
