-- The elements before this one gave the derivations so far.
use Rattle.std.proofs.Common.{map}
use Rattle.serde_json.specs.View.{view}
use Rattle.rules_table.specs.View.{step_of}
use Rattle.rel_proofio.specs.ProofFile.{derivation_at}
use Rattle.rel_proofio.proofs.Loops.{IsTakenTo}
use Rattle.rel_proofio.proofs.file.derivations_among.Given as goal

abbrev pub invariant-loop-number : goal.invariant-loop-number
invariant-loop-number l = IsTakenTo derivation_at view (map step_of) l.values l.number l.derivations
