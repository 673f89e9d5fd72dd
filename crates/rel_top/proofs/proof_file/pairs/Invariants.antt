-- The elements before this one gave the pairs so far.
use Rattle.serde_json.specs.View.{view}
use Rattle.rel_top.specs.ProofFile.{pair_of}
use Rattle.rel_top.proofs.ProofFiles.{IsReadTo}
use Rattle.rel_top.proofs.proof_file.pairs.Given as goal

abbrev pub invariant-loop-value : goal.invariant-loop-value
invariant-loop-value l = IsReadTo pair_of view l.values l.value-index l.pairs
