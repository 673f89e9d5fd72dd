-- The elements before this one gave the multiples so far.
use Rattle.serde_json.specs.View.{view}
use Rattle.rel_proofio.specs.Steps.{multiple_of}
use Rattle.rel_proofio.proofs.Loops.{IsReadTo}
use Rattle.rel_proofio.proofs.steps.multiples_among.Given as goal

abbrev pub invariant-loop-value : goal.invariant-loop-value
invariant-loop-value l = IsReadTo multiple_of view l.values l.value-index l.multiples
