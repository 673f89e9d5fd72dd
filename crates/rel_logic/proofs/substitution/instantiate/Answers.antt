-- Putting the term changes the truth as taking its value for the bound number does.
use Rattle.rel_logic.specs.View.{trm_of, fml_of}
use Rattle.rel_logic.proofs.Answered.{instantiate_truth}
use Rattle.rel_logic.proofs.substitution.instantiate.Goals as goal

pub returns-clause-truth : goal.returns-clause-truth
returns-clause-truth c = instantiate_truth (trm_of c.args.t.now) c.requires.closed (fml_of c.args.body.now) c.put.result c.put.ensures
