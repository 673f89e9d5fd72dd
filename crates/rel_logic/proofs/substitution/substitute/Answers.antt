-- Putting the term changes the truth as changing the valuation does.
use Rattle.rel_logic.specs.View.{trm_of, fml_of}
use Rattle.rel_logic.proofs.Answered.{substitute_truth}
use Rattle.rel_logic.proofs.substitution.substitute.Goals as goal

pub returns-clause-truth : goal.returns-clause-truth
returns-clause-truth c = substitute_truth (trm_of c.args.t.now) c.requires (fml_of c.args.f.now) c.args.var c.put.result c.put.ensures
