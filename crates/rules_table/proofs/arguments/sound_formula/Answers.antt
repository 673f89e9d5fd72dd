-- A well-sorted formula is closed.
use Rattle.rules_table.proofs.Closed.{closed_at}
use Rattle.rel_logic.specs.View.{fml_of, node_of}
use Rattle.rules_table.proofs.arguments.sound_formula.Goals as goal

pub returns : goal.returns
returns c = closed_at (λ f. fml_of f.now) (node_of c.args.node.now) c.requires c.args.i c.formula_at.result c.formula_at.ensures
