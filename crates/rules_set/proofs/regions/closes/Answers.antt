-- The two rows without children.
use Rattle.rules_set.proofs.Closing.{closes_where}
use Rattle.rel_logic.specs.View.{node_of}
use Rattle.rules_table.specs.View.{step_of}
use Rattle.rules_set.proofs.regions.closes.Goals as goal

pub returns : goal.returns
returns c = closes_where (node_of c.args.node.now) (step_of c.args.step.now) c.meets_closing_row.result c.meets_closing_row.ensures
