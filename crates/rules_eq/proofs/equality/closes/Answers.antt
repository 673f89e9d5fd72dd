-- No row here closes a node.
use Rattle.rel_logic.specs.View.{node_of}
use Rattle.rules_table.specs.View.{step_of}
use Rattle.rules_eq.proofs.Closing.{closes_nowhere}
use Rattle.rules_eq.proofs.equality.closes.Goals as goal

pub returns : goal.returns
returns c = closes_nowhere (node_of c.args._node.now) (step_of c.args._step.now)
