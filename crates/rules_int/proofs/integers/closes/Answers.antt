-- The row without children.
use Rattle.std.proofs.lemmas.Result.{IfOk-weaker}
use Rattle.rel_logic.specs.View.{node_of}
use Rattle.rules_table.specs.View.{step_of}
use Rattle.rules_int.proofs.Closing.{closes_where}
use Rattle.rules_int.proofs.integers.closes.Goals as goal

pub returns : goal.returns
returns c = IfOk-weaker c.meets_closing_row.result _ _ (closes_where (node_of c.args.node.now) (step_of c.args.step.now)) c.meets_closing_row.ensures
