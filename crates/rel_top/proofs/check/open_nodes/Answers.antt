use Rattle.rel_top.proofs.Verdicts.{open_nodes_answer}
use Rattle.rel_top.proofs.check.open_nodes.Goals as goal

pub returns : goal.returns
returns c = open_nodes_answer c.with_line.result _ c.with_line.ensures c.args.bundle.now c.at.result.now c.args.nodes c.requires c.at.ensures c.in_ok-line.ensures
