use Rattle.rel_parse.proofs.Blocks.{while_is}
use Rattle.rel_parse.proofs.command.looped.Goals as goal

pub returns : goal.returns
returns c = while_is c.args.test c.args.invariant c.args.body
