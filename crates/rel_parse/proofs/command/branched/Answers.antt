use Rattle.rel_parse.proofs.Blocks.{if_is}
use Rattle.rel_parse.proofs.command.branched.Goals as goal

pub returns : goal.returns
returns c = if_is c.args.test c.args.first c.args.second
