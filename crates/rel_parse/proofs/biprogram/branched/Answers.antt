use Rattle.rel_parse.proofs.Biblocks.{if_is}
use Rattle.rel_parse.proofs.biprogram.branched.Goals as goal

pub returns : goal.returns
returns c = if_is c.args.left c.args.right c.args.first c.args.second
