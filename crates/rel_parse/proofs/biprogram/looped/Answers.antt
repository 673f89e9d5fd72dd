use Rattle.rel_parse.proofs.Biblocks.{while_is}
use Rattle.rel_parse.proofs.biprogram.looped.Goals as goal

pub returns : goal.returns
returns c = while_is c.args.head c.args.body
