use Rattle.rules_int.proofs.Summing.{nothing_like}
use Rattle.rules_int.proofs.sums.nothing.Goals as goal

pub returns : goal.returns
returns c = nothing_like c.new.result c.new.ensures
