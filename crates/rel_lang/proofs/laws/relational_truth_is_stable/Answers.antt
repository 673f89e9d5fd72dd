use Rattle.rel_lang.proofs.Stable.{stable}
use Rattle.rel_lang.proofs.laws.relational_truth_is_stable.Goals as goal

pub returns : goal.returns
returns c = stable
