use Rattle.rel_encode.proofs.Small.{exact_linkable}
use Rattle.rel_encode.proofs.laws_of_states.linkable_is_exact.Goals as goal

pub returns : goal.returns
returns c = exact_linkable
