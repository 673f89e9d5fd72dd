use Rattle.rel_lang.proofs.Formed.{end_well_formed}
use Rattle.rel_lang.proofs.laws.typed_runs_end_well_formed.Goals as goal

pub returns : goal.returns
returns c = end_well_formed
