use Rattle.rel_lang.proofs.Programs.{units}
use Rattle.rel_lang.proofs.laws.unit_programs_are_typed.Goals as goal

pub returns : goal.returns
returns c = units
