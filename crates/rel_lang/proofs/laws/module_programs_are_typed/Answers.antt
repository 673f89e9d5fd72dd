use Rattle.rel_lang.proofs.Programs.{modules}
use Rattle.rel_lang.proofs.laws.module_programs_are_typed.Goals as goal

pub returns : goal.returns
returns c = modules
