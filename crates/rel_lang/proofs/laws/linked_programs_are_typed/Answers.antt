use Rattle.rel_lang.proofs.Programs.{linked_programs}
use Rattle.rel_lang.proofs.laws.linked_programs_are_typed.Goals as goal

pub returns : goal.returns
returns c = linked_programs
