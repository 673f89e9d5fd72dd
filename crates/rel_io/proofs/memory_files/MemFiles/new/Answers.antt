use Rattle.rel_io.proofs.Places.{all_told}
use Rattle.rel_io.proofs.memory_files.MemFiles.new.Goals as goal

pub returns-clause-told : goal.returns-clause-told
returns-clause-told c = all_told c.args.files c.requires
