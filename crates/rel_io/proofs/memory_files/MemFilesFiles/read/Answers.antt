use Rattle.std.proofs.Common.{◌≡◌}
use Rattle.rel_io.specs.Told.{bytes}
use Rattle.rel_io.specs.Memory.{told_in}
use Rattle.rel_io.proofs.Places.{unless_failed}
use Rattle.rel_io.proofs.memory_files.MemFilesFiles.read.Goals as goal

pub returns-in-Some-clause-value : goal.returns-in-Some-clause-value
returns-in-Some-clause-value c = rw c.in-Some.ensures.found c.copy_within.ensures.value

pub returns-in-Some-clause-too_long : goal.returns-in-Some-clause-too_long
returns-in-Some-clause-too_long c = rw c.in-Some.ensures.found c.copy_within.ensures.too_long

pub returns-in-Some-clause-not_missing : goal.returns-in-Some-clause-not_missing
returns-in-Some-clause-not_missing c =
    unless_failed c.copy_within.result _ (λ e. let told : told_in c.args.self.now.files c.args.name.now ≡ bytes c.in-Some.content.now = c.in-Some.ensures.found in cc)
