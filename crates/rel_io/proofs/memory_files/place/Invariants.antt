-- None of the files before the index has the name.
use Rattle.std.proofs.Common.{◌≡◌, take}
use Rattle.rel_io.specs.Told.{absent}
use Rattle.rel_io.specs.Memory.{told_in}
use Rattle.rel_io.proofs.memory_files.place.Given as goal

abbrev pub invariant-loop-i : goal.invariant-loop-i
invariant-loop-i l = told_in (take l.i l.files) l.name ≡ absent
