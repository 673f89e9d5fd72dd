-- Facts that hold at some of the answers of a read or a write.
use Rattle.std.specs.Prelude.{Result, Ok, Err, ⊤}
use Rattle.rel_io.specs.declared.files.FileFault.{FileFault}
use Rattle.rel_io.specs.declared.files.FileFault.TheVariants.{Failed, TooLong, Memory}

-- p, where the answer is a failure
abbrev pub IfFailed : {T : Type 0} → Result T FileFault → Type 0 → Type 0
IfFailed (Ok value) p = ⊤
IfFailed (Err Failed) p = p
IfFailed (Err TooLong) p = ⊤
IfFailed (Err Memory) p = ⊤

-- p, where it is any other answer
abbrev pub UnlessFailed : {T : Type 0} → Result T FileFault → Type 0 → Type 0
UnlessFailed (Ok value) p = p
UnlessFailed (Err Failed) p = ⊤
UnlessFailed (Err TooLong) p = p
UnlessFailed (Err Memory) p = p

-- p, where the answer is that there are too many bytes
abbrev pub IfTooLong : {T : Type 0} → Result T FileFault → Type 0 → Type 0
IfTooLong (Ok value) p = ⊤
IfTooLong (Err Failed) p = ⊤
IfTooLong (Err TooLong) p = p
IfTooLong (Err Memory) p = ⊤
