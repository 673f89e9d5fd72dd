-- What a function of the code returned is what is read, unless memory ran out.
use Rattle.std.specs.Prelude.{◌≡◌, List, Result, Ok, Err}
use Rattle.rel_lang.specs.Refusal.{Unexpected, TooDeep, TooMany}
use Rattle.rel_lexer.specs.declared.Token.{Token}
use Rattle.rel_parse.specs.declared.fault.Fault.{Fault}
use Rattle.rel_parse.specs.declared.fault.Fault.TheVariants as faults
use Rattle.rel_parse.specs.Reading.{Reading, Got, Refused}

abbrev pub Fails : {Y : Type 0} → Fault → Reading Y → Type 0
Fails (faults.Unexpected left) read = read ≡ Refused Unexpected left
Fails (faults.TooDeep left) read = read ≡ Refused TooDeep left
Fails (faults.TooMany left) read = read ≡ Refused TooMany left
Fails faults.Memory read = Unit {0}

-- seen by view, as a tree and the tokens behind it
abbrev pub Gives : {X Y : Type 0} → (X → Y × List Token) → Result X Fault → Reading Y → Type 0
Gives view (Ok x) read = read ≡ Got (view x).0 (view x).1
Gives view (Err e) read = Fails e read
