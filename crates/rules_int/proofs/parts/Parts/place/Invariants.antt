use Rattle.std.proofs.Common.{◌≡◌, false, take}
use Rattle.rel_logic.specs.View.{trm_of}
use Rattle.rules_int.specs.Entries.{has_atom}
use Rattle.rules_int.specs.Forms.{entries_of}
use Rattle.rules_int.proofs.parts.Parts.place.Given as goal

abbrev pub invariant-loop-i : goal.invariant-loop-i
invariant-loop-i l = has_atom (take l.i (entries_of l.self)) (trm_of l.atom) ≡ false
