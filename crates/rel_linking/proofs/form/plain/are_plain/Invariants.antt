use Rattle.std.proofs.Common.{◌↔◌, drop}
use Rattle.std.specs.List.{AllByRecursion}
use Rattle.rel_linking.specs.Parts.{IsPlainIn}
use Rattle.rel_linking.proofs.form.plain.are_plain.Given as goal

abbrev pub invariant-loop-i : goal.invariant-loop-i
invariant-loop-i l = AllByRecursion (IsPlainIn l.names) l.commands ↔ AllByRecursion (IsPlainIn l.names) (drop l.i l.commands)
