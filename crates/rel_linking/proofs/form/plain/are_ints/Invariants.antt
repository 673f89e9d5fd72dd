use Rattle.std.proofs.Common.{◌↔◌, drop}
use Rattle.std.specs.List.{AllByRecursion}
use Rattle.rel_linking.specs.Parts.{IsInt}
use Rattle.rel_linking.proofs.form.plain.are_ints.Given as goal

abbrev pub invariant-loop-i : goal.invariant-loop-i
invariant-loop-i l = AllByRecursion IsInt l.declared ↔ AllByRecursion IsInt (drop l.i l.declared)
