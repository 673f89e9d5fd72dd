use Rattle.std.proofs.Common.{◌↔◌, drop}
use Rattle.std.specs.List.{AllByRecursion}
use Rattle.rel_linking.specs.Parts.{IsOfGlobal}
use Rattle.rel_linking.proofs.form.writes.are_globals.Given as goal

abbrev pub invariant-loop-i : goal.invariant-loop-i
invariant-loop-i l = AllByRecursion IsOfGlobal l.writes ↔ AllByRecursion IsOfGlobal (drop l.i l.writes)
