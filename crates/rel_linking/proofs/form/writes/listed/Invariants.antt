use Rattle.rel_linking.proofs.FormsLists.{AreIndexed}
use Rattle.rel_linking.proofs.form.writes.listed.Given as goal

abbrev pub invariant-loop-i : goal.invariant-loop-i
invariant-loop-i l = AreIndexed l.names l.writes l.i
