use Rattle.rel_lang.specs.State.{tables_of}
use Rattle.rel_lang.specs.View.{bundle_of}
use Rattle.rel_types.proofs.Numbering.{AreGathered}
use Rattle.rel_types.proofs.numbers.numbers_of.Given as goal

abbrev pub invariant-loop-item : goal.invariant-loop-item
invariant-loop-item l = AreGathered (tables_of (bundle_of l.bundle)) l.classes l.fields l.bundle.items l.item-index
