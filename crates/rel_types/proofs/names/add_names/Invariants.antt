use Rattle.rel_types.specs.Lookups.{names_in}
use Rattle.rel_types.specs.OwnView.{names_before}
use Rattle.rel_types.proofs.Repeats.{AreGoneOver}
use Rattle.rel_types.proofs.names.add_names.Given as goal

abbrev pub invariant-loop-decl : goal.invariant-loop-decl
invariant-loop-decl l = AreGoneOver (names_before l.before) (names_in l.fn.own) (names_in l.own) l.repeated l.decl-items l.decl-index
