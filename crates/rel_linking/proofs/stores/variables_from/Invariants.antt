use Rattle.std.proofs.Common.{◌≡◌, map}
use Rattle.rel_logic.specs.View.{trm_of}
use Rattle.rel_linking.specs.Obligation.{variables_from}
use Rattle.rel_linking.proofs.stores.variables_from.Given as goal

abbrev pub invariant-loop-i : goal.invariant-loop-i
invariant-loop-i l = map trm_of l.variables ≡ variables_from l.first l.i
