use Rattle.std.proofs.Common.{◌≡◌, take, map}
use Rattle.rel_lang.specs.View.{expression_of}
use Rattle.rel_lang.proofs.expr.same_exprs.Given as goal

abbrev pub invariant-loop-i : goal.invariant-loop-i
invariant-loop-i l = map expression_of (take l.i l.a) ≡ map expression_of (take l.i l.b)
