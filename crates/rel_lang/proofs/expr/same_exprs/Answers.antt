use Rattle.std.proofs.Common.{refl, arith}
use Rattle.rel_lang.specs.View.{expression_of}
use Rattle.rel_lang.proofs.Same.{same_whole}
use Rattle.rel_lang.proofs.expr.same_exprs.Goals as goal

pub returns : goal.returns
returns c = (λ _. same_whole expression_of _ _ c.loop-i.i (omega arith) (omega arith) c.loop-i.invariant, λ _. refl)
