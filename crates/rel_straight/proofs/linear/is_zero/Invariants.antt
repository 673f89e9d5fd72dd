use Rattle.std.proofs.Common.{pos}
use Rattle.rel_straight.specs.declared.linear.Change.TheVariants.{Add}
use Rattle.rel_straight.proofs.Combine.{Progress}
use Rattle.rel_straight.proofs.linear.is_zero.Given as goal

-- the entries so far add nothing to 0
abbrev pub invariant-loop-number : goal.invariant-loop-number
invariant-loop-number l = Progress Add (λ v. pos 0) (λ v. pos 0) l.coefficients.entries l.number-iterator
