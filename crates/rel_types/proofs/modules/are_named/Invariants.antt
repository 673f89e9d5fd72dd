use Rattle.std.proofs.Common.{◌≡◌}
use Rattle.rel_types.proofs.SameNames.{same_from}
use Rattle.rel_types.proofs.modules.are_named.Given as goal

abbrev pub invariant-loop-i : goal.invariant-loop-i
invariant-loop-i l = same_from (λ b. b.0) (λ n. n.now) l.methods l.names 0 ≡ same_from (λ b. b.0) (λ n. n.now) l.methods l.names l.i
