use Rattle.std.proofs.Common.{◌≡◌, map, take}
use Rattle.rel_types.proofs.methods.method_names.Given as goal

abbrev pub invariant-loop-method : goal.invariant-loop-method
invariant-loop-method l = map (λ n. n.now) l.names.items ≡ map (λ q. q.name) (take l.method-index l.method-items)
