use Rattle.std.proofs.Common.{◌≡◌, map}
use Rattle.rel_derive.specs.Pile.{waits_at}
use Rattle.rel_derive.proofs.pile.waiting_children.Given as goal

abbrev pub invariant-loop-added : goal.invariant-loop-added
invariant-loop-added l = l.children.items ≡ map (waits_at l.node) l.yielded
