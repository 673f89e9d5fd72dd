use Rattle.std.proofs.Common.{◌≡◌, ◌<◌, ℕ, ◌*ℤ◌, pos, get_or}
use Rattle.rel_logic.specs.Syntax.{var}
use Rattle.rules_int.specs.Forms.{parts_at}
use Rattle.rules_int.proofs.dense.Dense.variables_are_multiples.Given as goal

abbrev pub invariant-loop-n : goal.invariant-loop-n
invariant-loop-n l = (m : ℕ) → m < l.n → get_or l.self.variables.items m (pos 0) ≡ l.k *ℤ parts_at l.other (var m)
