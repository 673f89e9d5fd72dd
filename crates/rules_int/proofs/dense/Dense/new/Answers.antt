use Rattle.std.proofs.Common.{map, ◌∙◌, Bor, ℤ}
use Rattle.rel_logic.specs.declared.term.Term.{Term}
use Rattle.rel_logic.specs.View.{trm_of}
use Rattle.rules_int.specs.Entries.{number_at, number_in}
use Rattle.rules_int.proofs.Multiples.{nothing_in}
use Rattle.rules_int.proofs.dense.Dense.new.Goals as goal

pub returns : goal.returns
returns c x = (λ i. number_in (c.new.ensures.items i) (number_at (map (λ (e : Bor Term × ℤ). (trm_of e.0.now, e.1)) (c.new-2.ensures i))) x) ∙ nothing_in x
