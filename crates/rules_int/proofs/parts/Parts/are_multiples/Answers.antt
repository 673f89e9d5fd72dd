use Rattle.std.proofs.Common.{◌≡◌, true, false, sym, ◌∙◌, SFits, to_z-of_z}
use Rattle.std.specs.Int.{w128}
use Rattle.rules_int.specs.Forms.{entries_of}
use Rattle.rules_int.proofs.Multiples.{all_compared}
use Rattle.rules_int.proofs.parts.Parts.are_multiples.Goals as goal

pub returns-then-are_multiples_at : goal.returns-then-are_multiples_at
returns-then-are_multiples_at c =
    let k : SFits w128 c.args.k = c.ranges.k in
    let first = simp to_z-of_z at c.are_multiples_at.ensures in
    let second = simp to_z-of_z at c.are_multiples_at-then-are_multiples_at.ensures in
    (λ e. all_compared (entries_of c.args.self.now) (entries_of c.args.other.now) c.args.k (first.0 c.if-are_multiples_at.true) (second.0 e), λ all. second.1 (λ x has. all x))

pub returns-else-are_multiples_at : goal.returns-else-are_multiples_at
returns-else-are_multiples_at c =
    let k : SFits w128 c.args.k = c.ranges.k in
    let first = simp to_z-of_z at c.are_multiples_at.ensures in
    (λ e. let clash : false ≡ true = sym c.if-are_multiples_at.false ∙ e in cc, λ all. first.1 (λ x has. all x))
