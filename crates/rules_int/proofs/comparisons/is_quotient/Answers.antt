use Rattle.std.proofs.Common.{◌&&◌, sym, ap, ◌∙◌, SFits, to_z-of_z}
use Rattle.std.specs.Int.{w128}
use Rattle.rules_int.specs.Table.{is_rounded}
use Rattle.rules_int.specs.Forms.{parts_at}
use Rattle.rules_int.specs.Made.{dense_at}
use Rattle.rules_int.proofs.Comparing.{same_multiples}
use Rattle.rules_int.proofs.comparisons.is_quotient.Goals as goal

pub returns-then-are_multiples : goal.returns-then-are_multiples
returns-then-are_multiples c s f is_s is_f =
    let k : SFits w128 c.args.g = c.ranges.g in
    let l : SFits w128 c.args.form.now.constant = is_f.constant_fits in
    let m : SFits w128 c.args.sum.now.constant = is_s.constant_fits in
    let multiples = same_multiples c.args.g (dense_at c.args.sum.now.numbers) (parts_at c.args.form.now.numbers) s f c.are_multiples.result is_s.numbers_are is_f.numbers_are (simp to_z-of_z at c.are_multiples.ensures) in
    let rounded = simp to_z-of_z at c.is_rounded.ensures in
    rounded ∙ ((λ i. is_rounded (is_f.constant_is i) (is_s.constant_is i) c.args.g) ∙ ap (λ b. b && is_rounded f.constant s.constant c.args.g) (sym c.if-are_multiples.true ∙ multiples))

pub returns-else-are_multiples : goal.returns-else-are_multiples
returns-else-are_multiples c s f is_s is_f =
    let k : SFits w128 c.args.g = c.ranges.g in
    let multiples = same_multiples c.args.g (dense_at c.args.sum.now.numbers) (parts_at c.args.form.now.numbers) s f c.are_multiples.result is_s.numbers_are is_f.numbers_are (simp to_z-of_z at c.are_multiples.ensures) in
    c.if-are_multiples.false ∙ ap (λ b. b && is_rounded f.constant s.constant c.args.g) (sym c.if-are_multiples.false ∙ multiples)
