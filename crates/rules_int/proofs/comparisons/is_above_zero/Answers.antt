use Rattle.std.proofs.Common.{pos, ◌<ℤ◌, map, rules, Bor, ℤ}
use Rattle.rel_logic.specs.declared.term.Term.{Term}
use Rattle.rel_logic.specs.View.{trm_of}
use Rattle.rules_int.specs.Entries.{number_at}
use Rattle.rules_int.specs.Forms.{parts_at}
use Rattle.rules_int.specs.Made.{dense_at}
use Rattle.rules_int.proofs.Comparing.{same_nothing, above_zero}
use Rattle.rules_int.proofs.comparisons.is_above_zero.Goals as goal

pub returns-then-sum-gt0 : goal.returns-then-sum-gt0
returns-then-sum-gt0 c s is_s =
    let above : pos 0 <ℤ c.args.sum.now.constant = search rules in
    above_zero c.args.sum.now.constant s c.are_multiples.result is_s.constant_is above
    (same_nothing (pos 1) (dense_at c.args.sum.now.numbers) (parts_at c.new.result) s c.are_multiples.result is_s.numbers_are
    (λ x i. number_at (map (λ (e : Bor Term × ℤ). (trm_of e.0.now, e.1)) (c.new.ensures i)) x) c.are_multiples.ensures)
