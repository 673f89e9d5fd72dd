use Rattle.std.proofs.Common.{◌≡◌, Some, pos, false, int_lt, subst, SFits, to_z-of_z, rules}
use Rattle.std.specs.Int.{w128}
use Rattle.rel_logic.specs.View.{trm_of, node_of}
use Rattle.rules_table.specs.View.{step_of}
use Rattle.rules_int.specs.Linear.{difference}
use Rattle.rules_int.specs.Table.{sum_of, multiples, is_quotient}
use Rattle.rules_int.specs.Forms.{parts_at}
use Rattle.rules_int.specs.Made.{IsFormOf, dense_at}
use Rattle.rules_int.proofs.Comparing.{quotient_of, divisor_is}
use Rattle.rules_int.proofs.integers.is_rounded.Goals as goal

pub returns-in-Some-Some : goal.returns-in-Some-Some
returns-in-Some-Some c =
    let g : SFits w128 c.args.g = c.ranges.g in
    let sums = sum_of (node_of c.args.node.now) (multiples (step_of c.args.step.now)) in
    let forms = difference (trm_of c.args.t.now) (trm_of c.args.u.now) in
    let first : IsFormOf dense_at sums (Some c.in-Some-Some.sum) = search rules in
    let second = subst (IsFormOf parts_at forms) c.in-Some-Some.is-1 c.in_ok-form.ensures in
    let below : int_lt c.args.g (pos 1) ≡ false = search rules in
    divisor_is c.args.g c.is_quotient.result (is_quotient c.args.g sums forms) below
    (quotient_of c.args.g sums forms c.in-Some-Some.sum c.in-Some-Some.form c.is_quotient.result first second (simp to_z-of_z at c.is_quotient.ensures))
