use Rattle.std.proofs.Common.{slice_get, subst, SFits, to_z-of_z}
use Rattle.std.specs.Int.{w128}
use Rattle.std.proofs.lemmas.Result.{IfOk-weaker}
use Rattle.rel_logic.specs.View.{node_of}
use Rattle.rel_straight.specs.Forms.{linear, IsFormAt}
use Rattle.rel_straight.proofs.NextForms.{next_sum_form}
use Rattle.rel_straight.proofs.linear.next_sum.Goals as goal

pub returns-in-Some : goal.returns-in-Some
returns-in-Some c =
    let n = node_of c.args.node.now in
    let fits : SFits w128 c.args.k = c.ranges.k in
    let at = simp to_z-of_z at c.in_ok-form_at.ensures in
    let sum = simp to_z-of_z at c.combined.ensures in
    let form = subst (IsFormAt n.sorts (slice_get n.forms c.args.i) c.args.k) c.in-Some.is at in
    IfOk-weaker c.combined.result _ _ (λ r. next_sum_form n (linear c.args.sum) c.args.i c.args.k c.in-Some.form r form) sum
