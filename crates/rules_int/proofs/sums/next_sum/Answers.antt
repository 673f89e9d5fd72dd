use Rattle.std.proofs.Common.{Some, SFits, slice_get, option_and_then, to_z-of_z}
use Rattle.std.specs.Int.{w128}
use Rattle.std.proofs.lemmas.Result.{IfOk-weaker}
use Rattle.rel_logic.specs.View.{node_of}
use Rattle.rules_int.specs.Linear.{bounded_form}
use Rattle.rules_int.proofs.sums.next_sum.Goals as goal

pub returns : goal.returns
returns c =
    let n = node_of c.args.node.now in
    let k : SFits w128 c.args.k = c.ranges.k in
    let form = simp to_z-of_z at c.in_ok-form.ensures in
    IfOk-weaker c.joined.result _ _ (λ r join g like. join (Some g) (option_and_then (bounded_form n.sorts c.args.k) (slice_get n.forms c.args.i)) like form) (simp to_z-of_z at c.joined.ensures)
