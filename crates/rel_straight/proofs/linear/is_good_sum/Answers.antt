use Rattle.std.proofs.Common.{◌↔◌, ◌<◌, length, pos, get_or, subst, IsTrue, SFits, rules, to_z-of_z, arith}
use Rattle.std.specs.Int.{w128}
use Rattle.rel_logic.specs.View.{node_of}
use Rattle.rel_straight.specs.Linear.{Pair, IsGoodSum}
use Rattle.rel_straight.specs.Forms.{linear, IsNextSum}
use Rattle.rel_straight.proofs.Sums.{fits_sum, summed_more, summed_bad, summed_all}
use Rattle.rel_straight.proofs.linear.is_good_sum.Goals as goal

pub next_sum-requires : goal.next_sum-requires
next_sum-requires c = fits_sum _ _ _ _ c.loop-i.invariant

pub returns-in-None : goal.returns-in-None
returns-in-None c =
    let n = node_of c.args.node.now in
    let items = c.as_slice-items.result.now in
    let zero : Pair = (0, pos 0) in
    let within : c.loop-i.i-index < length items = search rules in
    let fits : SFits w128 (get_or items c.loop-i.i-index zero).1 = search rules in
    let next = simp to_z-of_z at c.in_ok-next_sum.ensures in
    let none = subst (IsNextSum n (linear c.loop-i.sum) (get_or items c.loop-i.i-index zero)) c.in-None.is next in
    let bad = summed_bad n items c.loop-i.i-index (linear c.loop-i.sum) c.loop-i.invariant zero within none in
    (λ e. cc, λ good. absurd (subst (λ ps. ¬ (IsGoodSum n ps)) c.as_slice-items.ensures bad good))

pub loop-i-preserved : goal.loop-i-preserved
loop-i-preserved c =
    let n = node_of c.args.node.now in
    let items = c.as_slice-items.result.now in
    let zero : Pair = (0, pos 0) in
    let within : c.loop-i.i-index < length items = search rules in
    let fits : SFits w128 (get_or items c.loop-i.i-index zero).1 = search rules in
    let next = simp to_z-of_z at c.in_ok-next_sum.ensures in
    let some = subst (IsNextSum n (linear c.loop-i.sum) (get_or items c.loop-i.i-index zero)) c.in-Some.is next in
    summed_more n items c.loop-i.i-index (linear c.loop-i.sum) c.loop-i.invariant zero within c.in-Some.next some

pub returns : goal.returns
returns c =
    let whole = summed_all (node_of c.args.node.now) c.as_slice-items.result.now c.loop-i.i-index (linear c.loop-i.sum) c.loop-i.invariant (omega arith) c.is_above_zero.result c.is_above_zero.ensures in
    subst (λ ps. IsTrue c.is_above_zero.result ↔ IsGoodSum (node_of c.args.node.now) ps) c.as_slice-items.ensures whole
