use Rattle.std.proofs.Common.{List, get_or, zip, pos, Some, subst, SFits, to_z-of_z, rules}
use Rattle.std.specs.Int.{w128}
use Rattle.rel_logic.specs.View.{node_of}
use Rattle.rules_int.specs.Linear.{Linear, plus, joined}
use Rattle.rules_int.specs.Table.{Multiple, product}
use Rattle.rules_int.specs.Forms.{IsLike}
use Rattle.rules_int.specs.Made.{IsFormOf, dense_at}
use Rattle.rules_int.proofs.Summing.{Summed, stops, more, ends, zip_more, zip_past}
use Rattle.rules_int.proofs.sums.sum_of.Goals as goal

pub returns-in-None : goal.returns-in-None
returns-in-None c =
    let n = node_of c.args.node.now in
    let ms = zip c.args.nums.now c.args.ints.now in
    let m : Multiple = (get_or c.args.nums.now c.loop-j.j 0, get_or c.args.ints.now c.loop-j.j (pos 0)) in
    let s = subst (λ (rest : List Multiple). Summed n ms rest c.loop-j.sum) (zip_more c.args.nums.now c.args.ints.now c.loop-j.j 0 (pos 0) c.loop-j-test.true c.requires) c.loop-j.invariant in
    let fits : SFits w128 (get_or c.args.ints.now c.loop-j.j (pos 0)) = search rules in
    let made = simp to_z-of_z at c.in_ok-next_sum.ensures in
    stops n ms m _ c.loop-j.sum s (subst (λ o. (g : Linear) → IsLike c.loop-j.sum.constant (dense_at c.loop-j.sum.numbers) g → IsFormOf dense_at (joined plus (Some g) (product n m)) o) c.in-None.is made)

pub loop-j-preserved : goal.loop-j-preserved
loop-j-preserved c =
    let n = node_of c.args.node.now in
    let ms = zip c.args.nums.now c.args.ints.now in
    let m : Multiple = (get_or c.args.nums.now c.loop-j.j 0, get_or c.args.ints.now c.loop-j.j (pos 0)) in
    let s = subst (λ (rest : List Multiple). Summed n ms rest c.loop-j.sum) (zip_more c.args.nums.now c.args.ints.now c.loop-j.j 0 (pos 0) c.loop-j-test.true c.requires) c.loop-j.invariant in
    let fits : SFits w128 (get_or c.args.ints.now c.loop-j.j (pos 0)) = search rules in
    let made = simp to_z-of_z at c.in_ok-next_sum.ensures in
    more n ms m _ c.loop-j.sum s c.in-Some.next (subst (λ o. (g : Linear) → IsLike c.loop-j.sum.constant (dense_at c.loop-j.sum.numbers) g → IsFormOf dense_at (joined plus (Some g) (product n m)) o) c.in-Some.is made)

pub returns : goal.returns
returns c =
    let n = node_of c.args.node.now in
    let ms = zip c.args.nums.now c.args.ints.now in
    ends n ms c.loop-j.sum (subst (λ (rest : List Multiple). Summed n ms rest c.loop-j.sum) (zip_past c.args.nums.now c.args.ints.now c.loop-j.j c.loop-j-test.false) c.loop-j.invariant)
