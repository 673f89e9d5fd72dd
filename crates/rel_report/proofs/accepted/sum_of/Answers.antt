use Rattle.std.proofs.Common.{◌<◌, ◌^◌, rules, arith}
use Rattle.rel_report.proofs.Counted.{sum_more}
use Rattle.rel_report.proofs.accepted.sum_of.Goals as goal

pub loop-count-preserved : goal.loop-count-preserved
loop-count-preserved c =
    let before = c.loop-count.invariant in
    let bound = before.1 in
    let small : c.from-sum.result < 2 ^ 32 = search rules in
    (sum_more c.args.counts.now c.loop-count.count-index c.from-sum.result c.loop-count.sum (search rules) (search rules) before.0, omega (arith, small, bound))
