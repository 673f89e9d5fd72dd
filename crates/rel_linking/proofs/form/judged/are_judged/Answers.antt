use Rattle.std.proofs.Common.{◌≡◌, length, arith}
use Rattle.rel_linking.proofs.FormsShape.{judged_alone}
use Rattle.rel_linking.proofs.form.judged.are_judged.Goals as goal

pub returns : goal.returns
returns c =
    let left : length c.args.left.now.procs ≡ 1 = omega arith in
    let right : length c.args.right.now.procs ≡ 1 = omega arith in
    judged_alone c.args.left.now c.args.right.now c.args.judgement.now c.at.result.now c.at-2.result.now c.in_ok-judged.judged left right c.at.ensures c.at-2.ensures c.in_ok-judged.ensures
