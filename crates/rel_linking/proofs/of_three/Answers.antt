use Rattle.rel_linking.proofs.Answers.{for_three}
use Rattle.rel_linking.proofs.of_three.Goals as goal

pub returns : goal.returns
returns c =
    for_three c.args.left.now c.args.right.now c.args.judgement.now c.at-left_proc.result.now c.at-right_proc.result.now c.in_ok-sequent.sequent
    (c.in_ok-are_judged.ensures.0 c.if-not-branch.false) c.at-left_proc.ensures c.at-right_proc.ensures c.in_ok-sequent.ensures
