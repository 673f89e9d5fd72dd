use Rattle.std.proofs.Common.{◌+◌, ◌∙◌}
use Rattle.rel_lang.specs.View as trees
use Rattle.rel_linking.proofs.Equations.{obligation_is}
use Rattle.rel_linking.proofs.between.between.Goals as goal

pub returns : goal.returns
returns c =
    obligation_is c.args.left.now c.args.right.now c.args.left_block.now c.args.right_block.now c.len-3.result c.len-4.result (c.len.result + c.len-2.result) _ (trees.rel_of c.args.needs.now) (trees.rel_of c.args.gives.now) _ _ _ _
    c.len-3.ensures c.len-4.ensures (λ i. c.len.ensures i + c.len-2.ensures i) (c.in_ok-names.ensures ∙ c.requires.numbers)
    c.in_ok-sorts.ensures c.in_ok-hyps.ensures c.in_ok-goal.ensures.hyps c.in_ok-goal.ensures.goal
