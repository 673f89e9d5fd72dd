use Rattle.rel_types.proofs.pairs.method_fault.Goals as goal

pub returns : goal.returns
returns c b i m n seen =
    c.in_ok-fault.ensures b i _ _ seen.known (c.method_in-left.ensures i m seen.interface seen.left) (c.method_in-right.ensures i n seen.interface seen.right)
