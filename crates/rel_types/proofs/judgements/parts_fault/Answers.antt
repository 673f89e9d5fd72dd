use Rattle.rel_types.proofs.judgements.parts_fault.Goals as goal

pub returns : goal.returns
returns c b l r known left right = c.in_ok-fault.ensures b l r known left right
