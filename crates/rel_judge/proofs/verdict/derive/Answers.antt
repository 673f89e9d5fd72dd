use Rattle.rel_lang.specs.View.{bundle_of}
use Rattle.rel_judge.proofs.Verdicts.{several, sound_node, three_items, single}
use Rattle.rel_judge.proofs.verdict.derive.Goals as goal

pub returns-then-len-ne1 : goal.returns-then-len-ne1
returns-then-len-ne1 c = several (bundle_of c.args.bundle.now) c.args.lists.now _ _ c.len.ensures c.if-len-ne1.true c.len-then-len-ne1.ensures

pub outcome_of-requires-clause-sound : goal.outcome_of-requires-clause-sound
outcome_of-requires-clause-sound c = sound_node (bundle_of c.args.bundle.now) _ _ c.into_inner.ensures c.requires.obligation

pub told-requires : goal.told-requires
told-requires c = three_items c.args.bundle.now c.args.obligation c.requires.obligation

pub returns : goal.returns
returns c =
    single (bundle_of c.args.bundle.now) _ _ c.args.lists.now _ _ _ c.told.result c.into_inner.ensures c.len.ensures c.if-len-ne1.false c.at.ensures c.requires.obligation c.in_ok-outcome.ensures.outcome c.told.ensures
