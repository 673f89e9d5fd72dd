use Rattle.rel_lang.specs.View.{bundle_of}
use Rattle.rel_judge.proofs.FewSteps.{few_steps}
use Rattle.rel_judge.proofs.Verdicts.{said, unreadable}
use Rattle.rel_judge.proofs.verdict.judge.Goals as goal

pub derive-requires-clause-short : goal.derive-requires-clause-short
derive-requires-clause-short c = few_steps c.args.content.now c.in-Ok.proof.lists c.in-Ok.ensures.ok

pub returns-in-Ok : goal.returns-in-Ok
returns-in-Ok c = said (bundle_of c.args.bundle.now) c.args.content.now _ c.derive.result c.requires.short c.in-Ok.ensures.ok c.derive.ensures

pub returns-in-Err : goal.returns-in-Err
returns-in-Err c =
    unreadable (bundle_of c.args.bundle.now) c.args.content.now c.in-Err.fault c.verdict_on_proof.result c.requires.short c.in-Err.ensures.fault c.verdict_on_proof.ensures.some c.verdict_on_proof.ensures.verdict
