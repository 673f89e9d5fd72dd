use Rattle.rel_judge.proofs.Verdicts.{text_refused}
use Rattle.rel_judge.proofs.verdict.read_bundle.Goals as goal

pub returns-in_ok-verdict_on-in-Err-clause-stopped :
    goal.returns-in_ok-verdict_on-in-Err-clause-stopped
returns-in_ok-verdict_on-in-Err-clause-stopped c =
    text_refused c.args.text.now _ _ c.requires c.in-Err.ensures.refused c.in_ok-verdict_on-in-Err.ensures
