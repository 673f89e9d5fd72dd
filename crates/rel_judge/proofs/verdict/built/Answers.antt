use Rattle.rel_lang.specs.View.{bundle_of}
use Rattle.rel_judge.proofs.Verdicts.{built_some, built_none}
use Rattle.rel_judge.proofs.verdict.built.Goals as goal

pub returns-in-Some-clause-obligation : goal.returns-in-Some-clause-obligation
returns-in-Some-clause-obligation c = built_some (bundle_of c.args.typed.bundle) _ c.in-Some.obligation c.in-Some.is c.in_ok-obligation.ensures

pub returns-in-None-clause-stopped : goal.returns-in-None-clause-stopped
returns-in-None-clause-stopped c = built_none (bundle_of c.args.typed.bundle) _ c.in-None.is c.requires.faultless c.in_ok-obligation.ensures
