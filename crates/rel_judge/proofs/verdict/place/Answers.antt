use Rattle.rel_judge.proofs.Verdicts.{place_of, no_place}
use Rattle.rel_judge.proofs.verdict.place.Goals as goal

pub returns-in-Judge : goal.returns-in-Judge
returns-in-Judge c = place_of c.args.bundle.now c.at.result.now c.in-Judge.judgement c.requires c.at.ensures c.in-Judge.is

pub returns-in_default : goal.returns-in_default
returns-in_default c = no_place c.args.bundle.now c.at.result.now 0 c.requires c.at.ensures c.in_default.not-Judge
