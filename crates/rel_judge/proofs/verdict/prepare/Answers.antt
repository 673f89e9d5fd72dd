use Rattle.rel_lang.specs.View.{bundle_of}
use Rattle.rel_judge.proofs.Verdicts.{ready, stopped, stopped_refused}
use Rattle.rel_judge.proofs.verdict.prepare.Goals as goal

pub returns-in-Ok-clause-ready : goal.returns-in-Ok-clause-ready
returns-in-Ok-clause-ready c =
    let e = c.in-Ok.ensures in
    ready c.args.text.now c.in_ok-bundle.bundle c.in-Ok.typed.bundle c.built.result e.same c.in_ok-bundle.ensures.read e.faultless c.built.ensures.same c.built.ensures.obligation

pub returns-in-Ok-clause-stopped : goal.returns-in-Ok-clause-stopped
returns-in-Ok-clause-stopped c =
    stopped c.args.text.now c.in_ok-bundle.bundle c.in-Ok.typed.bundle c.built.result c.in-Ok.ensures.same c.in_ok-bundle.ensures.read c.built.ensures.stopped

pub returns-in-Err-clause-stopped : goal.returns-in-Err-clause-stopped
returns-in-Err-clause-stopped c =
    stopped_refused c.args.text.now (bundle_of c.in_ok-bundle.bundle) c.in-Err.stop c.in_ok-bundle.ensures.read c.in-Err.ensures.stopped
