use Rattle.rel_lang.specs.View.{bundle_of}
use Rattle.rel_top.proofs.Verdicts.{found_some, found_none}
use Rattle.rel_top.proofs.check.boxed_obligation.Goals as goal

pub returns-in_ok-new-in-Some : goal.returns-in_ok-new-in-Some
returns-in_ok-new-in-Some c = found_some (bundle_of c.args.t.now.bundle) _ _ _ c.in_ok-sequent.ensures c.in-Some.is c.in_ok-new-in-Some.ensures

pub returns-in-None : goal.returns-in-None
returns-in-None c = found_none (bundle_of c.args.t.now.bundle) _ c.in_ok-sequent.ensures c.in-None.is
