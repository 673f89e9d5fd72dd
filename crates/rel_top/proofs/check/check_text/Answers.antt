use Rattle.rel_lang.specs.View.{bundle_of}
use Rattle.rel_top.proofs.Verdicts.{bundle_read, text_refused}
use Rattle.rel_top.proofs.check.check_text.Goals as goal

pub returns-in_ok-check_bundle-in-Ok-clause-answer : goal.returns-in_ok-check_bundle-in-Ok-clause-answer
returns-in_ok-check_bundle-in-Ok-clause-answer g c =
    let e = c.in-Ok.ensures in
    bundle_read c.args.text.now _ _ _ _ (bundle_of c.in-Ok.bundle) c.requires e.stands e.fits c.in_ok-check_bundle-in-Ok.ensures.answer

pub returns-in_ok-faulty-in-Err-clause-answer : goal.returns-in_ok-faulty-in-Err-clause-answer
returns-in_ok-faulty-in-Err-clause-answer g c =
    let e = c.in_ok-faulty-in-Err.ensures in
    text_refused c.args.text.now _ _ _ _ c.in-Err.fault c.requires e.0 c.in-Err.ensures.refused e.1
