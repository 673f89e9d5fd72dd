use Rattle.rel_lang.specs.View.{bundle_of}
use Rattle.rel_top.proofs.Verdicts.{print_read, print_refused}
use Rattle.rel_top.proofs.show.show_text.Goals as goal

pub returns-in_ok-show_bundle-in-Ok : goal.returns-in_ok-show_bundle-in-Ok
returns-in_ok-show_bundle-in-Ok c =
    let e = c.in-Ok.ensures in
    print_read c.args.text.now _ (bundle_of c.in-Ok.bundle) c.requires e.stands e.fits c.in_ok-show_bundle-in-Ok.ensures

pub returns-in_ok-faulty-in-Err : goal.returns-in_ok-faulty-in-Err
returns-in_ok-faulty-in-Err c =
    let e = c.in_ok-faulty-in-Err.ensures in
    print_refused c.args.text.now _ c.in-Err.fault c.requires e.0 c.in-Err.ensures.refused e.1
