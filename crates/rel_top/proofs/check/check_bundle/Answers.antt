use Rattle.std.proofs.Common.{ap}
use Rattle.rel_lang.specs.View.{bundle_of}
use Rattle.rel_top.proofs.Verdicts.{bundle_typed, bundle_faulty}
use Rattle.rel_top.proofs.Numbered.{typed_numbers}
use Rattle.rel_top.proofs.check.check_bundle.Goals as goal

pub check_typed-requires-clause-numbers : goal.check_typed-requires-clause-numbers
check_typed-requires-clause-numbers g c =
    let e = c.in-Ok.ensures in typed_numbers c.args.bundle c.in-Ok.typed e.same e.classes e.fields

pub returns-in_ok-check_typed-in-Ok-clause-answer : goal.returns-in_ok-check_typed-in-Ok-clause-answer
returns-in_ok-check_typed-in-Ok-clause-answer g c =
    let e = c.in-Ok.ensures in
    bundle_typed (bundle_of c.args.bundle) _ _ _ _ (bundle_of c.in-Ok.typed.bundle) (ap bundle_of e.same) e.faultless c.in_ok-check_typed-in-Ok.ensures.answer

pub returns-in_ok-ill_typed-in-Err-clause-answer : goal.returns-in_ok-ill_typed-in-Err-clause-answer
returns-in_ok-ill_typed-in-Err-clause-answer g c =
    bundle_faulty (bundle_of c.args.bundle) _ _ _ _ (c.in_ok-ill_typed-in-Err.ensures (bundle_of c.args.bundle) c.in-Err.ensures.first)
