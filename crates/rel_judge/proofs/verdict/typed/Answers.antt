use Rattle.rel_lang.specs.View.{bundle_of}
use Rattle.rel_judge.proofs.Numbered.{typed_numbers}
use Rattle.rel_judge.proofs.Verdicts.{first_is}
use Rattle.rel_judge.proofs.verdict.typed.Goals as goal

pub returns-in-Ok-clause-numbers : goal.returns-in-Ok-clause-numbers
returns-in-Ok-clause-numbers c =
    let e = c.in-Ok.ensures in typed_numbers c.args.bundle c.in-Ok.typed e.same e.classes e.fields

pub returns-in-Err-Fault-clause-stopped : goal.returns-in-Err-Fault-clause-stopped
returns-in-Err-Fault-clause-stopped c = first_is (bundle_of c.args.bundle) _ _ _ c.in-Err-Fault.field-0-is c.in-Err-Fault.ensures.first
