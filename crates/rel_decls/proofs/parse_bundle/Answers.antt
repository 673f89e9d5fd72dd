use Rattle.std.proofs.Common.{◌≢◌, subst, sym}
use Rattle.std.specs.Prelude.{IfErr}
use Rattle.std.specs.Str.{IsValidUpTo}
use Rattle.rel_lang.specs.View.{bundle_of}
use Rattle.rel_decls.specs.declared.fault.TextFault.TheVariants as faults
use Rattle.rel_decls.specs.Faults.{StandsForNone, IsTold}
use Rattle.rel_decls.proofs.OneFault.{missed, is_told, told_by}
use Rattle.rel_decls.proofs.parse_bundle.Goals as goal

pub returns-in-Ok-clause-missed : goal.returns-in-Ok-clause-missed
returns-in-Ok-clause-missed c =
    let answer = c.read.result in
    subst (λ t. IfErr answer (λ e. e ≢ faults.Memory → StandsForNone t)) c.in-Ok.ensures.cases.0 (missed c.in-Ok.text.now answer c.read.ensures.refused)

pub returns-in-Ok-clause-told : goal.returns-in-Ok-clause-told
returns-in-Ok-clause-told c =
    let answer = c.read.result in
    subst (λ t. IsTold t answer) c.in-Ok.ensures.cases.0
    (is_told bundle_of c.in-Ok.text.now answer c.read.ensures.stands c.read.ensures.fits c.read.ensures.refused)

pub returns-in-Err-clause-told : goal.returns-in-Err-clause-told
returns-in-Err-clause-told c =
    let valid = subst (λ n. IsValidUpTo c.args.text.now n) (sym c.valid_up_to.ensures) c.in-Err.ensures.cases.1 in
    λ f has some. told_by c.args.text.now (faults.NotUtf8 c.valid_up_to.result) f valid has some
