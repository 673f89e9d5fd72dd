use Rattle.std.proofs.Common.{sym, subst}
use Rattle.rel_io.specs.Told.{IsToldAs}
use Rattle.rel_top.proofs.Verdicts.{text_read, text_unread, text_too_long, text_moved}
use Rattle.rel_top.proofs.check.check.Goals as goal

pub returns-in_ok-check_text-in-Ok-clause-answer : goal.returns-in_ok-check_text-in-Ok-clause-answer
returns-in_ok-check_text-in-Ok-clause-answer g c =
    let e = c.in-Ok.ensures in
    text_read c.args.bundle.now _ _ _ _ c.as_slice.result.now (subst (IsToldAs _) (sym c.as_slice.ensures.value) e.told)
    (text_moved _ _ _ _ _ _ _ _ _ _ _ e.contents_stay e.faults_stay e.read_faults_stay c.in_ok-check_text-in-Ok.ensures.answer)

pub returns-in_ok-unreadable-in-Err-Failed-clause-answer : goal.returns-in_ok-unreadable-in-Err-Failed-clause-answer
returns-in_ok-unreadable-in-Err-Failed-clause-answer g c =
    text_unread c.args.bundle.now _ _ _ _ c.content_of.result _ c.in-Err-Failed.is c.in-Err-Failed.field-0-is c.content_of.ensures.failed c.in_ok-unreadable-in-Err-Failed.ensures

pub returns-in_ok-too_large-in-Err-TooLong-clause-answer : goal.returns-in_ok-too_large-in-Err-TooLong-clause-answer
returns-in_ok-too_large-in-Err-TooLong-clause-answer g c =
    text_too_long c.args.bundle.now _ _ _ _ c.content_of.result _ c.in-Err-TooLong.is c.in-Err-TooLong.field-0-is c.content_of.ensures.too_long c.in_ok-too_large-in-Err-TooLong.ensures
