use Rattle.std.proofs.Common.{sym, subst}
use Rattle.rel_io.specs.Told.{IsToldAs}
use Rattle.rel_top.proofs.Verdicts.{show_read, show_unread, show_too_long}
use Rattle.rel_top.proofs.show.show.Goals as goal

pub returns-in_ok-show_text-in-Ok-clause-answer : goal.returns-in_ok-show_text-in-Ok-clause-answer
returns-in_ok-show_text-in-Ok-clause-answer g c =
    show_read c.args.bundle.now _ _ _ c.as_slice.result.now (subst (IsToldAs _) (sym c.as_slice.ensures.value) c.in-Ok.ensures.told) c.in_ok-show_text-in-Ok.ensures

pub returns-in_ok-unreadable-in-Err-Failed-clause-answer : goal.returns-in_ok-unreadable-in-Err-Failed-clause-answer
returns-in_ok-unreadable-in-Err-Failed-clause-answer g c =
    show_unread c.args.bundle.now _ _ _ c.content_of.result _ c.in-Err-Failed.is c.in-Err-Failed.field-0-is c.content_of.ensures.failed c.in_ok-unreadable-in-Err-Failed.ensures

pub returns-in_ok-too_large-in-Err-TooLong-clause-answer : goal.returns-in_ok-too_large-in-Err-TooLong-clause-answer
returns-in_ok-too_large-in-Err-TooLong-clause-answer g c =
    show_too_long c.args.bundle.now _ _ _ c.content_of.result _ c.in-Err-TooLong.is c.in-Err-TooLong.field-0-is c.content_of.ensures.too_long c.in_ok-too_large-in-Err-TooLong.ensures
