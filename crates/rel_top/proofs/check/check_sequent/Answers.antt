use Rattle.std.proofs.Common.{sym, subst}
use Rattle.rel_io.specs.Told.{IsToldAs}
use Rattle.rel_top.proofs.Verdicts.{proof_read, proof_unread, proof_too_long}
use Rattle.rel_top.proofs.check.check_sequent.Goals as goal

pub returns-in_ok-check_proof-in-Ok-clause-answer : goal.returns-in_ok-check_proof-in-Ok-clause-answer
returns-in_ok-check_proof-in-Ok-clause-answer g c =
    proof_read _ _ _ _ _ c.as_slice.result.now (subst (IsToldAs _) (sym c.as_slice.ensures.value) c.in-Ok.ensures.told) c.in_ok-check_proof-in-Ok.ensures

pub returns-in_ok-unreadable-in-Err-Failed-clause-answer : goal.returns-in_ok-unreadable-in-Err-Failed-clause-answer
returns-in_ok-unreadable-in-Err-Failed-clause-answer g c =
    proof_unread _ _ _ _ _ c.content_of.result _ c.in-Err-Failed.is c.in-Err-Failed.field-0-is c.content_of.ensures.failed c.in_ok-unreadable-in-Err-Failed.ensures

pub returns-in_ok-without_proof-in-Err-TooLong-clause-answer : goal.returns-in_ok-without_proof-in-Err-TooLong-clause-answer
returns-in_ok-without_proof-in-Err-TooLong-clause-answer g c =
    proof_too_long _ _ _ _ _ c.content_of.result _ c.in-Err-TooLong.is c.in-Err-TooLong.field-0-is c.content_of.ensures.too_long c.in_ok-without_proof-in-Err-TooLong.ensures
