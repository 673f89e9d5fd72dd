use Rattle.rel_top.proofs.Endings.{checked_answer, shown_answer, usage_answer}
use Rattle.rel_top.proofs.run.answer_to.Goals as goal

pub returns-in_ok-check-in-Some-clause-answer : goal.returns-in_ok-check-in-Some-clause-answer
returns-in_ok-check-in-Some-clause-answer g c =
    checked_answer _ _ _ _ c.in-Some.bundle.now c.in-Some.proof.now c.in-Some.ensures.some c.in_ok-check-in-Some.ensures.answer

pub returns-in_ok-show-in-Some-show_name-clause-answer : goal.returns-in_ok-show-in-Some-show_name-clause-answer
returns-in_ok-show-in-Some-show_name-clause-answer g c =
    shown_answer _ _ _ _ c.in-Some-show_name.bundle.now c.in-Some-show_name.ensures.some c.in_ok-show-in-Some-show_name.ensures.answer

pub returns-in_ok-usage-in-None-show_name-clause-answer : goal.returns-in_ok-usage-in-None-show_name-clause-answer
returns-in_ok-usage-in-None-show_name-clause-answer g c =
    usage_answer _ _ _ _ c.in-None.ensures.none c.in-None-show_name.ensures.none c.in_ok-usage-in-None-show_name.ensures
