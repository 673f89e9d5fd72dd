use Rattle.std.proofs.Common.{Some, subst}
use Rattle.std.proofs.lemmas.Result.{IfOk-weaker}
use Rattle.rel_logic.specs.View.{trm_of}
use Rattle.rel_straight.specs.Forms.{IsTermForm}
use Rattle.rel_straight.proofs.TermForms.{fits_term}
use Rattle.rel_straight.proofs.NextForms.{next_forms}
use Rattle.rel_straight.proofs.linear.next_difference.Goals as goal

pub next_form-requires : goal.next_form-requires
next_form-requires c =
    fits_term (trm_of c.args.t.now) (Some c.in-Some-Some.a) (subst (IsTermForm (trm_of c.args.t.now)) c.in-Some-Some.is-0 c.in_ok-first.ensures)

pub returns-in-Some-Some : goal.returns-in-Some-Some
returns-in-Some-Some c =
    let first = subst (IsTermForm (trm_of c.args.t.now)) c.in-Some-Some.is-0 c.in_ok-first.ensures in
    let second = subst (IsTermForm (trm_of c.args.u.now)) c.in-Some-Some.is-1 c.in_ok-second.ensures in
    IfOk-weaker c.next_form.result _ _ (λ r. next_forms (trm_of c.args.t.now) (trm_of c.args.u.now) c.in-Some-Some.a c.in-Some-Some.c r first second) c.next_form.ensures
