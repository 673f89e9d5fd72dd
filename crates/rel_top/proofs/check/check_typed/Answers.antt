use Rattle.std.proofs.Common.{refl, subst}
use Rattle.rel_lang.specs.View.{bundle_of}
use Rattle.rel_top.specs.Judged.{IsFound}
use Rattle.rel_top.proofs.Verdicts.{is_obligation, can_be_judged, cannot_be_judged}
use Rattle.rel_top.proofs.check.check_typed.Goals as goal

pub check_sequent-requires : goal.check_sequent-requires
check_sequent-requires g c = is_obligation (bundle_of c.args.t.now.bundle) _ _ _ c.in_ok-sequent.ensures c.in-Some.is c.get.ensures

pub returns-in_ok-check_sequent-in-Some-clause-answer : goal.returns-in_ok-check_sequent-in-Some-clause-answer
returns-in_ok-check_sequent-in-Some-clause-answer g c =
    can_be_judged (bundle_of c.args.t.now.bundle) _ _ _ _ c.in-Some.sequent (is_obligation (bundle_of c.args.t.now.bundle) _ _ _ c.in_ok-sequent.ensures c.in-Some.is refl) c.in_ok-check_sequent-in-Some.ensures.answer

pub returns-in_ok-without_bundle-in-None-clause-answer : goal.returns-in_ok-without_bundle-in-None-clause-answer
returns-in_ok-without_bundle-in-None-clause-answer g c =
    cannot_be_judged (bundle_of c.args.t.now.bundle) _ _ _ _ (subst (IsFound (bundle_of c.args.t.now.bundle)) c.in-None.is c.in_ok-sequent.ensures) c.in_ok-without_bundle-in-None.ensures
