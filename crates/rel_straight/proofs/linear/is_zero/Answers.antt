use Rattle.std.proofs.Common.{◌≡◌, pos, ◌+ℤ◌, refl, sym, ap, ◌∙◌, subst, SFits, rules, to_z, of_z, to_z-of_z, lit<}
use Rattle.std.specs.Int.{w128}
use Rattle.std.proofs.Math.IntN.{+ℤ_idl}
use Rattle.rel_straight.specs.Forms.{coefficient_at}
use Rattle.rel_straight.specs.declared.linear.Change.TheVariants.{Add}
use Rattle.rel_straight.proofs.Combine.{Progress, Entries, at_first, goes_on, ends}
use Rattle.rel_straight.proofs.linear.is_zero.Goals as goal

pub returns-then-number-ne0 : goal.returns-then-number-ne0
returns-then-number-ne0 c =
    let p = subst (λ (rest : Entries). Progress Add (λ v. pos 0) (λ v. pos 0) c.args.coefficients.now.entries rest) c.in-Some.ensures.steps c.loop-number.invariant in
    let e = (at_first Add _ _ _ c.in-Some.field-0-0.now c.in-Some.number.now _ p).1 in
    (λ z. cc, λ all. absurd (c.if-number-ne0.true (ap (of_z w128) (sym e ∙ all c.in-Some.field-0-0.now))))

pub loop-number-preserved : goal.loop-number-preserved
loop-number-preserved c =
    let p = subst (λ (rest : Entries). Progress Add (λ v. pos 0) (λ v. pos 0) c.args.coefficients.now.entries rest) c.in-Some.ensures.steps c.loop-number.invariant in
    let f : SFits w128 c.in-Some.number.now = search rules in
    let zero : c.in-Some.number.now ≡ pos 0 = sym (to_z-of_z f) ∙ ap (to_z w128) c.if-number-ne0.false in
    goes_on Add _ _ _ c.in-Some.field-0-0.now c.in-Some.number.now _ p (λ v. pos 0)
    (sym (ap (λ z. pos 0 +ℤ z) zero)) (subst (λ z. SFits w128 (pos 0 +ℤ z)) (sym zero) (record { sfits = lit< tt })) (λ w h. refl)

pub returns : goal.returns
returns c =
    let p = subst (λ (rest : Entries). Progress Add (λ v. pos 0) (λ v. pos 0) c.args.coefficients.now.entries rest) c.in-None.ensures.steps.0 c.loop-number.invariant in
    (λ yes v. sym (+ℤ_idl (coefficient_at c.args.coefficients.now v)) ∙ sym (ends Add _ _ _ p v).0, λ all. refl)
