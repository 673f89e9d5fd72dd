use Rattle.std.proofs.Common.{ℤ, pos, Option, ap, ◌∙◌, subst, SFits, to_z-of_z, unwrap_or, rules}
use Rattle.std.specs.Int.{w128}
use Rattle.rel_straight.specs.Forms.{coefficient_at, change, CanChange}
use Rattle.rel_straight.proofs.Combine.{Progress, Entries, stops, goes_on, ends}
use Rattle.rel_straight.proofs.linear.change_all.Goals as goal

pub returns-in-None-changed : goal.returns-in-None-changed
returns-in-None-changed c =
    let p = subst (λ (rest : Entries). Progress c.args.how (coefficient_at c.args.a.now) (coefficient_at c.loop-variable.a) c.args.c.now.entries rest) c.in-Some.ensures.steps c.loop-variable.invariant in
    let f : SFits w128 c.coefficient.result = search rules in
    let g : SFits w128 c.in-Some.number.now = search rules in
    let cannot = simp to_z-of_z at c.in-None-changed.ensures in
    stops c.args.how _ _ _ c.in-Some.variable.now c.in-Some.number.now _ p (subst (λ x. ¬ (CanChange c.args.how x c.in-Some.number.now)) c.coefficient.ensures cannot)

pub loop-variable-preserved : goal.loop-variable-preserved
loop-variable-preserved c =
    let p = subst (λ (rest : Entries). Progress c.args.how (coefficient_at c.args.a.now) (coefficient_at c.loop-variable.a) c.args.c.now.entries rest) c.in-Some.ensures.steps c.loop-variable.invariant in
    let f : SFits w128 c.coefficient.result = search rules in
    let g : SFits w128 c.in-Some.number.now = search rules in
    let h : SFits w128 c.in-Some-changed.z = search rules in
    let made = simp to_z-of_z at c.in-Some-changed.ensures in
    let put = simp to_z-of_z at c.in_ok-insert-in-Some-changed.ensures.updates in
    goes_on c.args.how _ _ _ c.in-Some.variable.now c.in-Some.number.now _ p (coefficient_at c.insert.new.self)
    (ap (λ (o : Option ℤ). unwrap_or o (pos 0)) put.1 ∙ made.0 ∙ ap (λ x. change c.args.how x c.in-Some.number.now) c.coefficient.ensures)
    (subst (λ x. CanChange c.args.how x c.in-Some.number.now) c.coefficient.ensures made.1)
    (λ w apart. ap (λ (o : Option ℤ). unwrap_or o (pos 0)) (put.2 w apart))

pub returns : goal.returns
returns c = ends c.args.how _ _ _ (subst (λ (rest : Entries). Progress c.args.how (coefficient_at c.args.a.now) (coefficient_at c.loop-variable.a) c.args.c.now.entries rest) c.in-None.ensures.steps.0 c.loop-variable.invariant)
