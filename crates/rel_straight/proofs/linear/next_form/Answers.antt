use Rattle.std.proofs.Common.{◌≡◌, true, sym, subst, SFits, rules, to_z-of_z}
use Rattle.std.specs.Int.{w128}
use Rattle.rel_straight.specs.Linear.{FitsI128}
use Rattle.rel_straight.specs.Forms.{linear, next_linear}
use Rattle.rel_straight.proofs.NextForms.{next_made}
use Rattle.rel_straight.proofs.linear.next_form.Goals as goal

pub returns : goal.returns
returns c =
    let f : SFits w128 c.in-Some.constant = search rules in
    let g : SFits w128 c.args.a.constant = search rules in
    let h : SFits w128 c.args.c.now.constant = search rules in
    let made = simp to_z-of_z at c.in-Some.ensures in
    let done : c.in_ok-change_all.field-0 ≡ true = search rules in
    subst (λ z. (linear (record { constant = z; coefficients = c.change_all.new.a }) ≡ next_linear (linear c.args.a) (linear c.args.c.now)) × FitsI128 (next_linear (linear c.args.a) (linear c.args.c.now)))
    (sym (to_z-of_z f)) (next_made c.args.a c.args.c.now c.in-Some.constant c.change_all.new.a c.in_ok-change_all.field-0 made c.in_ok-change_all.ensures done)
