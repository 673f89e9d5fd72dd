use Rattle.std.proofs.Common.{pos, ◌+ℤ◌, ◌≤ℤ◌, ◌<ℤ◌, IsTrue, int_div, int_rem, int_lt, to_z, of_z, sym, ap, subst, ◌∙◌, SFits, to_z-of_z, rules, arith}
use Rattle.std.specs.Int.{w128}
use Rattle.std.proofs.lemmas.Int.{ints, quot_fits, quot_is, rem_is, quot-rem, rem_below}
use Rattle.rules_int.specs.Table.{is_rounded}
use Rattle.rules_int.proofs.Comparing.{rounds_up, rounds_off, below_is, not_below, some_size}
use Rattle.rules_int.proofs.comparisons.ceiling.Goals as goal

pub returns-then-d-g-gt0 : goal.returns-then-d-g-gt0
returns-then-d-g-gt0 c =
    let d = c.args.d in
    let g = c.args.g in
    let one : pos 1 ≤ℤ g = c.requires in
    let q : SFits w128 (int_div d g) = quot_fits w128 d g c.ranges.d (omega (arith, ints, one)) in
    let more : SFits w128 (to_z w128 (of_z w128 (int_div (to_z w128 (of_z w128 d)) (to_z w128 (of_z w128 g)))) +ℤ pos 1) = search rules in
    let above : pos 0 <ℤ int_rem d g = below_is (pos 0) (int_rem d g) (ap (int_lt (pos 0)) (sym (rem_is w128 d g c.ranges.d c.ranges.g)) ∙ c.if-d-g-gt0.true) in
    subst (λ z. IsTrue (is_rounded z d g)) (sym (to_z-of_z more ∙ ap (λ z. z +ℤ pos 1) (quot_is w128 d g c.ranges.d c.ranges.g q)))
    (rounds_up d g (int_div d g) (int_rem d g) (quot-rem d g) (rem_below d g (some_size g one)) one above)

pub returns-else-d-g-gt0 : goal.returns-else-d-g-gt0
returns-else-d-g-gt0 c =
    let d = c.args.d in
    let g = c.args.g in
    let one : pos 1 ≤ℤ g = c.requires in
    let q : SFits w128 (int_div d g) = quot_fits w128 d g c.ranges.d (omega (arith, ints, one)) in
    let most : int_rem d g ≤ℤ pos 0 = not_below (pos 0) (int_rem d g) (ap (int_lt (pos 0)) (sym (rem_is w128 d g c.ranges.d c.ranges.g)) ∙ c.if-d-g-gt0.false) in
    subst (λ z. IsTrue (is_rounded z d g)) (sym (quot_is w128 d g c.ranges.d c.ranges.g q))
    (rounds_off d g (int_div d g) (int_rem d g) (quot-rem d g) (rem_below d g (some_size g one)) one most)
