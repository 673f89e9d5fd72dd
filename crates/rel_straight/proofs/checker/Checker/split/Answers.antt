use Rattle.std.proofs.Common.{◌≡◌, ◌-◌, [], ◌∷◌, ◌++◌, length, set, slice_get, Some, refl, rules}
use Rattle.std.specs.Vec.{with_item}
use Rattle.rel_logic.specs.View.{trm_of}
use Rattle.rel_straight.proofs.Stacks.{split_stuck, split_moves}
use Rattle.rel_straight.proofs.checker.Checker.split.Goals as goal

pub returns-in_default-unequal_ints : goal.returns-in_default-unequal_ints
returns-in_default-unequal_ints c =
    let nodes = c.args.self.now.nodes.items in
    let is_top : slice_get nodes (length nodes - 1) ≡ Some c.in-Some.top.now = search rules in
    (refl, split_stuck nodes c.in-Some.top.now is_top c.args.i c.in_default-unequal_ints.ensures)

pub returns : goal.returns
returns c =
    let nodes = c.args.self.now.nodes.items in
    let is_top : slice_get nodes (length nodes - 1) ≡ Some c.in-Some.top.now = search rules in
    let pushed : c.push.new.self.items ≡ nodes ++ c.in-Ok.first ∷ [] = search rules in
    let long : c.len-top.result ≡ length nodes = search rules in
    let after = with_item c.push.new.self (c.len-top.result - 1) c.in-Ok.second in
    split_moves nodes c.in-Some.top.now is_top c.in-Ok.first c.in-Ok.second after.items (λ j. set (pushed j) (long j - 1) c.in-Ok.second) c.args.i (trm_of c.in-Some-unequal_ints.t.now) (trm_of c.in-Some-unequal_ints.u.now)
    c.in-Some-unequal_ints.ensures c.in-Ok.ensures.0 c.in-Ok.ensures.1
