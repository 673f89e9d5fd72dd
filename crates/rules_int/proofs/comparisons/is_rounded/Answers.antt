use Rattle.std.proofs.Common.{nat_eq, SFits, to_z, of_z, ap, sym, ◌∙◌, to_z-of_z, rules}
use Rattle.std.specs.Int.{w128}
use Rattle.std.proofs.lemmas.Bool.Decides.{Decides-eqb}
use Rattle.rules_int.proofs.Comparing.{rounded_is}
use Rattle.rules_int.proofs.comparisons.is_rounded.Goals as goal

pub returns : goal.returns
returns c =
    let d : SFits w128 c.args.d = c.ranges.d in
    let g : SFits w128 c.args.g = c.ranges.g in
    let f : SFits w128 c.ceiling.result = search rules in
    let is = simp to_z-of_z at c.ceiling.ensures in
    let same = Decides-eqb (of_z w128 c.args.c) (of_z w128 c.ceiling.result) in
    rounded_is c.args.c c.ceiling.result c.args.d c.args.g (nat_eq (of_z w128 c.args.c) (of_z w128 c.ceiling.result)) c.requires
    (λ yes. sym (to_z-of_z c.ranges.c) ∙ (ap (to_z w128) (same.0 yes) ∙ to_z-of_z f), λ e. same.1 (ap (of_z w128) e)) is
