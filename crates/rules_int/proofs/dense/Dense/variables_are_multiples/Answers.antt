use Rattle.std.proofs.Common.{pos, ◌*ℤ◌, sym, ap, ◌∙◌, SFits, to_z-of_z, rules, arith}
use Rattle.std.specs.Int.{w128}
use Rattle.rel_logic.specs.Syntax.{var}
use Rattle.rules_int.specs.Forms.{parts_at}
use Rattle.rules_int.proofs.Multiples.{more_variables, get_within}
use Rattle.rules_int.proofs.dense.Dense.variables_are_multiples.Goals as goal

pub loop-n-preserved : goal.loop-n-preserved
loop-n-preserved c =
    let zs = c.args.self.now.variables.items in
    let n = c.loop-n.n in
    let k : SFits w128 c.args.k = c.ranges.k in
    let f : SFits w128 c.index.result.now = search rules in
    let h : SFits w128 c.variable_in.result = search rules in
    let is = simp to_z-of_z at c.is_multiple.ensures in
    let so_far = simp to_z-of_z at c.loop-n.invariant in
    let test = c.loop-n-test.true in
    let len = c.len-n-end.ensures in
    let here = get_within zs n c.index.result.now (pos 0) (omega (arith, test, len)) ∙ (sym c.index.ensures ∙ (is.0 c.if-not-is_multiple.false ∙ ap (λ z. c.args.k *ℤ z) c.variable_in.ensures)) in
    λ m below. more_variables zs (parts_at c.args.other.now) c.args.k n so_far here m below ∙ ap (λ z. z *ℤ parts_at c.args.other.now (var m)) (sym (to_z-of_z k))
