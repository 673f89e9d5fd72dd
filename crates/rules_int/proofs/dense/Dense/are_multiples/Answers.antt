use Rattle.std.proofs.Common.{SFits, to_z-of_z}
use Rattle.std.specs.Int.{w128}
use Rattle.rules_int.specs.Forms.{entries_of}
use Rattle.rules_int.proofs.Multiples.{dense_is}
use Rattle.rules_int.proofs.dense.Dense.are_multiples.Goals as goal

pub returns : goal.returns
returns c =
    let k : SFits w128 c.args.k = c.ranges.k in
    dense_is c.args.self.now.variables.items (entries_of c.args.self.now.others) (entries_of c.args.other.now) c.args.k
    c.variables_are_multiples-variables.result c.are_multiples_at-others.result c.are_multiples_at-rest.result
    (simp to_z-of_z at c.variables_are_multiples-variables.ensures) (simp to_z-of_z at c.are_multiples_at-others.ensures) (simp to_z-of_z at c.are_multiples_at-rest.ensures)
