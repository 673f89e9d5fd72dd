use Rattle.rel_types.proofs.Clashes.{one_more_named}
use Rattle.rel_types.proofs.own.are_named.Goals as goal

pub loop-decl-preserved : goal.loop-decl-preserved
loop-decl-preserved c =
    one_more_named c.args.variables.now c.as_slice-decl-items.result.now c.loop-decl.decl-index c.decl-item.result c.as_str.result.now c.loop-decl.found c.has-found.result
    c.loop-decl-test.true c.decl-item.is c.as_str.ensures c.has-found.ensures c.loop-decl.invariant
