use Rattle.rel_flaws.specs.View.{variables_seen}
use Rattle.rel_types.proofs.Declaring.{more_declared}
use Rattle.rel_types.proofs.declarations.add_all.Goals as goal

pub loop-decl-preserved : goal.loop-decl-preserved
loop-decl-preserved c =
    more_declared (variables_seen c.add.new.index) (variables_seen c.loop-decl.index) (variables_seen c.args.index.now) c.args.is_assignable c.as_slice-decl-items.result.now c.loop-decl.decl-index c.decl-item.result
    c.loop-decl-test.true c.decl-item.is c.loop-decl.invariant c.in_ok-add.ensures
