use Rattle.rel_types.specs.Lookups.{names_in}
use Rattle.rel_types.specs.OwnView.{names_before}
use Rattle.rel_types.proofs.Repeats.{gone_one_more}
use Rattle.rel_types.proofs.names.add_names.Goals as goal

pub loop-decl-preserved : goal.loop-decl-preserved
loop-decl-preserved c =
    gone_one_more (names_before c.args.before) (names_in c.args.own.now) (names_in c.loop-decl.own) (names_in c.add_name.new.names) c.loop-decl.repeated
    c.as_slice-decl-items.result.now c.loop-decl.decl-index c.decl-item.result c.as_str-name.result.now c.in_ok-was_there.was_there c.is_before.result
    c.loop-decl-test.true c.decl-item.is c.as_str-name.ensures c.in_ok-was_there.ensures.was_there c.is_before.ensures c.loop-decl.invariant c.in_ok-was_there.ensures.added
