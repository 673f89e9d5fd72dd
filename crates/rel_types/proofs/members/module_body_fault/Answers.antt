use Rattle.std.proofs.Common.{ap, ◌∙◌}
use Rattle.rel_flaws.specs.Flaws.{fault_at}
use Rattle.rel_flaws.specs.View.{pass_of}
use Rattle.rel_types.proofs.Heads.{found_next, declared_flaws}
use Rattle.rel_types.proofs.members.module_body_fault.Goals as goal

pub returns : goal.returns
returns c =
    found_next _ _ _ _ c.in-None.is
    (c.fault.ensures ∙ ap (fault_at (pass_of c.args.pass) c.args.body.now.at) (declared_flaws _ _ _ _ _ c.none.ensures c.in_ok-clashes_in_module.ensures c.unknown_in.ensures))
    (c.in_ok-fault-in-None.ensures c.args.own c.in_ok-layers.ensures)
