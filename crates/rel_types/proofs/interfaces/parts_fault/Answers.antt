use Rattle.rel_types.specs.OwnView.{globals_in}
use Rattle.rel_flaws.specs.View.{layers_seen}
use Rattle.rel_types.proofs.Heads.{found_here, found_next, seen_same}
use Rattle.rel_types.proofs.interfaces.parts_fault.Goals as goal

pub returns-in-Some : goal.returns-in-Some
returns-in-Some c sc h =
    found_here _ _ _ _ c.in-Some.is (c.in_ok-fault.ensures sc (seen_same (layers_seen c.alone.result) (globals_in c.args.globals) sc c.alone.ensures h))

pub returns-in_ok-fault-in-None : goal.returns-in_ok-fault-in-None
returns-in_ok-fault-in-None c sc h =
    found_next _ _ _ _ c.in-None.is (c.in_ok-fault.ensures sc (seen_same (layers_seen c.alone.result) (globals_in c.args.globals) sc c.alone.ensures h))
    c.in_ok-fault-in-None.ensures
