use Rattle.std.proofs.Common.{[], ap, ◌∙◌}
use Rattle.rel_flaws.specs.Flaws.{either, fault_at}
use Rattle.rel_flaws.specs.View.{flaws_of, pass_of}
use Rattle.rel_types.proofs.Heads.{found_here, found_next, no_globals}
use Rattle.rel_types.proofs.units.unit_fault.Goals as goal

pub returns-in-Some : goal.returns-in-Some
returns-in-Some c =
    found_here _ _ _ _ c.in-Some.is
    (c.fault.ensures ∙ ap (fault_at (pass_of c.args.pass) c.args.unit.now.at)
    (c.either.ensures ∙ ap (either (flaws_of c.args.more)) (c.in_ok-flaws.ensures [] (no_globals c.new-none.result c.new-none.ensures))))

pub returns : goal.returns
returns c =
    found_next _ _ _ _ c.in-None.is
    (c.fault.ensures ∙ ap (fault_at (pass_of c.args.pass) c.args.unit.now.at)
    (c.either.ensures ∙ ap (either (flaws_of c.args.more)) (c.in_ok-flaws.ensures [] (no_globals c.new-none.result c.new-none.ensures))))
    c.in_ok-fault-in-None.ensures
