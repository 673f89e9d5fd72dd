use Rattle.rel_types.specs.Items.{globals_of_interface}
use Rattle.rel_types.proofs.InModules.{given_alone}
use Rattle.rel_types.proofs.given.flaws_of_declared.Goals as goal

pub returns : goal.returns
returns c i given =
    c.in_ok-flaws.ensures (globals_of_interface i) (given_alone c.args.given.now c.args.none.now c.requires (globals_of_interface i) given.globals)
