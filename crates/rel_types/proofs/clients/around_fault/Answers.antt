use Rattle.std.proofs.Common.{option_map, sym, ap, ap₂, ◌∙◌}
use Rattle.rel_lang.specs.View.{client_of}
use Rattle.rel_flaws.specs.Flaws.{fault_at, either}
use Rattle.rel_flaws.specs.View.{flaws_of, fault_of, pass_of}
use Rattle.rel_types.proofs.Both.{some_first, none_first}
use Rattle.rel_types.proofs.clients.around_fault.Goals as goal

pub returns-in-Some : goal.returns-in-Some
returns-in-Some c i seen around globals =
    let k = client_of c.args.client.now in
    some_first _ _ _ (sym (ap (option_map fault_of) c.in-Some.is) ∙ c.fault.ensures
    ∙ ap (fault_at (pass_of c.args.pass) k.at) (c.either-flaws.ensures ∙ ap (either (flaws_of c.args.more))
    (c.either.ensures ∙ ap₂ either globals (c.flaws_of_parts.ensures i k.procs seen around.procs))))

pub returns-in_ok-fault-in-None : goal.returns-in_ok-fault-in-None
returns-in_ok-fault-in-None c i seen around globals =
    let k = client_of c.args.client.now in
    none_first _ _ _ (sym (ap (option_map fault_of) c.in-None.is) ∙ c.fault.ensures
    ∙ ap (fault_at (pass_of c.args.pass) k.at) (c.either-flaws.ensures ∙ ap (either (flaws_of c.args.more))
    (c.either.ensures ∙ ap₂ either globals (c.flaws_of_parts.ensures i k.procs seen around.procs))))
    (c.in_ok-fault-in-None.ensures i k around)
