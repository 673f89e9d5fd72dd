use Rattle.std.proofs.Common.{ap, ◌∙◌}
use Rattle.rel_lang.specs.View.{sig_of}
use Rattle.rel_flaws.specs.Flaws.{either, fault_at}
use Rattle.rel_flaws.specs.View.{tables_seen, flaws_of, pass_of}
use Rattle.rel_types.specs.Items.{sig_fault}
use Rattle.rel_types.proofs.Heads.{found_here, found_next, setting_is}
use Rattle.rel_types.proofs.members.method_fault.Goals as goal

pub returns-in-Some : goal.returns-in-Some
returns-in-Some c =
    let pass = pass_of c.args.pass in
    let method = sig_of c.args.method.now in
    found_here _ _ _ _ c.in-Some.is (c.fault.ensures ∙ ap (fault_at pass method.at) (c.either.ensures ∙ ap (either (flaws_of c.args.more)) c.in_ok-head.ensures))
    ∙ ap (λ g. sig_fault (tables_seen c.args.tables.now) pass g (flaws_of c.args.more) method)
    (setting_is c.args.globals c.of_method-own.result _ _ _ c.of_method-own.ensures.params c.of_method-own.ensures.locals c.of_method-own.ensures.result)

pub returns : goal.returns
returns c =
    let pass = pass_of c.args.pass in
    let method = sig_of c.args.method.now in
    found_next _ _ _ _ c.in-None.is (c.fault.ensures ∙ ap (fault_at pass method.at) (c.either.ensures ∙ ap (either (flaws_of c.args.more)) c.in_ok-head.ensures))
    (c.in_ok-fault-in-None.ensures c.of_method-own.result c.in_ok-layers.ensures)
    ∙ ap (λ g. sig_fault (tables_seen c.args.tables.now) pass g (flaws_of c.args.more) method)
    (setting_is c.args.globals c.of_method-own.result _ _ _ c.of_method-own.ensures.params c.of_method-own.ensures.locals c.of_method-own.ensures.result)
