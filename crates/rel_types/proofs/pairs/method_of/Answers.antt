use Rattle.std.proofs.Common.{option_map, sym, subst, ◌∙◌}
use Rattle.rel_lang.specs.Lookup.{find_method, find_body}
use Rattle.rel_flaws.specs.Entries.{find_entry}
use Rattle.rel_types.specs.Items.{methods_of_interface, signatures_of, setting_in_module, method_in_module}
use Rattle.rel_types.specs.Known.{HasLocals}
use Rattle.rel_types.specs.ModuleView.{HasOwn, IsBody}
use Rattle.rel_types.proofs.Both.{both_some, both_none}
use Rattle.rel_types.proofs.InModules.{interface_in, own_in}
use Rattle.rel_types.proofs.pairs.method_of.Goals as goal

pub returns-in-Some : goal.returns-in-Some
returns-in-Some c i m given seen =
    let x = c.args.name.now in
    let q = find_method x (methods_of_interface i) in
    let there = both_some HasLocals (find_body x m.methods) (find_entry x c.args.seen.now.bodies) c.in-Some.locals (sym c.get.ensures ∙ c.in-Some.is) (seen.bodies x) in
    subst (λ o. IsBody (option_map (λ d. method_in_module i m (x, d)) o) (signatures_of i) c.body_in.result) (sym there.1)
    (c.body_in.ensures i m (method_in_module i m (x, there.0)) given seen
    (subst (λ l. HasOwn (setting_in_module i m l q) c.own_of_method.result) there.2 (c.own_of_method.ensures i m given))
    (interface_in i m there.0.locals q) (own_in i m there.0.locals q))

pub returns-in-None : goal.returns-in-None
returns-in-None c i m given seen =
    let x = c.args.name.now in
    subst (λ o. IsBody (option_map (λ d. method_in_module i m (x, d)) o) (signatures_of i) c.no_body.result)
    (sym (both_none HasLocals (find_body x m.methods) (find_entry x c.args.seen.now.bodies) (sym c.get.ensures ∙ c.in-None.is) (seen.bodies x)))
    (c.no_body.ensures i given)
