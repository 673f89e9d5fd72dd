use Rattle.std.proofs.Common.{option_map, option_and_then, ap, sym, subst}
use Rattle.rel_lang.specs.Lookup.{find_body}
use Rattle.rel_types.specs.Items.{signatures_of, method_in_module}
use Rattle.rel_types.specs.Known.{IsModuleSeen}
use Rattle.rel_types.specs.ModuleView.{IsBody}
use Rattle.rel_types.proofs.Both.{both_some, both_none}
use Rattle.rel_types.proofs.pairs.method_in.Goals as goal

pub returns-in-Some : goal.returns-in-Some
returns-in-Some c i m given seen =
    let x = c.args.name.now in
    let there = both_some IsModuleSeen m _ c.in-Some.seen.now (ap (option_map (λ s. s.now)) c.in-Some.is) seen in
    subst (λ o. IsBody (option_and_then (λ n. option_map (λ d. method_in_module i n (x, d)) (find_body x n.methods)) o) (signatures_of i) c.method_of.result) (sym there.1)
    (c.method_of.ensures i there.0 given there.2)

pub returns-in-None : goal.returns-in-None
returns-in-None c i m given seen =
    let x = c.args.name.now in
    subst (λ o. IsBody (option_and_then (λ n. option_map (λ d. method_in_module i n (x, d)) (find_body x n.methods)) o) (signatures_of i) c.no_body.result)
    (sym (both_none IsModuleSeen m _ (ap (option_map (λ s. s.now)) c.in-None.is) seen))
    (c.no_body.ensures i given)
