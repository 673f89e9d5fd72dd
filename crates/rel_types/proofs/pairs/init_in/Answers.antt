use Rattle.std.proofs.Common.{option_map, ap, sym, subst, refl}
use Rattle.rel_types.specs.Items.{signatures_of, init_in_module}
use Rattle.rel_types.specs.Known.{IsModuleSeen}
use Rattle.rel_types.specs.ModuleView.{IsBody}
use Rattle.rel_types.proofs.Both.{both_some, both_none}
use Rattle.rel_types.proofs.pairs.init_in.Goals as goal

pub returns-in-Some : goal.returns-in-Some
returns-in-Some c i m given seen =
    let there = both_some IsModuleSeen m _ c.in-Some.seen.now (ap (option_map (λ s. s.now)) c.in-Some.is) seen in
    subst (λ o. IsBody (option_map (init_in_module i) o) (signatures_of i) c.body_in.result) (sym there.1)
    (c.body_in.ensures i there.0 (init_in_module i there.0) given there.2 (record { parameters = refl; locals = there.2.init; result = refl }) refl refl)

pub returns-in-None : goal.returns-in-None
returns-in-None c i m given seen =
    subst (λ o. IsBody (option_map (init_in_module i) o) (signatures_of i) c.no_body.result)
    (sym (both_none IsModuleSeen m _ (ap (option_map (λ s. s.now)) c.in-None.is) seen))
    (c.no_body.ensures i given)
