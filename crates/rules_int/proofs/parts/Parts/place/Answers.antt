use Rattle.std.proofs.Common.{refl, sym, ap, ◌∙◌, arith}
use Rattle.rel_logic.specs.View.{trm_of}
use Rattle.rel_logic.specs.Equal.{same_trm}
use Rattle.rules_int.proofs.Places.{next_place, found, not_found}
use Rattle.rules_int.proofs.parts.Parts.place.Goals as goal

pub loop-i-init : goal.loop-i-init
loop-i-init c = refl

pub returns-then-same_terms : goal.returns-then-same_terms
returns-then-same_terms c =
    let within = c.loop-i-test.true in
    let len = c.len-i-end.ensures in
    found (λ e. (trm_of e.0.now, e.1)) c.args.self.now.entries.items c.loop-i.i c.index.result.now (trm_of c.args.atom.now) (omega (arith, within, len)) c.loop-i.invariant
    (ap (λ e. same_trm (trm_of e.0.now) (trm_of c.args.atom.now)) (sym c.index.ensures) ∙ (sym c.same_terms.ensures ∙ c.if-same_terms.true))

pub loop-i-preserved : goal.loop-i-preserved
loop-i-preserved c =
    let within = c.loop-i-test.true in
    let len = c.len-i-end.ensures in
    next_place (λ e. (trm_of e.0.now, e.1)) c.args.self.now.entries.items c.loop-i.i c.index.result.now (trm_of c.args.atom.now) (omega (arith, within, len)) c.loop-i.invariant
    (ap (λ e. same_trm (trm_of e.0.now) (trm_of c.args.atom.now)) (sym c.index.ensures) ∙ (sym c.same_terms.ensures ∙ c.if-same_terms.false))

pub returns : goal.returns
returns c =
    let past = c.loop-i-test.false in
    let len = c.len-i-end.ensures in
    not_found (λ e. (trm_of e.0.now, e.1)) c.args.self.now.entries.items c.loop-i.i (trm_of c.args.atom.now) (omega (arith, past, len)) c.loop-i.invariant
