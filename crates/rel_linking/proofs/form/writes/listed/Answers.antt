use Rattle.std.proofs.Common.{◌+◌, sym, ap, subst, ◌∙◌, arith}
use Rattle.rel_lang.specs.View.{effect_of}
use Rattle.rel_linking.specs.Parts.{with_listed}
use Rattle.rel_linking.proofs.FormsLists.{AreIndexed, indexed_more}
use Rattle.rel_linking.proofs.form.writes.listed.Goals as goal

pub loop-i-preserved : goal.loop-i-preserved
loop-i-preserved c =
    subst (λ names. AreIndexed names c.args.writes.now (c.loop-i.i + 1))
    (sym (c.in_ok-add_listed.ensures ∙ ap (λ effect. with_listed c.loop-i.names (effect_of effect)) c.at.ensures))
    (indexed_more c.loop-i.names c.args.writes.now c.loop-i.i c.at.result.now (omega arith) c.loop-i.invariant)
