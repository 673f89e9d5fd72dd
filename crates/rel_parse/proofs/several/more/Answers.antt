use Rattle.std.proofs.Common.{sym, ◌∙◌}
use Rattle.std.proofs.lemmas.Result.{err_from_is_err_and}
use Rattle.rel_parse.proofs.Loop.{goes_on, fails, is_full, ended}
use Rattle.rel_parse.proofs.several.more.Goals as goal

pub loop-preserved : goal.loop-preserved
loop-preserved g c =
    goes_on g.E.Element.view _ _ c.in_ok-next.next _ _ _ c.loop.counter _ _ _ c.loop-test.true (sym c.begins.ensures ∙ c.if-not-begins.false) c.in_ok-next.ensures c.in_ok-push.ensures.ok c.loop.invariant

pub returns-in_err-next : goal.returns-in_err-next
returns-in_err-next g c =
    let p = err_from_is_err_and c.from_residual.result c.from_residual.ensures.1 in
    rw (p.1, p.2) (fails _ _ _ c.loop.counter _ _ _ _ c.loop-test.true (sym c.begins.ensures ∙ c.if-not-begins.false) c.in_err-next.ensures c.loop.invariant)

pub returns-then-not-begins : goal.returns-then-not-begins
returns-then-not-begins g c = ended _ _ _ _ _ _ (sym c.begins.ensures ∙ c.if-not-begins.true) c.loop.invariant

pub returns : goal.returns
returns g c = ended _ _ _ _ _ _ (sym c.begins-2.ensures ∙ c.if-begins.false) c.loop.invariant

pub returns-then-begins : goal.returns-then-begins
returns-then-begins g c = is_full _ _ _ c.loop.counter _ _ _ c.loop-test.false (sym c.begins-2.ensures ∙ c.if-begins.true) c.loop.invariant
