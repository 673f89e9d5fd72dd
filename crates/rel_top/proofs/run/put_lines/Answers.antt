use Rattle.std.proofs.Common.{◌∙◌, ◌<◌, length, refl, subst}
use Rattle.rel_top.proofs.Endings.{line_is, on_err, printed_more, cut_off}
use Rattle.rel_top.proofs.run.put_lines.Goals as goal

pub loop-line-preserved : goal.loop-line-preserved
loop-line-preserved g c =
    let items = c.deref-line-items.ensures.value ∙ c.lines.view_is in
    let i = c.loop-line.line-index in
    let within = subst (λ xs. i < length xs) items c.loop-line-test.true in
    let is_line = line_is _ _ c.line-item.result _ _ i c.as_slice.ensures refl c.line-item.is items in
    printed_more _ _ _ _ _ _ c.args.lines.now i c.as_slice.result.now within is_line c.loop-line.invariant c.in_ok-put.ensures.appended c.in_ok-put.ensures.faults_stay

pub returns-in_err-put-clause-cut_off : goal.returns-in_err-put-clause-cut_off
returns-in_err-put-clause-cut_off g c =
    let items = c.deref-line-items.ensures.value ∙ c.lines.view_is in
    let i = c.loop-line.line-index in
    let within = subst (λ xs. i < length xs) items c.loop-line-test.true in
    let is_line = line_is _ _ c.line-item.result _ _ i c.as_slice.ensures refl c.line-item.is items in
    on_err _ _ (cut_off _ _ _ _ _ _ c.args.lines.now i c.as_slice.result.now within is_line c.loop-line.invariant c.in_err-put.ensures.front c.in_err-put.ensures.failed)
