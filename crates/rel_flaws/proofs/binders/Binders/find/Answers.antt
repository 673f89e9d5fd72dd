use Rattle.std.proofs.Common.{[], option_map, sym, ap, ◌∙◌}
use Rattle.rel_flaws.proofs.Indexes.{step_found, step_passed}
use Rattle.rel_flaws.proofs.binders.Binders.find.Goals as goal
use Rattle.rel_flaws.proofs.binders.Binders.find.Goals.{then-eq, else-eq}

pub loop-x-preserved : goal.loop-x-preserved
loop-x-preserved c =
    elim c.if-eq.branch [
      | then-eq w ↦ ap (option_map (λ class. class.now)) w.found-is ∙ step_found c.args.name.now c.as_slice-x-items.result.now c.loop-x.x-index (record { ref_ptr = (0, 0); now = [] }, record { ref_ptr = (0, 0); now = [] }) c.loop-x-test.true (sym w.if-eq.ensures)
      | else-eq w ↦ ap (option_map (λ class. class.now)) w.found-is ∙ c.loop-x.invariant ∙ step_passed c.args.name.now c.as_slice-x-items.result.now c.loop-x.x-index (record { ref_ptr = (0, 0); now = [] }, record { ref_ptr = (0, 0); now = [] }) c.loop-x-test.true (sym w.if-eq.ensures)
    ]
