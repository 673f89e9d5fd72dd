-- The number one less is looked up outside.
use Rattle.std.proofs.Common.{slice_get, sym, ap, ◌∙◌}
use Rattle.rel_logic.specs.declared.sorting.Bounds.{fold-roll-Bounds}
use Rattle.rel_logic.specs.declared.sorting.Bounds.TheVariants as B
use Rattle.rel_logic.specs.declared.sorting.Bounds.TheOpen.{Bounds-F}
use Rattle.rel_logic.specs.Scopes.{bounds_of, bounds_step}
use Rattle.rel_logic.proofs.Scopes.{slice_get_next}
use Rattle.rel_logic.proofs.sorting.Bounds.+sort.Goals as goal

pub returns-else-n-eq0 : goal.returns-else-n-eq0
returns-else-n-eq0 t c = c.sort.ensures ∙ slice_get_next _ _ _ c.if-n-eq0.false ∙ ap (λ b. slice_get b c.args.n) (sym (ap bounds_of (c.in-Under.is ∙ sym (B.rolls-Under c.in-Under.sort c.in-Under.outer)) ∙ fold-roll-Bounds _ bounds_step (Bounds-F.Under c.in-Under.sort c.in-Under.outer)))
