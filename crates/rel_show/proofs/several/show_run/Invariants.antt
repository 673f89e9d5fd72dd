use Rattle.std.proofs.Common.{◌≡◌, ◌++◌, take, map}
use Rattle.rel_lang.specs.Text.{repeated}
use Rattle.rel_show.specs.Written.{written}
use Rattle.rel_show.proofs.several.show_run.Given as goal

abbrev pub invariant-loop-item : goal.invariant-loop-item
invariant-loop-item g l =
    l.out.items ≡ l.fn.out.items ++ written (repeated (g.E.Element.marks l.element) 1 (map g.E.Element.view (take l.item-index l.items)))
