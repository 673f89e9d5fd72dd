-- the lines of the items before this one
use Rattle.std.proofs.Common.{◌≡◌, take, map}
use Rattle.rel_lang.specs.Text.{show_item, spaced}
use Rattle.rel_lang.specs.View.{item_of}
use Rattle.rel_top.specs.Report.{line}
use Rattle.rel_top.proofs.show.lines_of.Given as goal

abbrev pub invariant-loop-item : goal.invariant-loop-item
invariant-loop-item l = l.lines ≡ map (λ i. line (spaced (show_item (item_of i)))) (take l.item-index l.items)
