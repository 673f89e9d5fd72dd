use Rattle.std.proofs.Common.{◌≡◌, take, map}
use Rattle.rel_lang.specs.Text.{shown}
use Rattle.rel_lang.specs.View.{item_of}
use Rattle.rel_show.proofs.show.Given as goal

abbrev pub invariant-loop-item : goal.invariant-loop-item
invariant-loop-item l = l.out.items ≡ shown (map item_of (take l.item-index l.b.items))
