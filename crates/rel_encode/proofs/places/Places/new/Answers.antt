-- Each name that the loop reaches has its first place in the index.
use Rattle.std.proofs.Common.{◌+◌, take, sym, ap, subst, ◌∙◌, arith}
use Rattle.rel_flaws.specs.Entries.{with_entry}
use Rattle.rel_encode.specs.Places.{ArePlaces}
use Rattle.rel_encode.proofs.Lookups.{one_placed, all_placed}
use Rattle.rel_encode.proofs.places.Places.new.Goals as goal

pub loop-i-preserved : goal.loop-i-preserved
loop-i-preserved g c =
    let items = c.args.items.now in
    let added = c.in_ok-insert.ensures ∙ ap (λ n. with_entry c.loop-i.index n c.loop-i.i) c.name.ensures in
    subst (λ es. ArePlaces g.T.Named.word (take (c.loop-i.i + 1) items) es) (sym added)
    (one_placed g.T.Named.word items c.loop-i.i c.at.result.now c.loop-i.index (omega arith) c.at.ensures c.loop-i.invariant)

pub invariant_of-result : goal.invariant_of-result
invariant_of-result g c = record {
  placed = all_placed g.T.Named.word c.args.items.now c.loop-i.i c.loop-i.index (omega arith) c.loop-i.invariant;
  few = omega arith;
}
