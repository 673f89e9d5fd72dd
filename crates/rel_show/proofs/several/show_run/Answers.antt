use Rattle.std.proofs.Common.{refl}
use Rattle.rel_show.proofs.Repetitions.{repetition, repeated_text, whole_more, whole_all}
use Rattle.rel_show.proofs.several.show_run.Goals as goal

pub loop-item-preserved : goal.loop-item-preserved
loop-item-preserved g c =
    whole_more _ _ (repetition (g.E.Element.marks c.args.element.now) g.E.Element.view) 1 _ _ _ c.args.items.now _ c.loop-item.item-index _ refl c.loop-item-test.true c.item-item.is c.loop-item.invariant c.in_ok-show.ensures

pub returns : goal.returns
returns g c =
    whole_all (repeated_text (g.E.Element.marks c.args.element.now) g.E.Element.view) 1 _ _ _ c.loop-item.item-index c.loop-item-test.false c.loop-item.invariant
