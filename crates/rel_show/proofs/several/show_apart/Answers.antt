use Rattle.std.proofs.Common.{◌<◌, length, arith}
use Rattle.std.proofs.lemmas.Result.{IfOk-equal}
use Rattle.rel_show.proofs.Repetitions.{listed_from}
use Rattle.rel_show.proofs.several.show_apart.Goals as goal

pub returns-in_ok-show-in-len1-up : goal.returns-in_ok-show-in-len1-up
returns-in_ok-show-in-len1-up g c =
    let some : 0 < length c.args.items.now = omega (arith, c.in-len1-up.len_at_least) in
    IfOk-equal _ _ _ _ c.show_run.ensures
    (listed_from (g.E.Element.marks c.args.element.now) g.E.Element.view c.args.items.now c.first-item.result _ _ some c.first-item.is c.in_ok-show-in-len1-up.ensures)
