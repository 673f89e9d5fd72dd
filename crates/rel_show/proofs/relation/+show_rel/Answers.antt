use Rattle.std.proofs.Common.{◌≡◌, ap, ◌++◌}
use Rattle.std.proofs.lemmas.Result.{IfOk-equal}
use Rattle.rel_lang.specs.declared.relation.RelFormula.{Eventually}
use Rattle.rel_show.proofs.Relations.{written_eventually}
use Rattle.rel_show.proofs.relation.+show_rel.Goals as goal

pub show_rel-returns-in-Eventually : goal.show_rel-returns-in-Eventually
show_rel-returns-in-Eventually t c =
    let is : c.args.r.now ≡ Eventually c.get-in-Eventually.result.now = cc in
    IfOk-equal _ _ _ _ c.show_rel_behind-in-Eventually.ensures (ap (λ t. c.args.out.now.items ++ t) (written_eventually _ _ is))
