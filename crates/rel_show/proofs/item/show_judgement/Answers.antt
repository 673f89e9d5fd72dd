use Rattle.std.proofs.Common.{List, [], ◌∷◌, ◌++◌}
use Rattle.std.specs.Prelude.{codes}
use Rattle.rel_lang.specs.Text.{Mark, word, named, show_subject, show_rel_clause, show_align}
use Rattle.rel_lang.specs.View.{judgement_of}
use Rattle.rel_show.proofs.Writing.{joined, joined_last}
use Rattle.rel_show.proofs.item.show_judgement.Goals as goal

pub returns : goal.returns
returns c =
    let out = c.args.out.now.items in
    let j = judgement_of c.args.j.now in
    let one : List Mark = word (codes "judge") ∷ named j.name ∷ [] in
    let by_two = joined out _ _ one (word (codes ":") ∷ show_subject j.left) c.in_ok-show_title.ensures c.in_ok-show_subject.ensures in
    let two : List Mark = one ++ word (codes ":") ∷ show_subject j.left in
    let by_three = joined out _ _ two (word (codes "~") ∷ show_subject j.right) by_two c.in_ok-show_subject-2.ensures in
    let three : List Mark = two ++ word (codes "~") ∷ show_subject j.right in
    let by_four = joined out _ _ three (word (codes "requires") ∷ show_rel_clause j.needs) by_three c.in_ok-show_rel_clause.ensures in
    let four : List Mark = three ++ word (codes "requires") ∷ show_rel_clause j.needs in
    let by_five = joined out _ _ four (word (codes "ensures") ∷ show_rel_clause j.gives) by_four c.in_ok-show_rel_clause-2.ensures in
    let five : List Mark = four ++ word (codes "ensures") ∷ show_rel_clause j.gives in
    joined_last out _ _ five (show_align j.align) _ by_five c.show_align.ensures
