use Rattle.std.proofs.Common.{List, [], ◌∷◌, ◌++◌}
use Rattle.std.specs.Prelude.{codes}
use Rattle.rel_lang.specs.Text.{Mark, word, named, begins, repeated, show_rel_clause, show_align, show_pair_method}
use Rattle.rel_lang.specs.View.{pair_of}
use Rattle.rel_show.proofs.Writing.{joined, joined_last}
use Rattle.rel_show.proofs.item.show_pair.Goals as goal

pub returns : goal.returns
returns c =
    let out = c.args.out.now.items in
    let p = pair_of c.args.p.now in
    let one : List Mark = word (codes "pair") ∷ named p.name ∷ word (codes ":") ∷ named p.left ∷ word (codes "~") ∷ named p.right ∷ [] in
    let by_two = joined out _ _ one (word (codes "{") ∷ []) c.in_ok-show_names.ensures c.in_ok-show_word.ensures in
    let two : List Mark = one ++ word (codes "{") ∷ [] in
    let by_three = joined out _ _ two (word (codes "coupling") ∷ show_rel_clause p.coupling) by_two c.in_ok-show_rel_clause.ensures in
    let three : List Mark = two ++ word (codes "coupling") ∷ show_rel_clause p.coupling in
    let by_four = joined out _ _ three (word (codes ";") ∷ begins p.init.0 (word (codes "init") ∷ show_align p.init.1)) by_three c.in_ok-show_first.ensures in
    let four : List Mark = three ++ word (codes ";") ∷ begins p.init.0 (word (codes "init") ∷ show_align p.init.1) in
    let by_five = joined out _ _ four (repeated show_pair_method 1 p.methods) by_four c.in_ok-show_each.ensures in
    let five : List Mark = four ++ repeated show_pair_method 1 p.methods in
    joined_last out _ _ five (word (codes "}") ∷ []) _ by_five c.show_word-2.ensures
