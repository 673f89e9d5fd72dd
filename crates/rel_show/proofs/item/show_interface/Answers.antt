use Rattle.std.proofs.Common.{List, [], ◌∷◌, ◌++◌}
use Rattle.std.specs.Prelude.{codes}
use Rattle.rel_lang.specs.Text.{Mark, word, named, repeated, show_globals, show_boundary, show_clause, show_writes, show_sig}
use Rattle.rel_lang.specs.View.{interface_of}
use Rattle.rel_show.proofs.Writing.{joined, joined_last}
use Rattle.rel_show.proofs.item.show_interface.Goals as goal

pub returns : goal.returns
returns c =
    let out = c.args.out.now.items in
    let i = interface_of c.args.i.now in
    let one : List Mark = word (codes "interface") ∷ named i.name ∷ [] in
    let by_two = joined out _ _ one (word (codes "{") ∷ []) c.in_ok-show_title.ensures c.in_ok-show_word.ensures in
    let two : List Mark = one ++ word (codes "{") ∷ [] in
    let by_three = joined out _ _ two (show_globals i.globals) by_two c.in_ok-show_decls.ensures in
    let three : List Mark = two ++ show_globals i.globals in
    let by_four = joined out _ _ three (show_boundary i.boundary_at i.boundary) by_three c.in_ok-show_boundary.ensures in
    let four : List Mark = three ++ show_boundary i.boundary_at i.boundary in
    let by_five = joined out _ _ four (word (codes "init") ∷ word (codes "ensures") ∷ show_clause i.init_ensures) by_four c.in_ok-show_promise.ensures in
    let five : List Mark = four ++ word (codes "init") ∷ word (codes "ensures") ∷ show_clause i.init_ensures in
    let by_six = joined out _ _ five (show_writes i.init_writes) by_five c.in_ok-show_writes.ensures in
    let six : List Mark = five ++ show_writes i.init_writes in
    let by_seven = joined out _ _ six (repeated show_sig 1 i.methods) by_six c.in_ok-show_each.ensures in
    let seven : List Mark = six ++ repeated show_sig 1 i.methods in
    joined_last out _ _ seven (word (codes "}") ∷ []) _ by_seven c.show_word-2.ensures
