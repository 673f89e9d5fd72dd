use Rattle.std.proofs.Common.{List, [], ◌∷◌, ◌++◌}
use Rattle.std.specs.Prelude.{codes}
use Rattle.rel_lang.specs.Text.{Mark, word, named, begins, repeated, show_globals, show_clause, show_body, show_method}
use Rattle.rel_lang.specs.View.{module_of}
use Rattle.rel_show.proofs.Writing.{joined, joined_last}
use Rattle.rel_show.proofs.item.show_module.Goals as goal

pub returns : goal.returns
returns c =
    let out = c.args.out.now.items in
    let m = module_of c.args.m.now in
    let one : List Mark = word (codes "module") ∷ named m.name ∷ word (codes ":") ∷ named m.interface ∷ [] in
    let by_two = joined out _ _ one (word (codes "{") ∷ []) c.in_ok-show_part.ensures c.in_ok-show_word.ensures in
    let two : List Mark = one ++ word (codes "{") ∷ [] in
    let by_three = joined out _ _ two (show_globals m.globals) by_two c.in_ok-show_decls.ensures in
    let three : List Mark = two ++ show_globals m.globals in
    let by_four = joined out _ _ three (word (codes "invariant") ∷ show_clause m.invariant) by_three c.in_ok-show_clause.ensures in
    let four : List Mark = three ++ word (codes "invariant") ∷ show_clause m.invariant in
    let by_five = joined out _ _ four (word (codes ";") ∷ begins m.init.at (word (codes "init") ∷ show_body m.init)) by_four c.in_ok-show_init.ensures in
    let five : List Mark = four ++ word (codes ";") ∷ begins m.init.at (word (codes "init") ∷ show_body m.init) in
    let by_six = joined out _ _ five (repeated show_method 1 m.methods) by_five c.in_ok-show_each.ensures in
    let six : List Mark = five ++ repeated show_method 1 m.methods in
    joined_last out _ _ six (word (codes "}") ∷ []) _ by_six c.show_word-2.ensures
