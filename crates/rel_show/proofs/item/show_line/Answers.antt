use Rattle.std.proofs.Common.{◌≡◌, ℕ, List, sym, ap, ◌∙◌, append_assoc, [], ◌∷◌, ◌++◌}
use Rattle.std.proofs.lemmas.Result.{on_ok_weaker}
use Rattle.rel_lang.specs.Text.{spaced, show_item}
use Rattle.rel_lang.specs.View.{item_of}
use Rattle.rel_show.proofs.Items.{written_item}
use Rattle.rel_show.proofs.item.show_line.Goals as goal

pub returns : goal.returns
returns c =
    let out = c.args.out.now.items in
    let before = c.show_item.new.out.items in
    let after = c.end_line.new.out.items in
    let i = item_of c.args.item.now in
    let line : before ≡ (out ++ spaced (show_item i)) ++ 32 ∷ [] = c.in_ok-show_item.ensures ∙ ap (λ t. out ++ t) (written_item i) ∙ sym (append_assoc out (spaced (show_item i)) (32 ∷ [])) in
    let ends = λ (h : (xs : List ℕ) (x : ℕ) → before ≡ xs ++ x ∷ [] → after ≡ xs ++ 10 ∷ []). h (out ++ spaced (show_item i)) 32 line ∙ append_assoc out (spaced (show_item i)) (10 ∷ []) in
    on_ok_weaker c.end_line.result ends c.end_line.ensures
