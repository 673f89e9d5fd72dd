-- Tokens of a block are those of a block that is equal but for places.
use Rattle.std.proofs.Common.{ℕ, suc, List, [], ◌∷◌, ◌++◌, refl}
use Rattle.std.specs.Prelude.{codes}
use Rattle.rel_lang.specs.Syntax.{Expression, Command, At, Form, Skip, Assign, Load, Store, New, Call, If, While, Block, End, Then, form_without_at, command_without_at, without_at}
use Rattle.rel_lang.specs.Text.{word, tree, listed, show_expression, show_form, show_command, show_commands, show_block}
use Rattle.rel_show.proofs.Places.{Places, Plain, plain_places, done, keep, last, whole, started, append, skip, tree_places, element_places, braced_places}
use Rattle.rel_show.proofs.PlacesPlain.{plain_expression, plain_formula, plain_listed, plain_between}

plain_call : (d : ℕ) (es : List Expression) → Plain (listed (show_expression d) es ++ word (codes ")") ∷ [])
plain_call d es = plain_between (listed (show_expression d) es) (codes ")") [] (plain_listed (show_expression d) (plain_expression d) es) tt

mutual
  pub form_places : (d : ℕ) (f : Form) → Places form_without_at (show_form d) f
  form_places d Skip = plain_places (refl, tt)
  form_places d (Assign x e) = plain_places (refl, (refl, plain_expression (suc d) e))
  form_places d (Load x y f) = plain_places (refl, (refl, (refl, (refl, (refl, tt)))))
  form_places d (Store y f e) = plain_places (refl, (refl, (refl, (refl, plain_expression (suc d) e))))
  form_places d (New x c) = plain_places (refl, (refl, (refl, (refl, tt))))
  form_places d (Call x p es) = plain_places (refl, (refl, (refl, (refl, (refl, plain_call (suc d) es)))))
  form_places d (If p a b) =
      whole (keep (append (append (skip (plain_formula (suc d) p) (last (braced_places (commands_places (suc d) 1 a)) λ x ex. keep (last (braced_places (commands_places (suc d) 1 b)) λ y ey. (If p x y, cc, refl)))))))
  form_places d (While p q b) =
      whole (keep (append (append (skip (plain_formula (suc d) p) (keep (skip (plain_formula (suc d) q) (last (braced_places (commands_places (suc d) 1 b)) λ x e. (While p q x, cc, refl))))))))

  pub command_places : (d : ℕ) (c : Command) → Places command_without_at (show_command d) c
  command_places d (At at f) = whole (started at (tree d (show_form d f)) (last (tree_places d (form_places d f)) λ g e place. (At place g, cc, refl)))

  pub commands_places : (d n : ℕ) (b : Block) → Places without_at (show_commands d n) b
  commands_places d n End = whole (done (End, refl, refl))
  commands_places d n (Then c cs) = whole (append (last (element_places n (command_places d c)) λ x ex. keep (last (commands_places d (suc n) cs) λ y ey. (Then x y, cc, refl))))

pub block_places : (d : ℕ) (b : Block) → Places without_at (show_block d) b
block_places d b = braced_places (commands_places d 1 b)
