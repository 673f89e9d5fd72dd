-- What is written of a command doesn't depend on its depth, nor on its number in a block.
use Rattle.std.proofs.Common.{◌≡◌, ℕ, suc, List, [], ◌∷◌, ◌++◌, refl, sym, ap, ◌∙◌, append_assoc, arith, rules}
use Rattle.std.specs.Prelude.{codes}
use Rattle.rel_lang.specs.Syntax.{Expression, At, Form, Skip, Assign, Load, Store, New, Call, If, While, Block, End, Then}
use Rattle.rel_lang.specs.Text.{word, element, listed, behind, show_expression, show_form, show_command, show_commands}
use Rattle.rel_lang.specs.View.{formula_of, form_of, command_of, block_of}
use Rattle.rel_lang.specs.declared.command.Command as C
use Rattle.rel_lang.specs.declared.command.Form as F
use Rattle.rel_lang.specs.declared.formula.Formula as P
use Rattle.rel_lang.proofs.Same.{block_is}
use Rattle.rel_show.specs.Written.{written}
use Rattle.rel_show.proofs.Writing.{written-append, written-element, written-begins, written-tree, writing}
use Rattle.rel_show.proofs.Repetitions.{IsByElement, same_repeated}
use Rattle.rel_show.proofs.Expressions.{same_expression, operand}
use Rattle.rel_show.proofs.Formulas.{same_formula, formula_within}

same_arguments : (es : List Expression) (c d : ℕ) → written (listed (show_expression c) es) ≡ written (listed (show_expression d) es)
same_arguments [] c d = refl
same_arguments (e ∷ es) c d =
    let h = same_expression e c d in
    let k = same_repeated (behind (codes ",") (show_expression c)) (behind (codes ",") (show_expression d)) (λ x. ap (λ t. 44 ∷ 32 ∷ t) (same_expression x c d)) es 1 1 in
    grind (arith, written-append)

mutual
  pub same_form : (f : Form) (c d : ℕ) → written (show_form c f) ≡ written (show_form d f)
  same_form Skip c d = refl
  same_form (Assign x e) c d = let h = same_expression e (suc c) (suc d) in grind (arith, written-append)
  same_form (Load x y f) c d = refl
  same_form (Store y f e) c d = let h = same_expression e (suc c) (suc d) in grind (arith, written-append)
  same_form (New x k) c d = refl
  same_form (Call x p es) c d = let h = same_arguments es (suc c) (suc d) in grind (arith, written-append)
  same_form (If p a b) c d =
      let h = same_formula p (suc c) (suc d) in let k = same_commands a (suc c) (suc d) 1 1 in let l = same_commands b (suc c) (suc d) 1 1 in
      grind (arith, written-append)
  same_form (While p q b) c d =
      let h = same_formula p (suc c) (suc d) in let i = same_formula q (suc c) (suc d) in let k = same_commands b (suc c) (suc d) 1 1 in
      grind (arith, written-append)

  pub same_commands : (b : Block) (c d n m : ℕ) → written (show_commands c n b) ≡ written (show_commands d m b)
  same_commands End c d n m = refl
  same_commands (Then (At at f) cs) c d n m =
      let h = same_form f c d in let k = same_commands cs c d (suc n) (suc m) in
      grind (arith, written-append, written-element, written-begins, written-tree)

-- what is in a block is one deeper
pub block_within : (b : Block) → written (show_commands 2 1 b) ≡ written (show_commands 1 1 b)
block_within b = same_commands b 2 1 1 1

pub arguments_within : (es : List Expression) → written (listed (show_expression 2) es) ≡ written (listed (show_expression 1) es)
arguments_within es = same_arguments es 2 1

command_is : (c : C.Command) → command_of c ≡ At c.at (form_of c.form)
command_is c = search (rules, F.the_lemmas)

pub written_command : (c : C.Command) → written (show_command 1 (command_of c)) ≡ written (show_form 1 (form_of c.form))
written_command c =
    ap (λ k. written (show_command 1 k)) (command_is c) ∙ written-begins c.at _ ∙ written-tree 1 (show_form 1 (form_of c.form))

-- the commands of a block, each with its semicolon
pub by_command : IsByElement (λ n cs. written (show_commands 1 n (block_of cs))) (λ c. written (show_form 1 (form_of c.form)) ++ 59 ∷ 32 ∷ [])
by_command = record {
  none = λ n. refl;
  more = λ n c cs. written-append (element n (show_command 1 (command_of c))) (word (codes ";") ∷ show_commands 1 (suc n) (block_of cs))
      ∙ ap (λ t. t ++ 59 ∷ 32 ∷ written (show_commands 1 (suc n) (block_of cs))) (written-element n (show_command 1 (command_of c)) ∙ written_command c)
      ∙ sym (append_assoc (written (show_form 1 (form_of c.form))) (59 ∷ 32 ∷ []) (written (show_commands 1 (suc n) (block_of cs))));
}

-- how an `if` and a `while` are read
pub if_is : (p : P.Formula) (a b : List C.Command) → form_of (F.If p a b) ≡ If (formula_of p) (block_of a) (block_of b)
if_is p a b = search (rules, F.the_lemmas, block_is)

pub while_is : (p q : P.Formula) (b : List C.Command) → form_of (F.While p q b) ≡ While (formula_of p) (formula_of q) (block_of b)
while_is p q b = search (rules, F.the_lemmas, block_is)

pub ruleset commands = (writing, operand, formula_within, block_within, arguments_within, written_command, if_is, while_is, F.the_lemmas)
