-- What is written of a bicommand doesn't depend on its depth, nor on its number in a block.
use Rattle.std.proofs.Common.{◌≡◌, ℕ, suc, List, [], ◌∷◌, ◌++◌, map, refl, sym, ap, ◌∙◌, append_assoc, arith, rules}
use Rattle.std.specs.Prelude.{codes}
use Rattle.rel_lang.specs.Syntax.{Command, At, BiLoop, BiAt, BiForm, Split, Sync, SyncCall, BiIf, BiWhile, Link, Note, BiBlock, BiEnd, BiThen}
use Rattle.rel_lang.specs.Text.{word, element, show_command, show_bicommand, show_biblock, show_loop, show_biform, show_bicommands}
use Rattle.rel_lang.specs.View.{formula_of, loop_of, biform_of, bicommand_of, biblock_of, biblock_from}
use Rattle.rel_lang.specs.declared.biprogram.BiCommand as C
use Rattle.rel_lang.specs.declared.biprogram.BiForm as B
use Rattle.rel_lang.specs.declared.biprogram.BiLoop as L
use Rattle.rel_lang.specs.declared.formula.Formula as P
use Rattle.rel_show.specs.Written.{written}
use Rattle.rel_show.proofs.Writing.{written-append, written-element, written-begins, written-tree, writing}
use Rattle.rel_show.proofs.Repetitions.{IsByElement}
use Rattle.rel_show.proofs.Formulas.{same_formula, formula_within}
use Rattle.rel_show.proofs.Relations.{same_rel, rel_within}
use Rattle.rel_show.proofs.Commands.{same_form, same_commands, block_within}

same_command : (k : Command) (c d : ℕ) → written (show_command c k) ≡ written (show_command d k)
same_command (At at f) c d = let h = same_form f c d in grind (arith, written-begins, written-tree)

same_loop : (l : BiLoop) (c d : ℕ) → written (show_loop c l) ≡ written (show_loop d l)
same_loop l c d =
    let h = same_formula l.tests.0 c d in let i = same_formula l.tests.1 c d in let j = same_formula l.invs.0 c d in let k = same_formula l.invs.1 c d in
    let m = same_rel l.rel c d in let n = same_rel l.guards.0 c d in let o = same_rel l.guards.1 c d in
    grind (arith, written-append)

mutual
  pub same_biform : (f : BiForm) (c d : ℕ) → written (show_biform c f) ≡ written (show_biform d f)
  same_biform (Split a b) c d = let h = same_commands a (suc c) (suc d) 1 1 in let k = same_commands b (suc c) (suc d) 1 1 in grind (arith, written-append)
  same_biform (Sync k) c d = let h = same_command k (suc c) (suc d) in grind (arith, written-append)
  same_biform (SyncCall k j) c d = let h = same_command k (suc c) (suc d) in grind (arith, written-append)
  same_biform (BiIf p q a b) c d =
      let h = same_formula p (suc c) (suc d) in let i = same_formula q (suc c) (suc d) in
      let k = same_bicommands a (suc c) (suc d) 1 1 in let l = same_bicommands b (suc c) (suc d) 1 1 in
      grind (arith, written-append)
  same_biform (BiWhile l b) c d = let h = same_loop l (suc c) (suc d) in let k = same_bicommands b (suc c) (suc d) 1 1 in grind (arith, written-append)
  same_biform (Link x y) c d = refl
  same_biform (Note r) c d = let h = same_rel r (suc c) (suc d) in grind (arith, written-append)

  pub same_bicommands : (b : BiBlock) (c d n m : ℕ) → written (show_bicommands c n b) ≡ written (show_bicommands d m b)
  same_bicommands BiEnd c d n m = refl
  same_bicommands (BiThen (BiAt at f) cs) c d n m =
      let h = same_biform f c d in let k = same_bicommands cs c d (suc n) (suc m) in
      grind (arith, written-append, written-element, written-begins, written-tree)

-- what is in a bicommand is one deeper
pub command_within : (k : Command) → written (show_command 2 k) ≡ written (show_command 1 k)
command_within k = same_command k 2 1

pub loop_within : (l : BiLoop) → written (show_loop 2 l) ≡ written (show_loop 1 l)
loop_within l = same_loop l 2 1

pub biblock_within : (b : BiBlock) → written (show_bicommands 2 1 b) ≡ written (show_bicommands 1 1 b)
biblock_within b = same_bicommands b 2 1 1 1

biblock_is : (cs : List C.BiCommand) → biblock_from (map bicommand_of cs) ≡ biblock_of cs
biblock_is [] = refl
biblock_is (c ∷ cs) = ap (λ b. BiThen (bicommand_of c) b) (biblock_is cs)

bicommand_is : (c : C.BiCommand) → bicommand_of c ≡ BiAt c.at (biform_of c.form)
bicommand_is c = search (rules, B.the_lemmas)

written_bicommand : (c : C.BiCommand) → written (show_bicommand 1 (bicommand_of c)) ≡ written (show_biform 1 (biform_of c.form))
written_bicommand c =
    ap (λ k. written (show_bicommand 1 k)) (bicommand_is c) ∙ written-begins c.at _ ∙ written-tree 1 (show_biform 1 (biform_of c.form))

-- the bicommands of a block, each with its semicolon
pub by_bicommand : IsByElement (λ n cs. written (show_bicommands 1 n (biblock_of cs))) (λ c. written (show_biform 1 (biform_of c.form)) ++ 59 ∷ 32 ∷ [])
by_bicommand = record {
  none = λ n. refl;
  more = λ n c cs. written-append (element n (show_bicommand 1 (bicommand_of c))) (word (codes ";") ∷ show_bicommands 1 (suc n) (biblock_of cs))
      ∙ ap (λ t. t ++ 59 ∷ 32 ∷ written (show_bicommands 1 (suc n) (biblock_of cs))) (written-element n (show_bicommand 1 (bicommand_of c)) ∙ written_bicommand c)
      ∙ sym (append_assoc (written (show_biform 1 (biform_of c.form))) (59 ∷ 32 ∷ []) (written (show_bicommands 1 (suc n) (biblock_of cs))));
}

-- how an `if` and a `while` are read
pub if_is : (p q : P.Formula) (a b : List C.BiCommand) → biform_of (B.If p q a b) ≡ BiIf (formula_of p) (formula_of q) (biblock_of a) (biblock_of b)
if_is p q a b = search (rules, B.the_lemmas, biblock_is)

pub while_is : (l : L.BiLoop) (b : List C.BiCommand) → biform_of (B.While l b) ≡ BiWhile (loop_of l) (biblock_of b)
while_is l b = search (rules, B.the_lemmas, biblock_is)

pub written_while : (f : B.BiForm) (l : L.BiLoop) (b : List C.BiCommand) → f ≡ B.While l b
    → written (show_loop 1 (loop_of l) ++ show_biblock 1 (biblock_of b)) ≡ written (show_biform 1 (biform_of f))
written_while f l b is = same_biform (BiWhile (loop_of l) (biblock_of b)) 0 1 ∙ sym (ap (λ g. written (show_biform 1 g)) (ap biform_of is ∙ while_is l b))

pub ruleset biprograms = (writing, formula_within, rel_within, block_within, command_within, loop_within, biblock_within, if_is, while_is, B.the_lemmas)
