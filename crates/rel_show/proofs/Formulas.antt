-- What is written of a formula doesn't depend on its depth.
use Rattle.std.proofs.Common.{◌≡◌, ℕ, suc, refl, arith}
use Rattle.rel_lang.specs.Syntax.{Formula, True, False, Eq, Lt, Le, Member, Subset, Not, And, Or, Implies, Every, Exists}
use Rattle.rel_lang.specs.Text.{show_formula}
use Rattle.rel_lang.specs.declared.formula.Formula.{the_lemmas}
use Rattle.rel_show.specs.Written.{written}
use Rattle.rel_show.proofs.Writing.{written-append, writing}
use Rattle.rel_show.proofs.Expressions.{same_expression, operand}

pub same_formula : (p : Formula) (c d : ℕ) → written (show_formula c p) ≡ written (show_formula d p)
same_formula True c d = refl
same_formula False c d = refl
same_formula (Eq e f) c d = let h = same_expression e (suc c) (suc d) in let k = same_expression f (suc c) (suc d) in grind (arith, written-append)
same_formula (Lt e f) c d = let h = same_expression e (suc c) (suc d) in let k = same_expression f (suc c) (suc d) in grind (arith, written-append)
same_formula (Le e f) c d = let h = same_expression e (suc c) (suc d) in let k = same_expression f (suc c) (suc d) in grind (arith, written-append)
same_formula (Member e f) c d = let h = same_expression e (suc c) (suc d) in let k = same_expression f (suc c) (suc d) in grind (arith, written-append)
same_formula (Subset e f) c d = let h = same_expression e (suc c) (suc d) in let k = same_expression f (suc c) (suc d) in grind (arith, written-append)
same_formula (Not p) c d = let h = same_formula p (suc c) (suc d) in grind (arith, written-append)
same_formula (And p q) c d = let h = same_formula p (suc c) (suc d) in let k = same_formula q (suc c) (suc d) in grind (arith, written-append)
same_formula (Or p q) c d = let h = same_formula p (suc c) (suc d) in let k = same_formula q (suc c) (suc d) in grind (arith, written-append)
same_formula (Implies p q) c d = let h = same_formula p (suc c) (suc d) in let k = same_formula q (suc c) (suc d) in grind (arith, written-append)
same_formula (Every x n e p) c d = let h = same_expression e (suc c) (suc d) in let k = same_formula p (suc c) (suc d) in grind (arith, written-append)
same_formula (Exists x n e p) c d = let h = same_expression e (suc c) (suc d) in let k = same_formula p (suc c) (suc d) in grind (arith, written-append)

-- a part is one deeper
pub formula_within : (p : Formula) → written (show_formula 2 p) ≡ written (show_formula 1 p)
formula_within p = same_formula p 2 1

pub ruleset formulas = (writing, operand, formula_within, the_lemmas)
