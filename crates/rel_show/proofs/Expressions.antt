-- What is written of an expression doesn't depend on its depth.
use Rattle.std.proofs.Common.{◌≡◌, ℕ, suc, refl, arith}
use Rattle.rel_lang.specs.Syntax.{Expression, Var, Num, Null, Empty, Alloc, Add, Sub, Mul, Field, Single, Union, Meet, Minus, Image, Filter, Old}
use Rattle.rel_lang.specs.Text.{show_expression}
use Rattle.rel_lang.specs.declared.expr.Expr.{the_lemmas}
use Rattle.rel_show.specs.Written.{written}
use Rattle.rel_show.proofs.Writing.{written-append, writing}

pub same_expression : (e : Expression) (c d : ℕ) → written (show_expression c e) ≡ written (show_expression d e)
same_expression (Var x) c d = refl
same_expression (Num n) c d = refl
same_expression Null c d = refl
same_expression Empty c d = refl
same_expression Alloc c d = refl
same_expression (Add a b) c d = let p = same_expression a (suc c) (suc d) in let q = same_expression b (suc c) (suc d) in grind (arith, written-append)
same_expression (Sub a b) c d = let p = same_expression a (suc c) (suc d) in let q = same_expression b (suc c) (suc d) in grind (arith, written-append)
same_expression (Mul n a) c d = let p = same_expression a (suc c) (suc d) in grind (arith, written-append)
same_expression (Field a f) c d = let p = same_expression a (suc c) (suc d) in grind (arith, written-append)
same_expression (Single a) c d = let p = same_expression a (suc c) (suc d) in grind (arith, written-append)
same_expression (Union a b) c d = let p = same_expression a (suc c) (suc d) in let q = same_expression b (suc c) (suc d) in grind (arith, written-append)
same_expression (Meet a b) c d = let p = same_expression a (suc c) (suc d) in let q = same_expression b (suc c) (suc d) in grind (arith, written-append)
same_expression (Minus a b) c d = let p = same_expression a (suc c) (suc d) in let q = same_expression b (suc c) (suc d) in grind (arith, written-append)
same_expression (Image a f) c d = let p = same_expression a (suc c) (suc d) in grind (arith, written-append)
same_expression (Filter a k) c d = let p = same_expression a (suc c) (suc d) in grind (arith, written-append)
same_expression (Old a) c d = let p = same_expression a (suc c) (suc d) in grind (arith, written-append)

-- an operand is one deeper
pub operand : (e : Expression) → written (show_expression 2 e) ≡ written (show_expression 1 e)
operand e = same_expression e 2 1

pub ruleset expressions = (writing, operand, the_lemmas)
