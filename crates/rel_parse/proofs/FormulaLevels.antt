-- Reading a formula by what is left of the depth.
use Rattle.std.proofs.Common.{◌≡◌, ℕ, zero, suc, ◌-◌, ◌<◌, List, refl, arith}
use Rattle.rel_lexer.specs.declared.Token.{Token}
use Rattle.rel_parse.specs.Reading.{too_deep_at}
use Rattle.rel_parse.specs.Expressions.{expression_at}
use Rattle.rel_parse.specs.Formulas.{begins_formula, formula_from, formula_at}

pub formula_at_none : (n : ℕ) (ts : List Token) → n ≡ 0 → formula_at n ts ≡ too_deep_at begins_formula ts
unfolding formula_at
formula_at_none n ts e = rw e refl

pub formula_at_more : (n : ℕ) (ts : List Token) → 0 < n → formula_at n ts ≡ formula_from (expression_at (n - 1)) (formula_at (n - 1)) ts
unfolding formula_at
formula_at_more zero ts lt = absurd (omega arith)
formula_at_more (suc n) ts lt = let e : suc n - 1 ≡ n = omega arith in rw e refl
