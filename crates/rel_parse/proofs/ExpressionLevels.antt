-- Reading an expression by what is left of the depth.
use Rattle.std.proofs.Common.{◌≡◌, ℕ, zero, suc, ◌-◌, ◌<◌, List, refl, arith}
use Rattle.rel_lexer.specs.declared.Token.{Token}
use Rattle.rel_parse.specs.Reading.{too_deep_at}
use Rattle.rel_parse.specs.Expressions.{begins_expression, expression_from, expression_at}

pub expression_at_none : (n : ℕ) (ts : List Token) → n ≡ 0 → expression_at n ts ≡ too_deep_at begins_expression ts
unfolding expression_at
expression_at_none n ts e = rw e refl

pub expression_at_more : (n : ℕ) (ts : List Token) → 0 < n → expression_at n ts ≡ expression_from (expression_at (n - 1)) ts
unfolding expression_at
expression_at_more zero ts lt = absurd (omega arith)
expression_at_more (suc n) ts lt = let e : suc n - 1 ≡ n = omega arith in rw e refl
