-- Reading a relation formula by what is left of the depth.
use Rattle.std.proofs.Common.{◌≡◌, ℕ, zero, suc, ◌-◌, ◌<◌, List, refl, arith}
use Rattle.rel_lexer.specs.declared.Token.{Token}
use Rattle.rel_parse.specs.Reading.{too_deep_at}
use Rattle.rel_parse.specs.Expressions.{expression_at}
use Rattle.rel_parse.specs.Formulas.{formula_at}
use Rattle.rel_parse.specs.Relations.{begins_rel, rel_from, rel_at}

pub rel_at_none : (n : ℕ) (ts : List Token) → n ≡ 0 → rel_at n ts ≡ too_deep_at begins_rel ts
unfolding rel_at
rel_at_none n ts e = rw e refl

pub rel_at_more : (n : ℕ) (ts : List Token) → 0 < n → rel_at n ts ≡ rel_from (expression_at (n - 1)) (formula_at (n - 1)) (rel_at (n - 1)) ts
unfolding rel_at
rel_at_more zero ts lt = absurd (omega arith)
rel_at_more (suc n) ts lt = let e : suc n - 1 ≡ n = omega arith in rw e refl
