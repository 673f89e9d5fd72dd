-- What is written of a relation formula doesn't depend on its depth.
use Rattle.std.proofs.Common.{◌≡◌, ℕ, suc, ◌∷◌, ◌++◌, refl, sym, ap, ◌∙◌, arith, rules}
use Rattle.std.specs.Prelude.{codes}
use Rattle.rel_lang.specs.Syntax.{RelFormula, RelTrue, RelFalse, OnLeft, OnRight, Both, Agree, AgreeImage, RelNot, RelAnd, RelOr, RelImplies, RelEvery, RelExists, Eventually}
use Rattle.rel_lang.specs.Text.{word, show_rel}
use Rattle.rel_lang.specs.View.{rel_of}
use Rattle.rel_lang.specs.declared.relation.RelFormula as R
use Rattle.rel_show.specs.Written.{written}
use Rattle.rel_show.proofs.Writing.{written-append, writing}
use Rattle.rel_show.proofs.Expressions.{same_expression, operand}
use Rattle.rel_show.proofs.Formulas.{same_formula, formula_within}

pub same_rel : (r : RelFormula) (c d : ℕ) → written (show_rel c r) ≡ written (show_rel d r)
same_rel RelTrue c d = refl
same_rel RelFalse c d = refl
same_rel (OnLeft p) c d = let h = same_formula p (suc c) (suc d) in grind (arith, written-append)
same_rel (OnRight p) c d = let h = same_formula p (suc c) (suc d) in grind (arith, written-append)
same_rel (Both p) c d = let h = same_formula p (suc c) (suc d) in grind (arith, written-append)
same_rel (Agree e f) c d = let h = same_expression e (suc c) (suc d) in let k = same_expression f (suc c) (suc d) in grind (arith, written-append)
same_rel (AgreeImage e f) c d = let h = same_expression e (suc c) (suc d) in grind (arith, written-append)
same_rel (RelNot r) c d = let h = same_rel r (suc c) (suc d) in grind (arith, written-append)
same_rel (RelAnd r s) c d = let h = same_rel r (suc c) (suc d) in let k = same_rel s (suc c) (suc d) in grind (arith, written-append)
same_rel (RelOr r s) c d = let h = same_rel r (suc c) (suc d) in let k = same_rel s (suc c) (suc d) in grind (arith, written-append)
same_rel (RelImplies r s) c d = let h = same_rel r (suc c) (suc d) in let k = same_rel s (suc c) (suc d) in grind (arith, written-append)
same_rel (RelEvery s x n e r) c d = let h = same_expression e (suc c) (suc d) in let k = same_rel r (suc c) (suc d) in grind (arith, written-append)
same_rel (RelExists s x n e r) c d = let h = same_expression e (suc c) (suc d) in let k = same_rel r (suc c) (suc d) in grind (arith, written-append)
same_rel (Eventually r) c d = let h = same_rel r (suc c) (suc d) in grind (arith, written-append)

-- a part is one deeper
pub rel_within : (r : RelFormula) → written (show_rel 2 r) ≡ written (show_rel 1 r)
rel_within r = same_rel r 2 1

eventually_is : (r : R.RelFormula) → rel_of (R.Eventually r) ≡ Eventually (rel_of r)
eventually_is r = search (rules, R.the_lemmas)

-- the longest word that is printed
pub written_eventually : (s r : R.RelFormula) → s ≡ R.Eventually r → written (word (codes "eventually") ∷ show_rel 1 (rel_of r)) ≡ written (show_rel 1 (rel_of s))
written_eventually s r is =
    ap (λ t. codes "eventually" ++ 32 ∷ t) (sym (rel_within (rel_of r))) ∙ sym (ap (λ q. written (show_rel 1 q)) (ap rel_of is ∙ eventually_is r))

pub ruleset relations = (writing, operand, formula_within, rel_within, R.the_lemmas)
