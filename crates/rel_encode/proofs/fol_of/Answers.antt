-- The definition's formula is exact.
use Rattle.std.proofs.Common.{◌≡◌, List, IfOk, map, subst}
use Rattle.rel_lang.specs.Syntax.{Decl}
use Rattle.rel_lang.specs.View.{decl_of, formula_of}
use Rattle.rel_logic.specs.View.{fml_of}
use Rattle.rel_encode.specs.Formulas.{fol_of}
use Rattle.rel_encode.specs.Laws.{IsExactFormula}
use Rattle.rel_encode.specs.View.{store_of, numbers_in}
use Rattle.rel_encode.proofs.ExactFormulas.{exact_formula}
use Rattle.rel_encode.specs.Numbers.{Numbers, numbers_of}
use Rattle.rel_encode.proofs.Answered.{answered}
use Rattle.rel_encode.proofs.fol_of.Goals as goal

pub returns-clause-exact : goal.returns-clause-exact
returns-clause-exact c =
    let numbers = numbers_of c.args.t.now in
    let ds = map decl_of c.args.scope.now in
    let p = formula_of c.args.p.now in
    let entry = store_of c.args.entry.now in
    let present = store_of c.args.present.now in
    let tree = λ (n : Numbers) (xs : List Decl). fol_of n xs p entry present in
    answered (IsExactFormula numbers ds p entry present) fml_of (tree numbers ds) (exact_formula numbers ds p entry present) c.formula_outside.result
    (subst (λ n. IfOk c.formula_outside.result (λ u. fml_of u ≡ tree n ds)) c.in_ok-names.ensures.0
    (subst (λ xs. IfOk c.formula_outside.result (λ u. fml_of u ≡ tree (numbers_in c.in_ok-names.names) (map decl_of xs))) c.in_ok-names.ensures.1 c.formula_outside.ensures))
