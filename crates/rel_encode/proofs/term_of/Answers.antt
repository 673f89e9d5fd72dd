-- The definition's term is exact.
use Rattle.std.proofs.Common.{◌≡◌, List, IfOk, map, subst}
use Rattle.rel_lang.specs.Syntax.{Decl}
use Rattle.rel_lang.specs.View.{decl_of, expression_of}
use Rattle.rel_logic.specs.View.{trm_of}
use Rattle.rel_encode.specs.Terms.{term_of}
use Rattle.rel_encode.specs.Laws.{IsExactTerm}
use Rattle.rel_encode.specs.View.{store_of, numbers_in}
use Rattle.rel_encode.proofs.ExactTerms.{exact_term}
use Rattle.rel_encode.specs.Numbers.{Numbers, numbers_of}
use Rattle.rel_encode.proofs.Answered.{answered}
use Rattle.rel_encode.proofs.term_of.Goals as goal

pub returns-clause-exact : goal.returns-clause-exact
returns-clause-exact c =
    let numbers = numbers_of c.args.t.now in
    let ds = map decl_of c.args.scope.now in
    let e = expression_of c.args.e.now in
    let entry = store_of c.args.entry.now in
    let present = store_of c.args.present.now in
    let tree = λ (n : Numbers) (xs : List Decl). term_of n xs e entry present in
    answered (IsExactTerm numbers ds e entry present) trm_of (tree numbers ds) (exact_term numbers ds e entry present) c.term_outside.result
    (subst (λ n. IfOk c.term_outside.result (λ u. trm_of u ≡ tree n ds)) c.in_ok-names.ensures.0
    (subst (λ xs. IfOk c.term_outside.result (λ u. trm_of u ≡ tree (numbers_in c.in_ok-names.names) (map decl_of xs))) c.in_ok-names.ensures.1 c.term_outside.ensures))
