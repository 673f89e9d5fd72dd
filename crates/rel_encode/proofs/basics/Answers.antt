-- The definition's facts are true.
use Rattle.std.proofs.Common.{◌≡◌, List, IfOk, map, subst}
use Rattle.rel_lang.specs.Syntax.{Decl}
use Rattle.rel_lang.specs.View.{decl_of}
use Rattle.rel_logic.specs.View.{fml_of}
use Rattle.rel_encode.specs.Facts.{basics}
use Rattle.rel_encode.specs.Laws.{AreTrueFacts}
use Rattle.rel_encode.specs.View.{store_of, numbers_in}
use Rattle.rel_encode.proofs.TrueFacts.{true_facts}
use Rattle.rel_encode.specs.Numbers.{Numbers, numbers_of}
use Rattle.rel_encode.proofs.Answered.{answered}
use Rattle.rel_encode.proofs.basics.Goals as goal

pub returns-clause-exact : goal.returns-clause-exact
returns-clause-exact c =
    let numbers = numbers_of c.args.t.now in
    let ds = map decl_of c.args.scope.now in
    let st = store_of c.args.s.now in
    let tree = λ (n : Numbers) (xs : List Decl). basics n xs st in
    answered (AreTrueFacts numbers ds st) (map fml_of) (tree numbers ds) (true_facts numbers ds st) c.facts.result
    (subst (λ n. IfOk c.facts.result (λ u. map fml_of u ≡ tree n ds)) c.in_ok-names.ensures.0
    (subst (λ xs. IfOk c.facts.result (λ u. map fml_of u ≡ tree (numbers_in c.in_ok-names.names) (map decl_of xs))) c.in_ok-names.ensures.1 c.facts.ensures))
