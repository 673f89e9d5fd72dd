-- The formula is the definition's, and that one is exact.
use Rattle.std.proofs.Common.{◌≡◌, List, IfOk, map, subst}
use Rattle.rel_lang.specs.Syntax.{Decl}
use Rattle.rel_lang.specs.View as language
use Rattle.rel_lang.specs.View.{decl_of}
use Rattle.rel_logic.specs.View.{fml_of}
use Rattle.rel_encode.specs.Numbers.{Numbers, numbers_of}
use Rattle.rel_encode.specs.Relations.{rel_of}
use Rattle.rel_encode.specs.Laws.{IsExactRelation}
use Rattle.rel_encode.specs.View.{pair_store_of, numbers_in}
use Rattle.rel_encode.proofs.Answered.{answered}
use Rattle.rel_encode.proofs.ExactRelations.{exact_relation}
use Rattle.rel_encode.proofs.rel_of.Goals as goal

pub returns-clause-tree : goal.returns-clause-tree
returns-clause-tree c =
    let tree = λ (n : Numbers) (ls rs : List Decl). rel_of n ls rs (language.rel_of c.args.r.now) (pair_store_of c.args.s.now) in
    let names = c.in_ok-names.names in
    let left = c.in_ok-names.left.items.now in
    subst (λ n. IfOk c.relation_outside.result (λ f. fml_of f ≡ tree n (map decl_of c.args.left.now) (map decl_of c.args.right.now))) c.in_ok-names.ensures.0
    (subst (λ ls. IfOk c.relation_outside.result (λ f. fml_of f ≡ tree (numbers_in names) (map decl_of ls) (map decl_of c.args.right.now))) c.in_ok-names.ensures.1
    (subst (λ rs. IfOk c.relation_outside.result (λ f. fml_of f ≡ tree (numbers_in names) (map decl_of left) (map decl_of rs))) c.in_ok-right.ensures c.relation_outside.ensures))

pub returns-clause-exact : goal.returns-clause-exact
returns-clause-exact c =
    let numbers = numbers_of c.args.t.now in
    let ls = map decl_of c.args.left.now in
    let rs = map decl_of c.args.right.now in
    let r = language.rel_of c.args.r.now in
    let st = pair_store_of c.args.s.now in
    answered (IsExactRelation numbers ls rs r st) fml_of (rel_of numbers ls rs r st) (exact_relation numbers ls rs r st) c.relation_outside.result (returns-clause-tree c)
