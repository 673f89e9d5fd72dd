-- The definition's formula is exact.
use Rattle.std.proofs.Common.{◌≡◌, List, IfOk, map, subst}
use Rattle.rel_lang.specs.Syntax.{Decl}
use Rattle.rel_lang.specs.View.{decl_of, effect_of}
use Rattle.rel_logic.specs.View.{fml_of}
use Rattle.rel_encode.specs.Frame.{frame_of}
use Rattle.rel_encode.specs.Laws.{IsExactFrame}
use Rattle.rel_encode.specs.View.{store_of, numbers_in}
use Rattle.rel_encode.proofs.ExactFrames.{exact_frame}
use Rattle.rel_encode.specs.Numbers.{Numbers, numbers_of}
use Rattle.rel_encode.proofs.Answered.{answered}
use Rattle.rel_encode.proofs.frame_formula.Goals as goal

pub returns-clause-exact : goal.returns-clause-exact
returns-clause-exact c =
    let numbers = numbers_of c.args.t.now in
    let ds = map decl_of c.args.scope.now in
    let writes = map effect_of c.args.writes.now in
    let before = store_of c.args.before.now in
    let after = store_of c.args.after.now in
    let tree = λ (n : Numbers) (xs : List Decl). frame_of n xs c.args.framed writes before after in
    answered (IsExactFrame numbers ds c.args.framed writes before after) fml_of (tree numbers ds) (exact_frame numbers ds c.args.framed writes before after) c.frame.result
    (subst (λ n. IfOk c.frame.result (λ u. fml_of u ≡ tree n ds)) c.in_ok-names.ensures.0
    (subst (λ xs. IfOk c.frame.result (λ u. fml_of u ≡ tree (numbers_in c.in_ok-names.names) (map decl_of xs))) c.in_ok-names.ensures.1 c.frame.ensures))
