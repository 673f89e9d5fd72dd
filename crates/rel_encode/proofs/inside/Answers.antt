-- The definition's formula is exact.
use Rattle.rel_logic.specs.View.{trm_of, fml_of}
use Rattle.rel_encode.specs.Relations.{inside}
use Rattle.rel_encode.specs.Laws.{IsExactInside}
use Rattle.rel_encode.proofs.Answered.{answered}
use Rattle.rel_encode.proofs.Small.{exact_inside}
use Rattle.rel_encode.proofs.inside.Goals as goal

pub returns-clause-exact : goal.returns-clause-exact
returns-clause-exact c =
    let p = trm_of c.args.p.now in
    let left = trm_of c.args.left.now in
    let right = trm_of c.args.right.now in
    answered (IsExactInside p left right) fml_of (inside p left right) (exact_inside p left right) c.inside.result c.inside.ensures
