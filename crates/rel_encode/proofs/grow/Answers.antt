-- The definition's formula is exact.
use Rattle.rel_logic.specs.View.{trm_of, fml_of}
use Rattle.rel_encode.specs.Facts.{grow}
use Rattle.rel_encode.specs.Laws.{IsExactGrowth}
use Rattle.rel_encode.proofs.Answered.{answered}
use Rattle.rel_encode.proofs.Small.{exact_growth}
use Rattle.rel_encode.proofs.grow.Goals as goal

pub returns-clause-exact : goal.returns-clause-exact
returns-clause-exact c =
    let before = trm_of c.args.before.now in
    let after = trm_of c.args.after.now in
    answered (IsExactGrowth before after) fml_of (grow before after) (exact_growth before after) c.growth.result c.growth.ensures
