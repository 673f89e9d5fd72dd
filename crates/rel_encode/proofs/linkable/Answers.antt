-- The definition's formula is exact.
use Rattle.rel_logic.specs.View.{trm_of, fml_of}
use Rattle.rel_encode.specs.Relations.{linkable}
use Rattle.rel_encode.specs.Laws.{IsExactLinkable}
use Rattle.rel_encode.proofs.Answered.{answered}
use Rattle.rel_encode.proofs.Small.{exact_linkable}
use Rattle.rel_encode.proofs.linkable.Goals as goal

pub returns-clause-exact : goal.returns-clause-exact
returns-clause-exact c =
    let p = trm_of c.args.p.now in
    let a = trm_of c.args.a.now in
    let b = trm_of c.args.b.now in
    answered (IsExactLinkable c.args.class p a b) fml_of (linkable c.args.class p a b) (exact_linkable c.args.class p a b) c.linkable.result c.linkable.ensures
