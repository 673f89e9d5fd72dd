use Rattle.rel_decls.proofs.OneBundle.{one_bundle}
use Rattle.rel_decls.proofs.laws.a_text_stands_for_one_bundle.Goals as goal

pub returns : goal.returns
returns c = one_bundle
