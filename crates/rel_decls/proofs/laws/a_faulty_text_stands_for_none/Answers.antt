use Rattle.rel_decls.proofs.OneFault.{unfit}
use Rattle.rel_decls.proofs.laws.a_faulty_text_stands_for_none.Goals as goal

pub returns : goal.returns
returns c = unfit
