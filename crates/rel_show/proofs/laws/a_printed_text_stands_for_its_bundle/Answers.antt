use Rattle.rel_show.proofs.Printed.{printed_stands}
use Rattle.rel_show.proofs.laws.a_printed_text_stands_for_its_bundle.Goals as goal

pub returns : goal.returns
returns c = printed_stands
