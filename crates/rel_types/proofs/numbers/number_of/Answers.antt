use Rattle.std.proofs.Common.{sym, ◌∙◌}
use Rattle.rel_types.proofs.Numbering.{is_known}
use Rattle.rel_types.proofs.numbers.number_of.Goals as goal

pub returns-in-None : goal.returns-in-None
returns-in-None c b k = absurd (is_known c.requires.0 c.args.known.now c.args.class.now c.requires.1 c.requires.2 (sym c.get.ensures ∙ c.in-None.is))
