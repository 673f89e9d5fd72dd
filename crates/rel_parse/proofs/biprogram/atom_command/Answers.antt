use Rattle.rel_parse.specs.Commands.{begins_atom}
use Rattle.rel_parse.proofs.Biblocks.{atom_command_none}
use Rattle.rel_parse.proofs.Blocks.{too_deep_fails}
use Rattle.rel_parse.proofs.biprogram.atom_command.Goals as goal

pub returns-then-left-eq0 : goal.returns-then-left-eq0
returns-then-left-eq0 c = too_deep_fails begins_atom _ _ _ _ c.begins_atom.ensures c.too_deep.ensures (atom_command_none _ _ _ c.if-left-eq0.true)
