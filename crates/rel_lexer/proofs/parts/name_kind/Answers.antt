-- A name is what is no reserved word.
use Rattle.std.proofs.Common.{sym}
use Rattle.rel_lexer.proofs.Names.{word-kind, name-kind}
use Rattle.rel_lexer.proofs.parts.name_kind.Goals as goal

pub returns-in-Some : goal.returns-in-Some
returns-in-Some c = word-kind c.args.text.now c.in-Some.keyword (sym c.in-Some.ensures)

pub returns-in-None : goal.returns-in-None
returns-in-None c = name-kind c.args.text.now c.requires (sym c.in-None.ensures)
