-- Of ASCII, the letters start an identifier.
use Rattle.std.proofs.Common.{sym, ◌∙◌}
use Rattle.unicode_ident.proofs.IdentLemmas.{is_xid_start-ascii}
use Rattle.rel_lexer.proofs.AsciiNames.{ascii_below}
use Rattle.rel_lexer.proofs.parts.is_start.Goals as goal

pub returns-then-is_ascii : goal.returns-then-is_ascii
returns-then-is_ascii c = c.is_ascii_alphabetic.ensures.value ∙ sym (is_xid_start-ascii c.args.ch (ascii_below c.args.ch (sym c.is_ascii.ensures ∙ c.if-is_ascii.true)))
