-- A blank stands for itself.
use Rattle.std.proofs.Common.{sym, ◌∙◌}
use Rattle.rel_lexer.proofs.Comments.{blank-gap}
use Rattle.rel_lexer.proofs.parts.next_part.Goals as goal

pub returns-then-is_blank : goal.returns-then-is_blank
returns-then-is_blank c = blank-gap c.args.rest.now c.first_char-first.result c.utf8.rest c.first_char-first.ensures (sym c.is_blank.ensures ∙ c.if-is_blank.true)
