-- The second character decides whether a comment begins.
use Rattle.rel_lexer.proofs.Comments.{comment-gap, comment-bad}
use Rattle.rel_lexer.proofs.Faults.{bad-here}
use Rattle.rel_lexer.proofs.parts.comment.Goals as goal

pub returns-then-starts_with : goal.returns-then-starts_with
returns-then-starts_with c = comment-gap c.args.rest.now c.utf8.rest c.requires c.line_len.result c.if-starts_with.ensures.cases c.line_len.ensures

pub returns-else-starts_with : goal.returns-else-starts_with
returns-else-starts_with c = bad-here _ c.args.at (comment-bad c.args.rest.now c.utf8.rest c.requires c.if-starts_with.ensures.cases)
