-- A run of ASCII that ends at ASCII, or with the text, is the whole run.
use Rattle.std.proofs.Common.{sym, ◌∙◌}
use Rattle.rel_lexer.proofs.AsciiNames.{found-whole, found-ascii}
use Rattle.rel_lexer.proofs.parts.name_len.Goals as goal
use Rattle.rel_lexer.proofs.parts.name_len.Goals.{else-len-bytes-via-then-len-bytes+else-not-is_ascii, else-len-bytes-via-else-len-bytes}

pub returns-else-len-bytes : goal.returns-else-len-bytes
returns-else-len-bytes c =
    let text = c.args.rest.now in
    let bytes = c.as_bytes-bytes.result.now in
    let k = c.ascii_name_len-len.result in
    elim c.else-len-bytes.branch [
      | else-len-bytes-via-then-len-bytes+else-not-is_ascii w ↦ found-ascii text bytes k c.utf8.rest c.as_bytes-bytes.ensures.value c.ascii_name_len-len.ensures w.if-len-bytes.true (sym w.is_ascii.ensures ∙ w.if-not-is_ascii.false)
      | else-len-bytes-via-else-len-bytes w ↦ found-whole text bytes k c.utf8.rest c.as_bytes-bytes.ensures.value c.ascii_name_len-len.ensures w.if-len-bytes.false
    ]
