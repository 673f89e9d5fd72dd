-- Only the words with the text's first letter are looked at.
use Rattle.std.proofs.Common.{length, get_or, sym, ap, ◌∙◌, arith}
use Rattle.std.specs.Prelude.{bytes_eq, find}
use Rattle.rel_lexer.specs.Words.{keyword_text}
use Rattle.rel_lexer.proofs.Spellings.{empty_is_none, found_by_first}
use Rattle.rel_lexer.proofs.keywords.keyword_of.Goals as goal

pub returns-in-empty : goal.returns-in-empty
returns-in-empty c = sym (empty_is_none c.args.text.now (omega (arith, ap length c.as_bytes.ensures.value)))

pub returns-in-len1-up : goal.returns-in-len1-up
returns-in-len1-up c =
    let text = c.args.text.now in
    c.among.ensures ∙ ap (find (λ k. bytes_eq text (keyword_text k))) c.keywords_with.ensures
    ∙ found_by_first text (get_or c.as_bytes.result.now 0 0) (omega (arith, ap length c.as_bytes.ensures.value)) (ap (λ l. get_or l 0 0) (sym c.as_bytes.ensures.value))
