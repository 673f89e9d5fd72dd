-- The search ends at the line feed.
use Rattle.std.proofs.Common.{not, refl, rules}
use Rattle.rel_lang.specs.Tokens.{is_line_feed}
use Rattle.std.proofs.lemmas.Fn.{always_returns_same}
use Rattle.rel_lexer.proofs.Cuts.{run-searched}
use Rattle.rel_lexer.proofs.parts.line_len.Goals as goal

pub returns : goal.returns
returns c =
    run-searched (λ c. not (is_line_feed c)) (is_line_feed) (λ d. refl) _ c.args.rest.now c.find.result c.unwrap_or.result c.utf8.rest c.find.ensures.cases c.unwrap_or.ensures (always_returns_same _ _ _ (λ a r f h. search rules))
