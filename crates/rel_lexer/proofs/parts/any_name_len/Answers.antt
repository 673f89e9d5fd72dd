-- The search ends at the first character that goes on with no name.
use Rattle.std.proofs.Common.{not, rules}
use Rattle.rel_lang.specs.Tokens.{continues_name}
use Rattle.std.proofs.lemmas.Fn.{always_returns_same}
use Rattle.rel_lexer.proofs.Cuts.{run-searched, not-not}
use Rattle.rel_lexer.proofs.parts.any_name_len.Goals as goal

pub returns : goal.returns
returns c =
    run-searched (continues_name) (λ c. not (continues_name c)) (λ d. not-not (continues_name d)) _ c.args.rest.now c.find.result c.unwrap_or.result c.utf8.rest c.find.ensures.cases c.unwrap_or.ensures (always_returns_same _ _ _ (λ a r f h. search rules))
