-- The search ends at the first character that is no digit.
use Rattle.std.proofs.Common.{not, rules}
use Rattle.rel_lang.specs.Tokens.{is_digit}
use Rattle.std.proofs.lemmas.Fn.{always_returns_same}
use Rattle.rel_lexer.proofs.Cuts.{run-searched, not-not}
use Rattle.rel_lexer.proofs.parts.digits_len.Goals as goal

pub returns : goal.returns
returns c =
    run-searched (is_digit) (λ c. not (is_digit c)) (λ d. not-not (is_digit d)) _ c.args.rest.now c.find.result c.unwrap_or.result c.utf8.rest c.find.ensures.cases c.unwrap_or.ensures (always_returns_same _ _ _ (λ a r f h. search rules))
