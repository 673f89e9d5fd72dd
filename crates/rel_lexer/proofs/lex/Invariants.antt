-- What the loop keeps.
use Rattle.std.proofs.Common.{length}
use Rattle.rel_lexer.proofs.Walk.{Walked}
use Rattle.rel_lexer.proofs.lex.Given as goal

-- the tokens so far, and behind them those of the rest, are the text's
abbrev pub invariant-loop-rest : goal.invariant-loop-rest
invariant-loop-rest l = Walked l.text l.tokens.items l.rest l.at

abbrev pub decreases-loop-rest : goal.decreases-loop-rest
decreases-loop-rest l = length l.rest
