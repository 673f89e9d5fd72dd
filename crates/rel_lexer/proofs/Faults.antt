-- Where a piece is at fault.
use Rattle.std.proofs.Common.{◌≡◌, ℕ, ◌+◌, ap, ◌∙◌, arith}
use Rattle.rel_lang.specs.Tokens.{Piece}
use Rattle.rel_lang.specs.Tokens.Piece.{bad}
use Rattle.rel_lexer.specs.declared.LexFault.TheVariants.{BadChar}
use Rattle.rel_lexer.specs.Pieces.{IsFault}

bad-on : (piece : Piece) (at n : ℕ) → piece ≡ bad n → IsFault piece at (BadChar (at + n))
bad-on piece at n is = (omega arith, is ∙ ap bad (omega arith))

pub bad-here : (piece : Piece) (at : ℕ) → piece ≡ bad 0 → IsFault piece at (BadChar at)
bad-here piece at is = (omega arith, is ∙ ap bad (omega arith))

pub bad-next : (piece : Piece) (at : ℕ) → piece ≡ bad 1 → IsFault piece at (BadChar (at + 1))
bad-next piece at is = bad-on piece at 1 is
