-- The symbol that begins the bytes is the one that begins the characters.
use Rattle.std.proofs.Common.{◌≡◌, Some, None, length, sym, ap, ◌∙◌, subst}
use Rattle.std.specs.Str.{chars}
use Rattle.rel_lang.specs.Tokens.{symbol_piece, symbols}
use Rattle.rel_lexer.specs.declared.Kind.TheVariants.{Symbol}
use Rattle.rel_lexer.specs.Words.{symbol_at}
use Rattle.rel_lexer.specs.Pieces.{IsToken}
use Rattle.rel_lexer.proofs.Faults.{bad-here}
use Rattle.rel_lexer.proofs.SymbolPieces.{symbol-none, symbol-token}
use Rattle.rel_lexer.proofs.parts.symbol.Goals as goal

pub returns-in-Some : goal.returns-in-Some
returns-in-Some c =
    let text = c.args.rest.now in
    let found : symbol_at text ≡ Some c.in-Some.symbol = ap symbol_at (sym c.as_bytes.ensures.value) ∙ sym c.symbol_at.ensures ∙ c.in-Some.is in
    subst (λ w. IsToken (symbol_piece symbols (chars text)) text (Symbol c.in-Some.symbol) (length w)) (sym c.text.ensures) (symbol-token text c.utf8.rest c.in-Some.symbol found)

pub returns-in-None : goal.returns-in-None
returns-in-None c =
    let text = c.args.rest.now in
    let none : symbol_at text ≡ None = ap symbol_at (sym c.as_bytes.ensures.value) ∙ sym c.symbol_at.ensures ∙ c.in-None.is in
    bad-here _ c.args.at (symbol-none text c.utf8.rest none)
