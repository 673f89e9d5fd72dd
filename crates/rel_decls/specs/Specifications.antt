-- How effects, clauses and specifications are read.
use Rattle.std.specs.Prelude.{Bool, not, ◌&&◌, List}
use Rattle.rel_lang.specs.Syntax.{Place, Effect, Global, Locations, Clause, RelClause, Spec}
use Rattle.rel_lang.specs.Refusal.{Limits}
use Rattle.rel_lexer.specs.declared.Token.{Token}
use Rattle.rel_lexer.specs.declared.Kind.TheVariants as kind
use Rattle.rel_lexer.specs.declared.keywords.Keyword.TheVariants as word
use Rattle.rel_lexer.specs.declared.symbols.Symbol.TheVariants as symbol
use Rattle.rel_parse.specs.Reading.{Reader, is_second, is_name_next, name_at, made, both, after, before, placed, either, listed_at}
use Rattle.rel_parse.specs.Expressions.{expression_at}
use Rattle.rel_parse.specs.Formulas.{formula_at}
use Rattle.rel_parse.specs.Relations.{rel_at}

unfoldable pub place_at : Limits → Reader Place
place_at l = made (λ p. record { region = p.0; field = p.1 }) (both (expression_at l.deepest) (after (kind.Symbol symbol.At) name_at))

-- a name without a field behind it
abbrev pub is_variable_next : List Token → Bool
is_variable_next ts = is_name_next ts && not (is_second (kind.Symbol symbol.At) ts)

unfoldable pub effect_at : Limits → Reader Effect
effect_at l = either is_variable_next (made Global name_at) (made Locations (place_at l))

-- between braces
abbrev pub places_at : Limits → Reader (List Place)
places_at l = after (kind.Symbol symbol.OpenBrace) (before (kind.Symbol symbol.CloseBrace) (listed_at (kind.Symbol symbol.CloseBrace) (place_at l) l.most))

abbrev pub writes_at : Limits → Reader (List Effect)
writes_at l =
    after (kind.Word word.Writes) (after (kind.Symbol symbol.OpenBrace)
    (before (kind.Symbol symbol.CloseBrace) (listed_at (kind.Symbol symbol.CloseBrace) (effect_at l) l.most)))

unfoldable pub clause_at : Limits → Reader Clause
clause_at l = made (λ p. record { at = p.0; formula = p.1 }) (placed (formula_at l.deepest))

unfoldable pub rel_clause_at : Limits → Reader RelClause
rel_clause_at l = made (λ p. record { at = p.0; formula = p.1 }) (placed (rel_at l.deepest))

unfoldable pub spec_at : Limits → Reader Spec
spec_at l =
    made (λ p. record { needs = p.0; gives = p.1.0; writes = p.1.1 })
    (both (after (kind.Word word.Requires) (clause_at l)) (both (after (kind.Word word.Ensures) (clause_at l)) (writes_at l)))
