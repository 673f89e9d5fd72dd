-- How formulas are read.
use Rattle.std.specs.Prelude.{ℕ, zero, suc, Bool, List, [], ◌∷◌}
use Rattle.rel_lang.specs.Syntax.{Word, Expression, Formula, True, False, Eq, Lt, Le, Member, Subset, Not, And, Or, Implies, Every, Exists}
use Rattle.rel_lexer.specs.declared.Token.{Token}
use Rattle.rel_lexer.specs.declared.Kind.TheVariants as kind
use Rattle.rel_lexer.specs.declared.keywords.Keyword.TheVariants as word
use Rattle.rel_lexer.specs.declared.symbols.Symbol.TheVariants as symbol
use Rattle.rel_parse.specs.declared.formula.Comparison.{Comparison}
use Rattle.rel_parse.specs.declared.formula.Comparison.TheVariants as comparison
use Rattle.rel_parse.specs.declared.formula.Connective.{Connective}
use Rattle.rel_parse.specs.declared.formula.Connective.TheVariants as connective
use Rattle.rel_parse.specs.Reading.{Reader, is_next, name_at, made, both, after, before, either, too_deep_at}
use Rattle.rel_parse.specs.Firsts.{First, This, begins_one, means}
use Rattle.rel_parse.specs.Expressions.{expression_at}

-- with these a formula begins
abbrev pub formula_firsts : List First
formula_firsts =
    This (kind.Word word.True) ∷ This (kind.Word word.False) ∷ This (kind.Word word.Not) ∷ This (kind.Symbol symbol.OpenParenthesis)
    ∷ This (kind.Symbol symbol.OpenBracket) ∷ This (kind.Word word.All) ∷ This (kind.Word word.Some) ∷ []

abbrev pub begins_formula : List Token → Bool
begins_formula = begins_one formula_firsts

-- ---- comparisons, connectives and quantifiers

abbrev pub comparison_at : Reader Comparison
comparison_at =
    either (is_next (kind.Symbol symbol.Equal)) (means (kind.Symbol symbol.Equal) comparison.Eq)
    (either (is_next (kind.Symbol symbol.Less)) (means (kind.Symbol symbol.Less) comparison.Lt)
    (either (is_next (kind.Symbol symbol.LessEqual)) (means (kind.Symbol symbol.LessEqual) comparison.Le)
    (either (is_next (kind.Word word.In)) (means (kind.Word word.In) comparison.Member)
    (means (kind.Word word.Sub) comparison.Subset))))

abbrev pub compared : Comparison → Expression → Expression → Formula
compared comparison.Eq a b = Eq a b
compared comparison.Lt a b = Lt a b
compared comparison.Le a b = Le a b
compared comparison.Member a b = Member a b
compared comparison.Subset a b = Subset a b

abbrev pub connective_at : Reader Connective
connective_at =
    either (is_next (kind.Word word.And)) (means (kind.Word word.And) connective.And)
    (either (is_next (kind.Word word.Or)) (means (kind.Word word.Or) connective.Or)
    (means (kind.Word word.Implies) connective.Implies))

abbrev pub connected : Connective → Formula → Formula → Formula
connected connective.And p q = And p q
connected connective.Or p q = Or p q
connected connective.Implies p q = Implies p q

-- a variable and its class, up to the region that it ranges over
abbrev pub binder_at : Reader (Word × Word)
binder_at = both name_at (after (kind.Symbol symbol.Colon) (before (kind.Word word.In) name_at))

-- what follows the quantifier: the binder, the region and the body
abbrev pub quantified_at : {X : Type 0} → Reader Expression → Reader X → Reader ((Word × Word) × (Expression × X))
quantified_at region body = both binder_at (both region (after (kind.Symbol symbol.OpenBrace) (before (kind.Symbol symbol.CloseBrace) body)))

-- ---- one level of a formula, with the readers of its expressions and of its parts

-- behind the opening parenthesis
abbrev pub comparing_at : Reader Expression → Reader Formula
comparing_at operand = made (λ p. compared p.1.0 p.0 p.1.1) (before (kind.Symbol symbol.CloseParenthesis) (both operand (both comparison_at operand)))

-- two with what stands between them, behind the opening bracket
abbrev pub connection_at : {X : Type 0} → Reader X → Reader (X × (Connective × X))
connection_at part = before (kind.Symbol symbol.CloseBracket) (both part (both connective_at part))

abbrev pub connecting_at : Reader Formula → Reader Formula
connecting_at part = made (λ p. connected p.1.0 p.0 p.1.1) (connection_at part)

abbrev pub not_at : Reader Formula → Reader Formula
not_at part = made Not (after (kind.Word word.Not) part)

abbrev pub every_at : Reader Expression → Reader Formula → Reader Formula
every_at operand part = made (λ q. Every q.0.0 q.0.1 q.1.0 q.1.1) (after (kind.Word word.All) (quantified_at operand part))

abbrev pub exists_at : Reader Expression → Reader Formula → Reader Formula
exists_at operand part = made (λ q. Exists q.0.0 q.0.1 q.1.0 q.1.1) (after (kind.Word word.Some) (quantified_at operand part))

abbrev pub formula_from : Reader Expression → Reader Formula → Reader Formula
formula_from operand part =
    either (is_next (kind.Word word.True)) (means (kind.Word word.True) True)
    (either (is_next (kind.Word word.False)) (means (kind.Word word.False) False)
    (either (is_next (kind.Word word.Not)) (not_at part)
    (either (is_next (kind.Symbol symbol.OpenParenthesis)) (after (kind.Symbol symbol.OpenParenthesis) (comparing_at operand))
    (either (is_next (kind.Symbol symbol.OpenBracket)) (after (kind.Symbol symbol.OpenBracket) (connecting_at part))
    (either (is_next (kind.Word word.All)) (every_at operand part)
    (exists_at operand part))))))

-- one that is at most so deep
unfoldable pub formula_at : ℕ → Reader Formula
formula_at zero = too_deep_at begins_formula
formula_at (suc left) = formula_from (expression_at left) (formula_at left)
