-- How relation formulas are read.
use Rattle.std.specs.Prelude.{ℕ, zero, suc, Bool, List, [], ◌∷◌, ◌++◌}
use Rattle.rel_lang.specs.Syntax.{Word, Expression, Formula, Side, Left, Right, RelFormula, RelTrue, RelFalse, OnLeft, OnRight, Both, Agree, AgreeImage, RelNot, RelAnd, RelOr, RelImplies, RelEvery, RelExists, Eventually}
use Rattle.rel_lexer.specs.declared.Token.{Token}
use Rattle.rel_lexer.specs.declared.Kind.TheVariants as kind
use Rattle.rel_lexer.specs.declared.keywords.Keyword.TheVariants as word
use Rattle.rel_lexer.specs.declared.symbols.Symbol.TheVariants as symbol
use Rattle.rel_parse.specs.declared.formula.Connective.{Connective}
use Rattle.rel_parse.specs.declared.formula.Connective.TheVariants as connective
use Rattle.rel_parse.specs.Reading.{Reader, is_next, name_at, made, both, after, before, either, too_deep_at}
use Rattle.rel_parse.specs.Firsts.{First, This, begins_one, means}
use Rattle.rel_parse.specs.Expressions.{expression_at}
use Rattle.rel_parse.specs.Formulas.{formula_at, connection_at, quantified_at}

-- with these a relation formula begins: first those of which no part is one
abbrev pub plain_firsts : List First
plain_firsts =
    This (kind.Word word.True) ∷ This (kind.Word word.False) ∷ This (kind.Word word.Left) ∷ This (kind.Word word.Right) ∷ This (kind.Word word.Both)
    ∷ This (kind.Symbol symbol.OpenParenthesis) ∷ This (kind.Word word.Agree) ∷ []

abbrev pub rel_firsts : List First
rel_firsts =
    plain_firsts ++ This (kind.Word word.Not) ∷ This (kind.Symbol symbol.OpenBracket) ∷ This (kind.Word word.All) ∷ This (kind.Word word.Some)
    ∷ This (kind.Word word.Eventually) ∷ []

abbrev pub begins_rel : List Token → Bool
begins_rel = begins_one rel_firsts

-- ---- those of which no part is one, with the readers of their expressions and formulas

abbrev pub on_left_at : Reader Formula → Reader RelFormula
on_left_at formula = made OnLeft (after (kind.Word word.Left) formula)

abbrev pub on_right_at : Reader Formula → Reader RelFormula
on_right_at formula = made OnRight (after (kind.Word word.Right) formula)

abbrev pub on_both_at : Reader Formula → Reader RelFormula
on_both_at formula = made Both (after (kind.Word word.Both) formula)

abbrev pub agree_at : Reader Expression → Reader RelFormula
agree_at operand =
    made (λ p. Agree p.0 p.1) (after (kind.Symbol symbol.OpenParenthesis) (before (kind.Symbol symbol.CloseParenthesis)
    (both operand (after (kind.Symbol symbol.EqualColonEqual) operand))))

abbrev pub agree_image_at : Reader Expression → Reader RelFormula
agree_image_at operand = made (λ p. AgreeImage p.0 p.1) (after (kind.Word word.Agree) (both operand (after (kind.Symbol symbol.At) name_at)))

abbrev pub plain_at : Reader Expression → Reader Formula → Reader RelFormula
plain_at operand formula =
    either (is_next (kind.Word word.True)) (means (kind.Word word.True) RelTrue)
    (either (is_next (kind.Word word.False)) (means (kind.Word word.False) RelFalse)
    (either (is_next (kind.Word word.Left)) (on_left_at formula)
    (either (is_next (kind.Word word.Right)) (on_right_at formula)
    (either (is_next (kind.Word word.Both)) (on_both_at formula)
    (either (is_next (kind.Symbol symbol.OpenParenthesis)) (agree_at operand)
    (agree_image_at operand))))))

-- ---- the others, with the readers of their expressions and of their parts

abbrev pub rel_connected : Connective → RelFormula → RelFormula → RelFormula
rel_connected connective.And r s = RelAnd r s
rel_connected connective.Or r s = RelOr r s
rel_connected connective.Implies r s = RelImplies r s

abbrev pub side_at : Reader Side
side_at = either (is_next (kind.Word word.Left)) (means (kind.Word word.Left) Left) (means (kind.Word word.Right) Right)

abbrev pub rel_not_at : Reader RelFormula → Reader RelFormula
rel_not_at part = made RelNot (after (kind.Word word.Not) part)

-- behind the opening bracket
abbrev pub rel_connecting_at : Reader RelFormula → Reader RelFormula
rel_connecting_at part = made (λ p. rel_connected p.1.0 p.0 p.1.1) (connection_at part)

-- what follows the quantifier
abbrev pub sided_at : Reader Expression → Reader RelFormula → Reader (Side × ((Word × Word) × (Expression × RelFormula)))
sided_at operand part = both side_at (quantified_at operand part)

abbrev pub rel_every_at : Reader Expression → Reader RelFormula → Reader RelFormula
rel_every_at operand part = made (λ q. RelEvery q.0 q.1.0.0 q.1.0.1 q.1.1.0 q.1.1.1) (after (kind.Word word.All) (sided_at operand part))

abbrev pub rel_exists_at : Reader Expression → Reader RelFormula → Reader RelFormula
rel_exists_at operand part = made (λ q. RelExists q.0 q.1.0.0 q.1.0.1 q.1.1.0 q.1.1.1) (after (kind.Word word.Some) (sided_at operand part))

abbrev pub eventually_at : Reader RelFormula → Reader RelFormula
eventually_at part = made Eventually (after (kind.Word word.Eventually) part)

abbrev pub rel_from : Reader Expression → Reader Formula → Reader RelFormula → Reader RelFormula
rel_from operand formula part =
    either (begins_one plain_firsts) (plain_at operand formula)
    (either (is_next (kind.Word word.Not)) (rel_not_at part)
    (either (is_next (kind.Symbol symbol.OpenBracket)) (after (kind.Symbol symbol.OpenBracket) (rel_connecting_at part))
    (either (is_next (kind.Word word.All)) (rel_every_at operand part)
    (either (is_next (kind.Word word.Some)) (rel_exists_at operand part)
    (eventually_at part)))))

-- one that is at most so deep
unfoldable pub rel_at : ℕ → Reader RelFormula
rel_at zero = too_deep_at begins_rel
rel_at (suc left) = rel_from (expression_at left) (formula_at left) (rel_at left)
