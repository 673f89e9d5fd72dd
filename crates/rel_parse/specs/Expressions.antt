-- How expressions are read.
use Rattle.std.specs.Prelude.{ℕ, zero, suc, Bool, ◌&&◌, List, [], ◌∷◌, ◌⊎◌}
use Rattle.std.proofs.Common.{inl, inr}
use Rattle.rel_lang.specs.Syntax.{Word, Expression, Var, Num, Null, Empty, Alloc, Add, Sub, Mul, Field, Single, Union, Meet, Minus, Image, Filter, Old}
use Rattle.rel_lexer.specs.declared.Token.{Token}
use Rattle.rel_lexer.specs.declared.Kind.TheVariants as kind
use Rattle.rel_lexer.specs.declared.keywords.Keyword.TheVariants as word
use Rattle.rel_lexer.specs.declared.symbols.Symbol.TheVariants as symbol
use Rattle.rel_parse.specs.declared.expr.Operator.{Operator}
use Rattle.rel_parse.specs.declared.expr.Operator.TheVariants as operator
use Rattle.rel_parse.specs.declared.expr.Selector.{Selector}
use Rattle.rel_parse.specs.declared.expr.Selector.TheVariants as selector
use Rattle.rel_parse.specs.Reading.{Reader, is_next, is_second, is_name_next, is_number_next, name_at, literal_at, made, both, after, before, either, too_deep_at}
use Rattle.rel_parse.specs.Firsts.{First, AName, ANumber, This, begins_one, means}

-- with these an expression begins
abbrev pub expression_firsts : List First
expression_firsts =
    ANumber ∷ AName ∷ This (kind.Word word.Null) ∷ This (kind.Word word.Empty) ∷ This (kind.Word word.Alloc)
    ∷ This (kind.Symbol symbol.OpenBrace) ∷ This (kind.Word word.Old) ∷ This (kind.Symbol symbol.OpenParenthesis) ∷ []

abbrev pub begins_expression : List Token → Bool
begins_expression = begins_one expression_firsts

-- ---- what stands behind the first operand: an operator with another expression, or a selector with a name

abbrev pub operator_at : Reader Operator
operator_at =
    either (is_next (kind.Symbol symbol.Plus)) (means (kind.Symbol symbol.Plus) operator.Add)
    (either (is_next (kind.Symbol symbol.Minus)) (means (kind.Symbol symbol.Minus) operator.Sub)
    (either (is_next (kind.Word word.Union)) (means (kind.Word word.Union) operator.Union)
    (either (is_next (kind.Word word.Meet)) (means (kind.Word word.Meet) operator.Meet)
    (means (kind.Word word.Minus) operator.Minus))))

abbrev pub selector_firsts : List First
selector_firsts = This (kind.Symbol symbol.Dot) ∷ This (kind.Symbol symbol.At) ∷ This (kind.Word word.Of) ∷ []

abbrev pub selector_at : Reader Selector
selector_at =
    either (is_next (kind.Symbol symbol.Dot)) (means (kind.Symbol symbol.Dot) selector.Field)
    (either (is_next (kind.Symbol symbol.At)) (means (kind.Symbol symbol.At) selector.Image)
    (means (kind.Word word.Of) selector.Filter))

abbrev pub combined : Operator → Expression → Expression → Expression
combined operator.Add a b = Add a b
combined operator.Sub a b = Sub a b
combined operator.Union a b = Union a b
combined operator.Meet a b = Meet a b
combined operator.Minus a b = Minus a b

abbrev pub selected : Selector → Expression → Word → Expression
selected selector.Field a f = Field a f
selected selector.Image a f = Image a f
selected selector.Filter a c = Filter a c

abbrev pub Operation : Type 0
Operation = (Selector × Word) ⊎ (Operator × Expression)

abbrev pub operated : Expression → Operation → Expression
operated a (inl s) = selected s.0 a s.1
operated a (inr o) = combined o.0 a o.1

-- ---- one level of an expression, with the reader of its operands

abbrev pub operation_at : Reader Expression → Reader Operation
operation_at operand = either (begins_one selector_firsts) (made inl (both selector_at name_at)) (made inr (both operator_at operand))

-- a number before `*` is a factor, and no expression
abbrev pub is_factor : List Token → Bool
is_factor ts = is_number_next ts && is_second (kind.Symbol symbol.Star) ts

abbrev pub product_at : Reader Expression → Reader Expression
product_at operand = made (λ p. Mul p.0 p.1) (both literal_at (after (kind.Symbol symbol.Star) operand))

abbrev pub operated_at : Reader Expression → Reader Expression
operated_at operand = made (λ p. operated p.0 p.1) (both operand (operation_at operand))

-- behind the opening parenthesis
abbrev pub parenthesized_at : Reader Expression → Reader Expression
parenthesized_at operand = before (kind.Symbol symbol.CloseParenthesis) (either is_factor (product_at operand) (operated_at operand))

abbrev pub single_at : Reader Expression → Reader Expression
single_at operand = made Single (after (kind.Symbol symbol.OpenBrace) (before (kind.Symbol symbol.CloseBrace) operand))

abbrev pub old_at : Reader Expression → Reader Expression
old_at operand = made Old (after (kind.Word word.Old) (after (kind.Symbol symbol.OpenParenthesis) (before (kind.Symbol symbol.CloseParenthesis) operand)))

abbrev pub expression_from : Reader Expression → Reader Expression
expression_from operand =
    either is_number_next (made Num literal_at)
    (either is_name_next (made Var name_at)
    (either (is_next (kind.Word word.Null)) (means (kind.Word word.Null) Null)
    (either (is_next (kind.Word word.Empty)) (means (kind.Word word.Empty) Empty)
    (either (is_next (kind.Word word.Alloc)) (means (kind.Word word.Alloc) Alloc)
    (either (is_next (kind.Symbol symbol.OpenBrace)) (single_at operand)
    (either (is_next (kind.Word word.Old)) (old_at operand)
    (after (kind.Symbol symbol.OpenParenthesis) (parenthesized_at operand))))))))

-- one that is at most so deep
unfoldable pub expression_at : ℕ → Reader Expression
expression_at zero = too_deep_at begins_expression
expression_at (suc left) = expression_from (expression_at left)
