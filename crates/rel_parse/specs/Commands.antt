-- How commands are read: at most so many in a row (`most`), and so many deep (`left`).
use Rattle.std.specs.Prelude.{ℕ, zero, suc, Bool, ◌&&◌, List, [], ◌∷◌}
use Rattle.rel_lang.specs.Syntax.{Word, Expression, Formula, Command, At, Form, Skip, Assign, Load, Store, New, Call, If, While, Block}
use Rattle.rel_lang.specs.View.{block_from}
use Rattle.rel_lexer.specs.declared.Token.{Token}
use Rattle.rel_lexer.specs.declared.Kind.TheVariants as kind
use Rattle.rel_lexer.specs.declared.keywords.Keyword.TheVariants as word
use Rattle.rel_lexer.specs.declared.symbols.Symbol.TheVariants as symbol
use Rattle.rel_parse.specs.Reading.{Reader, then_read, is_next, is_second, is_name_next, expect_at, name_at, made, both, after, before, placed, either, too_deep_at, many_at, listed_at}
use Rattle.rel_parse.specs.Firsts.{First, AName, This, begins_one}
use Rattle.rel_parse.specs.Expressions.{expression_at}
use Rattle.rel_parse.specs.Formulas.{formula_at}

-- ---- atoms

-- behind the word `call`: the procedure and the arguments
abbrev pub call_at : ℕ → Reader Expression → Reader (Word × List Expression)
call_at most e = both name_at (after (kind.Symbol symbol.OpenParenthesis) (before (kind.Symbol symbol.CloseParenthesis) (listed_at (kind.Symbol symbol.CloseParenthesis) e most)))

-- a reference and its field
abbrev pub is_field_next : List Token → Bool
is_field_next ts = is_name_next ts && is_second (kind.Symbol symbol.Dot) ts

abbrev pub field_at : Reader (Word × Word)
field_at = both name_at (after (kind.Symbol symbol.Dot) name_at)

-- behind `x :=`
abbrev pub value_at : ℕ → Reader Expression → Word → Reader Form
value_at most e x =
    either (is_next (kind.Word word.New)) (made (New x) (after (kind.Word word.New) name_at))
    (either (is_next (kind.Word word.Call)) (made (λ p. Call x p.0 p.1) (after (kind.Word word.Call) (call_at most e)))
    (either is_field_next (made (λ p. Load x p.0 p.1) field_at) (made (Assign x) e)))

-- behind `y` and a dot
abbrev pub stored_at : Reader Expression → Reader (Word × Expression)
stored_at e = both name_at (after (kind.Symbol symbol.ColonEqual) e)

-- behind the name
abbrev pub named_at : ℕ → Reader Expression → Word → Reader Form
named_at most e x =
    either (is_next (kind.Symbol symbol.Dot)) (made (λ p. Store x p.0 p.1) (after (kind.Symbol symbol.Dot) (stored_at e)))
    (after (kind.Symbol symbol.ColonEqual) (value_at most e x))

abbrev pub atom_at : ℕ → Reader Expression → Reader Form
atom_at most e = either (is_next (kind.Word word.Skip)) (made (λ u. Skip) (expect_at (kind.Word word.Skip))) (λ ts. then_read (name_at ts) (named_at most e))

-- ---- commands

-- behind the word `if`: the test and the two blocks
abbrev pub branches_at : {P B : Type 0} → Reader P → Reader B → Reader (P × (B × B))
branches_at p b = both p (both b (after (kind.Word word.Else) b))

-- behind the word `while`: the test, the invariant and the body
abbrev pub loop_at : Reader Formula → Reader Block → Reader (Formula × (Formula × Block))
loop_at p b = both p (after (kind.Word word.Inv) (both p b))

abbrev pub form_at : ℕ → Reader Expression → Reader Formula → Reader Block → Reader Form
form_at most e p b =
    either (is_next (kind.Word word.If)) (made (λ q. If q.0 q.1.0 q.1.1) (after (kind.Word word.If) (branches_at p b)))
    (either (is_next (kind.Word word.While)) (made (λ q. While q.0 q.1.0 q.1.1) (after (kind.Word word.While) (loop_at p b))) (atom_at most e))

-- with these an atom begins
abbrev pub atom_firsts : List First
atom_firsts = AName ∷ This (kind.Word word.Skip) ∷ []

abbrev pub begins_atom : List Token → Bool
begins_atom = begins_one atom_firsts

-- with these a command
abbrev pub command_firsts : List First
command_firsts = AName ∷ This (kind.Word word.Skip) ∷ This (kind.Word word.If) ∷ This (kind.Word word.While) ∷ []

abbrev pub begins_command : List Token → Bool
begins_command = begins_one command_firsts

-- each with its semicolon
abbrev pub many_commands_at : ℕ → Reader Command → Reader (List Command)
many_commands_at most c = many_at begins_command (before (kind.Symbol symbol.Semicolon) c) most

abbrev pub commands_by : ℕ → Reader Command → Reader Block
commands_by most c = made block_from (many_commands_at most c)

abbrev pub block_by : ℕ → Reader Command → Reader Block
block_by most c = after (kind.Symbol symbol.OpenBrace) (before (kind.Symbol symbol.CloseBrace) (commands_by most c))

-- without its semicolon
unfoldable pub command_at : ℕ → ℕ → Reader Command
command_at most zero = too_deep_at begins_command
command_at most (suc left) = made (λ q. At q.0 q.1) (placed (form_at most (expression_at left) (formula_at left) (block_by most (command_at most left))))

abbrev pub ended_command_at : ℕ → ℕ → Reader Command
ended_command_at most left = before (kind.Symbol symbol.Semicolon) (command_at most left)

-- as many as begin a command
abbrev pub commands_at : ℕ → ℕ → Reader Block
commands_at most left = commands_by most (command_at most left)

abbrev pub block_at : ℕ → ℕ → Reader Block
block_at most left = block_by most (command_at most left)
