-- How biprograms are read: at most so many in a row (`most`), and so many deep (`left`).
use Rattle.std.specs.Prelude.{ℕ, zero, suc, Bool, true, false, if◌then◌else◌, List, [], ◌∷◌}
use Rattle.rel_lang.specs.Syntax.{Word, Formula, RelFormula, Command, At, Call, BiLoop, BiCommand, BiAt, BiForm, Split, Sync, SyncCall, BiIf, BiWhile, Link, Note, BiBlock}
use Rattle.rel_lang.specs.View.{biblock_from}
use Rattle.rel_lexer.specs.declared.Token.{Token}
use Rattle.rel_lexer.specs.declared.Kind.TheVariants as kind
use Rattle.rel_lexer.specs.declared.keywords.Keyword.TheVariants as word
use Rattle.rel_lexer.specs.declared.symbols.Symbol.TheVariants as symbol
use Rattle.rel_parse.specs.Reading.{Reader, Got, then_read, is_next, name_at, made, both, after, before, placed, either, too_deep_at, many_at}
use Rattle.rel_parse.specs.Firsts.{First, This, begins_one}
use Rattle.rel_parse.specs.Expressions.{expression_at}
use Rattle.rel_parse.specs.Formulas.{formula_at}
use Rattle.rel_parse.specs.Relations.{rel_at}
use Rattle.rel_parse.specs.Commands.{atom_at, begins_atom, branches_at, block_at}

-- the left one and the right one, with a bar between them
abbrev pub sides_at : {A B : Type 0} → Reader A → Reader B → Reader (A × B)
sides_at a b = both a (after (kind.Symbol symbol.Bar) b)

-- ---- atoms on both sides

unfoldable pub atom_command_at : ℕ → ℕ → Reader Command
atom_command_at most zero = too_deep_at begins_atom
atom_command_at most (suc left) = made (λ q. At q.0 q.1) (placed (atom_at most (expression_at left)))

abbrev pub is_call : Command → Bool
is_call (At at (Call x p es)) = true
is_call c = false

-- behind the command: a call has a judgement
abbrev pub used_at : Command → Reader BiForm
used_at c ts = if is_call c then made (SyncCall c) (after (kind.Word word.Using) name_at) ts else Got (Sync c) ts

-- behind the word `sync`
abbrev pub sync_at : ℕ → ℕ → Reader BiForm
sync_at most left ts = then_read (atom_command_at most left ts) used_at

-- ---- bicommands

-- one that holds no bicommands
abbrev pub plain_at : ℕ → ℕ → Reader BiForm
plain_at most left =
    either (is_next (kind.Word word.Split)) (made (λ p. Split p.0 p.1) (after (kind.Word word.Split) (both (block_at most left) (block_at most left))))
    (either (is_next (kind.Word word.Sync)) (after (kind.Word word.Sync) (sync_at most left))
    (either (is_next (kind.Word word.Link)) (made (λ p. Link p.0 p.1) (after (kind.Word word.Link) (sides_at name_at name_at)))
    (made Note (after (kind.Word word.Note) (rel_at left)))))

abbrev pub loop_from : (Formula × Formula) × ((Formula × Formula) × (RelFormula × (RelFormula × RelFormula))) → BiLoop
loop_from q = record { tests = q.0; invs = q.1.0; rel = q.1.1.0; guards = q.1.1.1 }

-- behind the word `while`, up to the body
abbrev pub biloop_at : Reader Formula → Reader RelFormula → Reader BiLoop
biloop_at p r = made loop_from (both (sides_at p p) (after (kind.Word word.Inv) (both (sides_at p p) (after (kind.Word word.Rel) (both r (after (kind.Word word.Align) (sides_at r r)))))))

abbrev pub biform_at : ℕ → ℕ → Reader BiBlock → Reader BiForm
biform_at most left b =
    either (is_next (kind.Word word.If)) (made (λ q. BiIf q.0.0 q.0.1 q.1.0 q.1.1) (after (kind.Word word.If) (branches_at (sides_at (formula_at left) (formula_at left)) b)))
    (either (is_next (kind.Word word.While)) (made (λ q. BiWhile q.0 q.1) (after (kind.Word word.While) (both (biloop_at (formula_at left) (rel_at left)) b)))
    (plain_at most left))

-- with these a bicommand begins
abbrev pub bicommand_firsts : List First
bicommand_firsts =
    This (kind.Word word.Split) ∷ This (kind.Word word.Sync) ∷ This (kind.Word word.Link) ∷ This (kind.Word word.Note)
    ∷ This (kind.Word word.If) ∷ This (kind.Word word.While) ∷ []

abbrev pub begins_bicommand : List Token → Bool
begins_bicommand = begins_one bicommand_firsts

-- each with its semicolon
abbrev pub many_bicommands_at : ℕ → Reader BiCommand → Reader (List BiCommand)
many_bicommands_at most c = many_at begins_bicommand (before (kind.Symbol symbol.Semicolon) c) most

abbrev pub bicommands_by : ℕ → Reader BiCommand → Reader BiBlock
bicommands_by most c = made biblock_from (many_bicommands_at most c)

abbrev pub biblock_by : ℕ → Reader BiCommand → Reader BiBlock
biblock_by most c = after (kind.Symbol symbol.OpenBrace) (before (kind.Symbol symbol.CloseBrace) (bicommands_by most c))

-- without its semicolon
unfoldable pub bicommand_at : ℕ → ℕ → Reader BiCommand
bicommand_at most zero = too_deep_at begins_bicommand
bicommand_at most (suc left) = made (λ q. BiAt q.0 q.1) (placed (biform_at most left (biblock_by most (bicommand_at most left))))

abbrev pub ended_bicommand_at : ℕ → ℕ → Reader BiCommand
ended_bicommand_at most left = before (kind.Symbol symbol.Semicolon) (bicommand_at most left)

-- as many as begin a bicommand
abbrev pub bicommands_at : ℕ → ℕ → Reader BiBlock
bicommands_at most left = bicommands_by most (bicommand_at most left)

abbrev pub biblock_at : ℕ → ℕ → Reader BiBlock
biblock_at most left = biblock_by most (bicommand_at most left)
