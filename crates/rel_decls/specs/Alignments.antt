-- How weavings and alignments are read.
use Rattle.std.specs.Prelude.{ℕ, Bool, ◌||◌, List, [], ◌∷◌}
use Rattle.rel_lang.specs.Syntax.{Act, ActSeq, ActSync, ActCall, ActIf, ActWhile, ActLink, ActNote, ActDrop, WeaveStep, Align, Given, Woven}
use Rattle.rel_lang.specs.Refusal.{Limits}
use Rattle.rel_lexer.specs.declared.Token.{Token}
use Rattle.rel_lexer.specs.declared.Kind.TheVariants as kind
use Rattle.rel_lexer.specs.declared.keywords.Keyword.TheVariants as word
use Rattle.rel_lexer.specs.declared.symbols.Symbol.TheVariants as symbol
use Rattle.rel_parse.specs.Reading.{Reader, then_read, with_front, is_next, is_number_next, expect_at, name_at, count_at, made, both, after, before, placed, either, many_at}
use Rattle.rel_parse.specs.Relations.{rel_at}
use Rattle.rel_parse.specs.Biprograms.{sides_at, biblock_at}

abbrev pub seq_act_at : Reader Act
seq_act_at = made (λ p. ActSeq p.0 p.1) (after (kind.Word word.Seq) (both count_at count_at))

abbrev pub while_act_at : Limits → Reader Act
while_act_at l = made (λ p. ActWhile p.0 p.1.0 p.1.1) (after (kind.Word word.While) (sides_at (rel_at l.deepest) (sides_at (rel_at l.deepest) (rel_at l.deepest))))

-- with a name or a formula
unfoldable pub named_act_at : Limits → Reader Act
named_act_at l =
    either (is_next (kind.Word word.Call)) (made ActCall (after (kind.Word word.Call) name_at))
    (either (is_next (kind.Word word.Link)) (made (λ p. ActLink p.0 p.1) (after (kind.Word word.Link) (sides_at name_at name_at)))
    (made ActNote (after (kind.Word word.Note) (rel_at l.deepest))))

abbrev pub is_named_act_next : List Token → Bool
is_named_act_next ts = is_next (kind.Word word.Call) ts || (is_next (kind.Word word.Link) ts || is_next (kind.Word word.Note) ts)

-- of one word
unfoldable pub word_act_at : Reader Act
word_act_at =
    either (is_next (kind.Word word.Sync)) (made (λ u. ActSync) (expect_at (kind.Word word.Sync)))
    (either (is_next (kind.Word word.If)) (made (λ u. ActIf) (expect_at (kind.Word word.If)))
    (made (λ u. ActDrop) (expect_at (kind.Word word.Drop))))

unfoldable pub act_at : Limits → Reader Act
act_at l =
    either (is_next (kind.Word word.Seq)) seq_act_at
    (either (is_next (kind.Word word.While)) (while_act_at l)
    (either is_named_act_next (named_act_at l) word_act_at))

abbrev pub counts_at : Limits → Reader (List ℕ)
counts_at l = many_at is_number_next count_at l.most

-- one at least
unfoldable pub numbers_at : Limits → Reader (List ℕ)
numbers_at l ts = then_read (count_at ts) (λ n rest. with_front (n ∷ []) (counts_at l rest))

unfoldable pub step_at : Limits → Reader WeaveStep
step_at l = made (λ p. record { at = p.0; place = p.1.0; act = p.1.1 }) (placed (after (kind.Word word.At) (both (numbers_at l) (act_at l))))

-- with a semicolon behind it
abbrev pub ended_step_at : Limits → Reader WeaveStep
ended_step_at l = before (kind.Symbol symbol.Semicolon) (step_at l)

-- between braces
unfoldable pub steps_at : Limits → Reader (List WeaveStep)
steps_at l =
    after (kind.Symbol symbol.OpenBrace)
    (before (kind.Symbol symbol.CloseBrace) (many_at (is_next (kind.Word word.At)) (ended_step_at l) l.most))

unfoldable pub align_at : Limits → Reader Align
align_at l =
    either (is_next (kind.Word word.Bi)) (made Given (after (kind.Word word.Bi) (biblock_at l.most l.deepest)))
    (made Woven (after (kind.Word word.Weave) (steps_at l)))
