use Rattle.std.proofs.Common.{rules, ◌≡◌, Bool, true, false, refl, sym, ap, ◌∙◌}
use Rattle.std.specs.Prelude.{bytes_eq}
use Rattle.std.proofs.lemmas.Slice.Eq.{bytes_eq-Decides}
use denote.Enum.Bare.{sameb, same_true, true_same}
use Rattle.rel_lexer.specs.contracts.keywords.Keyword as keywords
use Rattle.rel_lexer.specs.contracts.symbols.Symbol as symbols
use Rattle.rel_lexer.specs.declared.keywords.Keyword.{Keyword}
use Rattle.rel_lexer.specs.declared.symbols.Symbol.{Symbol}
use Rattle.rel_lexer.specs.Words.{keyword_text, symbol_text}
use Rattle.rel_lexer.proofs.Spellings.{keyword_one, symbol_one}
use Rattle.rel_parse.proofs.token.same_fixed.Goals as goal

same_if : (a b : Bool) → (a ≡ true → b ≡ true) → (b ≡ true → a ≡ true) → a ≡ b
same_if true b f g = sym (f refl)
same_if false true f g = g refl
same_if false false f g = refl

words_alike : (a b : Keyword) → sameb keywords.the_type a b ≡ bytes_eq (keyword_text a) (keyword_text b)
words_alike a b =
    same_if _ _
    (λ is. (bytes_eq-Decides (keyword_text a) (keyword_text b)).1 (ap keyword_text (same_true keywords.the_type (search rules) a b is)))
    (λ is. true_same keywords.the_type a b (keyword_one a b ((bytes_eq-Decides (keyword_text a) (keyword_text b)).0 is)))

symbols_alike : (a b : Symbol) → sameb symbols.the_type a b ≡ bytes_eq (symbol_text a) (symbol_text b)
symbols_alike a b =
    same_if _ _
    (λ is. (bytes_eq-Decides (symbol_text a) (symbol_text b)).1 (ap symbol_text (same_true symbols.the_type (search rules) a b is)))
    (λ is. true_same symbols.the_type a b (symbol_one a b ((bytes_eq-Decides (symbol_text a) (symbol_text b)).0 is)))

pub returns-in-Word-Word : goal.returns-in-Word-Word
returns-in-Word-Word c = rw (c.in-Word-Word.is-0, c.in-Word-Word.is-1) (c.eq.ensures ∙ words_alike _ _)

pub returns-in-Symbol-Symbol : goal.returns-in-Symbol-Symbol
returns-in-Symbol-Symbol c = rw (c.in-Symbol-Symbol.is-0, c.in-Symbol-Symbol.is-1) (c.eq-in-Symbol-Symbol.ensures ∙ symbols_alike _ _)
