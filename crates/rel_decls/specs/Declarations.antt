-- How types and declarations are read.
use Rattle.std.specs.Prelude.{ℕ, List}
use Rattle.rel_lang.specs.Syntax.{Ty, Int, Rgn, Class, Decl}
use Rattle.rel_lexer.specs.declared.Kind.{Kind}
use Rattle.rel_lexer.specs.declared.Kind.TheVariants as kind
use Rattle.rel_lexer.specs.declared.keywords.Keyword.TheVariants as word
use Rattle.rel_lexer.specs.declared.symbols.Symbol.TheVariants as symbol
use Rattle.rel_parse.specs.Reading.{Reader, is_next, is_name_next, expect_at, name_at, made, both, after, before, either, many_at, listed_at}

unfoldable pub type_at : Reader Ty
type_at =
    either (is_next (kind.Word word.Int)) (made (λ u. Int) (expect_at (kind.Word word.Int)))
    (either (is_next (kind.Word word.Rgn)) (made (λ u. Rgn) (expect_at (kind.Word word.Rgn))) (made Class name_at))

unfoldable pub decl_at : Reader Decl
decl_at = made (λ p. record { name = p.0; ty = p.1 }) (both name_at (after (kind.Symbol symbol.Colon) type_at))

-- with a semicolon behind it
abbrev pub ended_decl_at : Reader Decl
ended_decl_at = before (kind.Symbol symbol.Semicolon) decl_at

-- the declarations behind the word, as many as it begins
abbrev pub decls_at : Kind → ℕ → Reader (List Decl)
decls_at word most = many_at (is_next word) (after word ended_decl_at) most

abbrev pub fields_at : ℕ → Reader (List Decl)
fields_at most = many_at is_name_next ended_decl_at most

-- between parentheses
abbrev pub params_at : ℕ → Reader (List Decl)
params_at most = after (kind.Symbol symbol.OpenParenthesis) (before (kind.Symbol symbol.CloseParenthesis) (listed_at (kind.Symbol symbol.CloseParenthesis) decl_at most))
