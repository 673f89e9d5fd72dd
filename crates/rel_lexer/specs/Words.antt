-- The reserved words and the symbols, each with its text.
use Rattle.std.specs.Prelude.{ℕ, ◌==◌, Bool, false, List, [], ◌∷◌, Option, codes, nat_eq, bytes_eq, find, filter}
use Rattle.std.specs.List.{starts_with}
use Rattle.rel_lang.specs.Syntax.{Word}
use Rattle.rel_lexer.specs.declared.keywords.Keyword.{Keyword}
use Rattle.rel_lexer.specs.declared.keywords.Keyword.TheVariants as word
use Rattle.rel_lexer.specs.declared.symbols.Symbol.{Symbol}
use Rattle.rel_lexer.specs.declared.symbols.Symbol.TheVariants as symbol

abbrev pub keyword_text : Keyword → Word
keyword_text word.Agree = codes "agree"
keyword_text word.Align = codes "align"
keyword_text word.All = codes "all"
keyword_text word.Alloc = codes "alloc"
keyword_text word.And = codes "and"
keyword_text word.At = codes "at"
keyword_text word.Bi = codes "bi"
keyword_text word.Both = codes "both"
keyword_text word.Boundary = codes "boundary"
keyword_text word.Call = codes "call"
keyword_text word.Class = codes "class"
keyword_text word.Client = codes "client"
keyword_text word.Coupling = codes "coupling"
keyword_text word.Drop = codes "drop"
keyword_text word.Else = codes "else"
keyword_text word.Empty = codes "empty"
keyword_text word.Ensures = codes "ensures"
keyword_text word.Eventually = codes "eventually"
keyword_text word.False = codes "false"
keyword_text word.Global = codes "global"
keyword_text word.If = codes "if"
keyword_text word.Implies = codes "implies"
keyword_text word.In = codes "in"
keyword_text word.Init = codes "init"
keyword_text word.Interface = codes "interface"
keyword_text word.Int = codes "int"
keyword_text word.Inv = codes "inv"
keyword_text word.Invariant = codes "invariant"
keyword_text word.Judge = codes "judge"
keyword_text word.Left = codes "left"
keyword_text word.Link = codes "link"
keyword_text word.Meet = codes "meet"
keyword_text word.Method = codes "method"
keyword_text word.Minus = codes "minus"
keyword_text word.Module = codes "module"
keyword_text word.New = codes "new"
keyword_text word.Not = codes "not"
keyword_text word.Note = codes "note"
keyword_text word.Null = codes "null"
keyword_text word.Of = codes "of"
keyword_text word.Old = codes "old"
keyword_text word.Or = codes "or"
keyword_text word.Pair = codes "pair"
keyword_text word.Proc = codes "proc"
keyword_text word.Rel = codes "rel"
keyword_text word.Requires = codes "requires"
keyword_text word.Rgn = codes "rgn"
keyword_text word.Right = codes "right"
keyword_text word.Seq = codes "seq"
keyword_text word.Skip = codes "skip"
keyword_text word.Some = codes "some"
keyword_text word.Split = codes "split"
keyword_text word.Sub = codes "sub"
keyword_text word.Sync = codes "sync"
keyword_text word.True = codes "true"
keyword_text word.Union = codes "union"
keyword_text word.Unit = codes "unit"
keyword_text word.Using = codes "using"
keyword_text word.Var = codes "var"
keyword_text word.Weave = codes "weave"
keyword_text word.While = codes "while"
keyword_text word.Writes = codes "writes"

unfoldable pub keywords : List Keyword
keywords =
    word.Agree ∷ word.Align ∷ word.All ∷ word.Alloc ∷ word.And ∷ word.At ∷ word.Bi ∷ word.Both ∷ word.Boundary ∷ word.Call ∷ word.Class ∷
    word.Client ∷ word.Coupling ∷ word.Drop ∷ word.Else ∷ word.Empty ∷ word.Ensures ∷ word.Eventually ∷ word.False ∷ word.Global ∷ word.If ∷
    word.Implies ∷ word.In ∷ word.Init ∷ word.Interface ∷ word.Int ∷ word.Inv ∷ word.Invariant ∷ word.Judge ∷ word.Left ∷ word.Link ∷ word.Meet ∷
    word.Method ∷ word.Minus ∷ word.Module ∷ word.New ∷ word.Not ∷ word.Note ∷ word.Null ∷ word.Of ∷ word.Old ∷ word.Or ∷ word.Pair ∷ word.Proc ∷
    word.Rel ∷ word.Requires ∷ word.Rgn ∷ word.Right ∷ word.Seq ∷ word.Skip ∷ word.Some ∷ word.Split ∷ word.Sub ∷ word.Sync ∷ word.True ∷
    word.Union ∷ word.Unit ∷ word.Using ∷ word.Var ∷ word.Weave ∷ word.While ∷ word.Writes ∷ []

-- the reserved word that is spelled so
abbrev pub keyword_of : Word → Option Keyword
keyword_of w = find (λ k. bytes_eq w (keyword_text k)) keywords

abbrev pub begins_with : ℕ → Word → Bool
begins_with c [] = false
begins_with c (b ∷ bs) = b == c

abbrev pub keywords_with : ℕ → List Keyword
keywords_with c = filter (λ k. begins_with c (keyword_text k)) keywords

abbrev pub symbol_text : Symbol → Word
symbol_text symbol.EqualColonEqual = codes "=:="
symbol_text symbol.ColonEqual = codes ":="
symbol_text symbol.LessEqual = codes "<="
symbol_text symbol.OpenParenthesis = codes "("
symbol_text symbol.CloseParenthesis = codes ")"
symbol_text symbol.OpenBracket = codes "["
symbol_text symbol.CloseBracket = codes "]"
symbol_text symbol.OpenBrace = codes "{"
symbol_text symbol.CloseBrace = codes "}"
symbol_text symbol.Semicolon = codes ";"
symbol_text symbol.Colon = codes ":"
symbol_text symbol.Comma = codes ","
symbol_text symbol.Dot = codes "."
symbol_text symbol.Tilde = codes "~"
symbol_text symbol.Bar = codes "|"
symbol_text symbol.Plus = codes "+"
symbol_text symbol.Minus = codes "-"
symbol_text symbol.Star = codes "*"
symbol_text symbol.Equal = codes "="
symbol_text symbol.Less = codes "<"
symbol_text symbol.At = codes "@"

-- a longer one before each that begins it
unfoldable pub symbols : List Symbol
symbols =
    symbol.EqualColonEqual ∷ symbol.ColonEqual ∷ symbol.LessEqual ∷ symbol.OpenParenthesis ∷ symbol.CloseParenthesis ∷ symbol.OpenBracket ∷
    symbol.CloseBracket ∷ symbol.OpenBrace ∷ symbol.CloseBrace ∷ symbol.Semicolon ∷ symbol.Colon ∷ symbol.Comma ∷ symbol.Dot ∷ symbol.Tilde ∷
    symbol.Bar ∷ symbol.Plus ∷ symbol.Minus ∷ symbol.Star ∷ symbol.Equal ∷ symbol.Less ∷ symbol.At ∷ []

-- the symbol that is spelled so
abbrev pub symbol_of : Word → Option Symbol
symbol_of w = find (λ s. bytes_eq w (symbol_text s)) symbols

-- the first symbol that begins the characters
abbrev pub symbol_at : List ℕ → Option Symbol
symbol_at cs = find (λ s. starts_with nat_eq cs (symbol_text s)) symbols
