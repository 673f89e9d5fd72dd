-- The code's tokens as the language's definition sees them, and what their kinds say.
use Rattle.std.specs.Prelude.{◌≡◌, ℕ, ◌^◌, ◌<◌, true, List, length, map, take, drop, Err, ℤ, pos, negsuc}
use Rattle.std.specs.Fmt.{decimal}
use Rattle.rel_lang.specs.Tokens.{Token as Piece, lexed, is_name, is_number}
use Rattle.rel_lang.specs.Tokens.LexicalFault.{bad_char, wide_literal}
use Rattle.rel_lexer.specs.declared.Kind.{Kind}
use Rattle.rel_lexer.specs.declared.Kind.TheVariants.{Word, Name, Number, Symbol}
use Rattle.rel_lexer.specs.declared.Token.{Token}
use Rattle.rel_lexer.specs.declared.LexFault.{LexFault}
use Rattle.rel_lexer.specs.declared.LexFault.TheVariants.{BadChar, WideLiteral, Memory}
use Rattle.rel_lexer.specs.Words.{keyword_text, symbol_text}

-- a token's bytes and place
abbrev pub token_of : Token → Piece
token_of t = record { text = t.text.now; at = t.at }

abbrev pub tokens_of : List Token → List Piece
tokens_of ts = map token_of ts

-- the number of a literal, written without a leading zero
abbrev pub IsLiteral : ℤ → List ℕ → Type 0
IsLiteral (pos n) text = (text ≡ decimal n) × (n < 2 ^ 127) × (is_number text ≡ true)
IsLiteral (negsuc n) text = ⊥

-- what the kind of a token says of its text: this reserved word, another name, this number, or this symbol
abbrev pub IsOfKind : Kind → List ℕ → Type 0
IsOfKind (Word k) text = text ≡ keyword_text k
IsOfKind Name text = is_name text ≡ true
IsOfKind (Number n) text = IsLiteral n text
IsOfKind (Symbol s) text = text ≡ symbol_text s

abbrev pub HasKind : Token → Type 0
HasKind t = IsOfKind t.kind t.text.now

-- the token's text stands in the source at its place
abbrev pub IsSlice : List ℕ → Token → Type 0
IsSlice text t = t.text.now ≡ take (length t.text.now) (drop t.at text)

-- a refusal other than for want of memory is the text's first fault
abbrev pub IsFirstFault : List ℕ → LexFault → Type 0
IsFirstFault text (BadChar at) = lexed text ≡ Err (bad_char at)
IsFirstFault text (WideLiteral at) = lexed text ≡ Err (wide_literal at)
IsFirstFault text Memory = Unit {0}
