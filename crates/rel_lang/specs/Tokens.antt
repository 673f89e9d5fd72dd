-- The tokens of a text.
use Rattle.std.specs.Prelude.{ℕ, ◌+◌, ◌-◌, ◌^◌, ◌==◌, ◌&&◌, ◌||◌, nat_le, Bool, false, not, if◌then◌else◌, List, [], ◌∷◌, length, take, Option, Result, Ok, Err, codes, encode_utf8, nat_eq, take_while, bytes_eq}
use Rattle.std.specs.List.{list_any, list_all, starts_with}
use Rattle.std.specs.Result.{result_ok}
use Rattle.std.specs.Str.{encode_utf8_all, chars}
use Rattle.std.specs.Str.Parse.{digits_value}
use Rattle.unicode_ident.specs.Ident.{is_xid_start, is_xid_continue}
use Rattle.rel_lang.specs.Syntax.{Word}

-- its bytes, and the byte where it begins
pub record Token : Type 0 where
  pub text : Word
  pub at : ℕ

-- ---- characters

-- space, tab, carriage return and line feed
abbrev pub is_blank : ℕ → Bool
is_blank c = (c == 32) || (c == 9) || (c == 13) || (c == 10)

abbrev pub is_line_feed : ℕ → Bool
is_line_feed c = c == 10

abbrev pub slash : ℕ
slash = 47

abbrev pub is_digit : ℕ → Bool
is_digit c = nat_le 48 c && nat_le c 57

-- a name begins with a start character or `_`, and goes on with continue characters
abbrev pub begins_name : ℕ → Bool
begins_name c = is_xid_start c || (c == 95)

abbrev pub continues_name : ℕ → Bool
continues_name c = is_xid_continue c

-- the greatest literal is one less
abbrev pub literal_limit : ℕ
literal_limit = 2 ^ 127

-- the symbols, a longer one before each that begins it
abbrev pub symbols : List Word
symbols =
    codes "=:=" ∷ codes ":=" ∷ codes "<=" ∷ codes "(" ∷ codes ")" ∷ codes "[" ∷ codes "]" ∷ codes "{" ∷ codes "}" ∷ codes ";" ∷ codes ":" ∷ codes "," ∷ codes "."
    ∷ codes "~" ∷ codes "|" ∷ codes "+" ∷ codes "-" ∷ codes "*" ∷ codes "=" ∷ codes "<" ∷ codes "@" ∷ []

-- ---- pieces

-- what begins at a character: so many characters that only separate, so many of a token, a character so many on that begins nothing, or a number that no literal may have
pub data Piece : Type 0 where
  gap : ℕ → Piece
  token : ℕ → Piece
  bad : ℕ → Piece
  wide : Piece

-- how many of the first characters pass
abbrev pub run_len : (ℕ → Bool) → List ℕ → ℕ
run_len p cs = length (take_while p cs)

-- a comment goes from `//` to the line feed or the end of the text
abbrev pub comment_piece : List ℕ → Piece
comment_piece [] = bad 0
comment_piece (c ∷ cs) = if c == slash then gap (2 + run_len (λ d. not (is_line_feed d)) cs) else bad 0

-- no digit follows a `0` that begins a number, and a number is below the limit
abbrev pub number_piece : List ℕ → Piece
number_piece cs =
    let n = run_len is_digit cs in
    if starts_with nat_eq cs (codes "0") && not (n == 1) then bad 1
    else if nat_le literal_limit (digits_value 10 (take n cs)) then wide
    else token n

-- the first symbol of the list that begins the characters
abbrev pub symbol_piece : List Word → List ℕ → Piece
symbol_piece [] cs = bad 0
symbol_piece (s ∷ ss) cs = if starts_with nat_eq cs s then token (length s) else symbol_piece ss cs

abbrev pub piece_at : List ℕ → Piece
piece_at [] = bad 0
piece_at (c ∷ cs) =
    if is_blank c then gap 1
    else if c == slash then comment_piece cs
    else if begins_name c then token (1 + run_len continues_name cs)
    else if is_digit c then number_piece (c ∷ cs)
    else symbol_piece symbols (c ∷ cs)

-- ---- tokens

-- why a text has no tokens, and the byte: a character that begins nothing, or the first byte of a number that is too great
pub data LexicalFault : Type 0 where
  bad_char : ℕ → LexicalFault
  wide_literal : ℕ → LexicalFault

abbrev pub after_token : Token → Result (List Token) LexicalFault → Result (List Token) LexicalFault
after_token t (Ok ts) = Ok (t ∷ ts)
after_token t (Err f) = Err f

-- What a piece at the byte `at` gives, and what comes behind it. Only a `0`, which is one byte, comes before a bad character.
abbrev pub with_piece : Piece → ℕ → List ℕ → (ℕ → Result (List Token) LexicalFault) → Result (List Token) LexicalFault
with_piece (gap n) at cs rest = rest n
with_piece (token n) at cs rest = after_token (record { text = encode_utf8_all (take n cs); at = at }) (rest n)
with_piece (bad n) at cs rest = Err (bad_char (at + n))
with_piece wide at cs rest = Err (wide_literal at)

-- The tokens from here on or the first fault, where the first `passed` characters belong to the piece before. The first character stands at the byte `at`.
unfoldable pub lexed_from : ℕ → ℕ → List ℕ → Result (List Token) LexicalFault
lexed_from passed at [] = Ok []
lexed_from passed at (c ∷ cs) =
    if passed == 0 then with_piece (piece_at (c ∷ cs)) at (c ∷ cs) (λ n. lexed_from (n - 1) (at + length (encode_utf8 c)) cs)
    else lexed_from (passed - 1) (at + length (encode_utf8 c)) cs

-- what a text in UTF-8 is cut into: its tokens, where each of its characters belongs to one or separates them, or its first fault
abbrev pub lexed : List ℕ → Result (List Token) LexicalFault
lexed text = lexed_from 0 0 (chars text)

abbrev pub tokens : List ℕ → Option (List Token)
tokens text = result_ok (lexed text)

-- ---- kinds of tokens, by their texts

abbrev pub reserved : List Word
reserved =
    codes "agree" ∷ codes "align" ∷ codes "all" ∷ codes "alloc" ∷ codes "and" ∷ codes "at" ∷ codes "bi" ∷ codes "both" ∷ codes "boundary" ∷ codes "call" ∷ codes "class"
    ∷ codes "client" ∷ codes "coupling" ∷ codes "drop" ∷ codes "else" ∷ codes "empty" ∷ codes "ensures" ∷ codes "eventually" ∷ codes "false" ∷ codes "global" ∷ codes "if"
    ∷ codes "implies" ∷ codes "in" ∷ codes "init" ∷ codes "interface" ∷ codes "int" ∷ codes "inv" ∷ codes "invariant" ∷ codes "judge" ∷ codes "left" ∷ codes "link"
    ∷ codes "meet" ∷ codes "method" ∷ codes "minus" ∷ codes "module" ∷ codes "new" ∷ codes "not" ∷ codes "note" ∷ codes "null" ∷ codes "of" ∷ codes "old" ∷ codes "or"
    ∷ codes "pair" ∷ codes "proc" ∷ codes "rel" ∷ codes "requires" ∷ codes "rgn" ∷ codes "right" ∷ codes "seq" ∷ codes "skip" ∷ codes "some" ∷ codes "split" ∷ codes "sub"
    ∷ codes "sync" ∷ codes "true" ∷ codes "union" ∷ codes "unit" ∷ codes "using" ∷ codes "var" ∷ codes "weave" ∷ codes "while" ∷ codes "writes" ∷ []

abbrev pub is_reserved : Word → Bool
is_reserved w = list_any (λ r. bytes_eq w r) reserved

abbrev pub has_name_form : List ℕ → Bool
has_name_form [] = false
has_name_form (c ∷ cs) = begins_name c && list_all continues_name cs

-- a name that isn't a reserved word
abbrev pub is_name : Word → Bool
is_name w = has_name_form (chars w) && not (is_reserved w)

abbrev pub is_number : Word → Bool
is_number [] = false
is_number (b ∷ bs) = is_digit b
