-- What begins a text, by the number of its bytes.
use Rattle.std.specs.Prelude.{◌≡◌, ℕ, ◌==◌, ◌||◌, ◌-◌, ◌<◌, ◌≤◌, Bool, List, ◌∷◌, length, take, drop, take_while, Result, Ok, Err}
use Rattle.std.specs.Char.{is_ascii_alphanumeric}
use Rattle.std.specs.Str.{chars, IsCharBoundary}
use Rattle.rel_lang.specs.Tokens.{Piece}
use Rattle.rel_lang.specs.Tokens.Piece.{gap, token, bad, wide}
use Rattle.rel_lexer.specs.declared.Kind.{Kind}
use Rattle.rel_lexer.specs.declared.parts.Part.{Part}
use Rattle.rel_lexer.specs.declared.parts.Part.TheVariants.{Gap, Token}
use Rattle.rel_lexer.specs.declared.LexFault.{LexFault}
use Rattle.rel_lexer.specs.declared.LexFault.TheVariants.{BadChar, WideLiteral, Memory}
use Rattle.rel_lexer.specs.Tokens.{IsOfKind}

-- the text begins with this character
abbrev pub BeginsWith : List ℕ → ℕ → Type 0
BeginsWith text c = chars text ≡ c ∷ drop 1 (chars text)

-- how many characters the first n bytes spell
abbrev pub chars_in : ℕ → List ℕ → ℕ
chars_in n text = length (chars (take n text))

-- the first n bytes spell the characters that pass, up to the first that doesn't
pub record IsRun (p : ℕ → Bool) (text : List ℕ) (n : ℕ) : Type 0 where
  pub boundary : IsCharBoundary text n
  pub spells : chars (take n text) ≡ take_while p (chars text)

-- the first n bytes, which end between two characters, are this piece
pub record IsGap (piece : Piece) (text : List ℕ) (n : ℕ) : Type 0 where
  pub some : 0 < n
  pub boundary : IsCharBoundary text n
  pub is : piece ≡ gap (chars_in n text)

pub record IsToken (piece : Piece) (text : List ℕ) (kind : Kind) (n : ℕ) : Type 0 where
  pub some : 0 < n
  pub boundary : IsCharBoundary text n
  pub is : piece ≡ token (chars_in n text)
  pub of_kind : IsOfKind kind (take n text)

-- the fault of a piece that begins at the byte `at`
abbrev pub IsFault : Piece → ℕ → LexFault → Type 0
IsFault piece at (BadChar byte) = (at ≤ byte) × (piece ≡ bad (byte - at))
IsFault piece at (WideLiteral byte) = (byte ≡ at) × (piece ≡ wide)
IsFault piece at Memory = ⊥

-- the code's answer is the piece that begins the text, whose first byte is `at`
abbrev pub IsPart : Piece → ℕ → List ℕ → Result Part LexFault → Type 0
IsPart piece at text (Ok (Gap n)) = IsGap piece text n
IsPart piece at text (Ok (Token kind n)) = IsToken piece text kind n
IsPart piece at text (Err fault) = IsFault piece at fault

-- its bytes
abbrev pub part_len : Part → ℕ
part_len (Gap n) = n
part_len (Token kind n) = n

-- an ASCII character that goes on with a name
abbrev pub is_ascii_name : ℕ → Bool
is_ascii_name c = is_ascii_alphanumeric c || (c == 95)
