-- Which fault a text has, where it stands for no bundle within the limits.
use Rattle.std.specs.Prelude.{◌≡◌, ◌≢◌, ◌⊎◌, ℕ, ◌-◌, List, length, Some, Result, Err, IsErrAnd}
use Rattle.std.specs.Str.{IsUtf8, IsValidUpTo}
use Rattle.rel_lang.specs.Syntax.{Bundle}
use Rattle.rel_lang.specs.Text.{StandsFor}
use Rattle.rel_lang.specs.Tokens.{Token, LexicalFault, bad_char, wide_literal, lexed, tokens}
use Rattle.rel_lang.specs.Refusal.{Reason, Fits, Unexpected, TooDeep, TooMany, IsRefused, place_behind}
use Rattle.rel_lexer.specs.declared.Token.{Token as LexedToken}
use Rattle.rel_lexer.specs.Tokens.{tokens_of}
use Rattle.rel_parse.specs.declared.fault.Fault.{Fault}
use Rattle.rel_parse.specs.declared.fault.Fault.TheVariants as reading
use Rattle.rel_lang.specs.declared.fault.LexKind.{LexKind}
use Rattle.rel_lang.specs.declared.fault.LexKind.TheVariants.{BadChar, WideLiteral}
use Rattle.rel_decls.specs.declared.fault.TextFault.{TextFault}
use Rattle.rel_decls.specs.declared.fault.TextFault.TheVariants as faults

abbrev pub lexical : LexKind → ℕ → LexicalFault
lexical BadChar at = bad_char at
lexical WideLiteral at = wide_literal at

-- for this reason a token is refused that stands at this byte, or the end of the text is
pub record IsRefusedAt (why : Reason) (text : List ℕ) (at : ℕ) : Type 0 where
  pub utf8 : IsUtf8 text
  pub found : List Token
  pub cut : tokens text ≡ Some found
  pub passed : ℕ
  pub refused : IsRefused why passed found
  pub place : at ≡ place_behind (length text) passed found

-- a text that isn't UTF-8 has its fault behind the longest front that is
abbrev pub HasFault : List ℕ → TextFault → Type 0
HasFault text (faults.NotUtf8 at) = IsValidUpTo text at
HasFault text (faults.Lexical why at) = IsUtf8 text × (lexed text ≡ Err (lexical why at))
HasFault text (faults.Syntax at) = IsRefusedAt Unexpected text at
HasFault text (faults.TooDeep at) = IsRefusedAt TooDeep text at
HasFault text (faults.TooMany at) = IsRefusedAt TooMany text at
HasFault text faults.Memory = Unit {0}

-- it stands for no bundle within the limits
abbrev pub StandsForNone : List ℕ → Type 0
StandsForNone text = (b : Bundle) → StandsFor text b → Fits b → ⊥

-- the text's fault, if it has one, is the answer, unless memory ran out
abbrev pub IsTold : {A : Type 0} → List ℕ → Result A TextFault → Type 0
IsTold text result = (f : TextFault) → HasFault text f → f ≢ faults.Memory → IsErrAnd result (λ e. (e ≡ f) ⊎ (e ≡ faults.Memory))

-- the fault of a text of so many bytes, where a reader of its tokens refuses this one
abbrev pub placed_fault : Fault → ℕ → List LexedToken → TextFault
placed_fault (reading.Unexpected left) whole ts = faults.Syntax (place_behind whole (length ts - left) (tokens_of ts))
placed_fault (reading.TooDeep left) whole ts = faults.TooDeep (place_behind whole (length ts - left) (tokens_of ts))
placed_fault (reading.TooMany left) whole ts = faults.TooMany (place_behind whole (length ts - left) (tokens_of ts))
placed_fault reading.Memory whole ts = faults.Memory
