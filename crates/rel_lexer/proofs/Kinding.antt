-- A token's kind follows from its text, and its text from its kind.
use Rattle.std.proofs.Common.{◌≡◌, ℕ, ◌+◌, ◌%◌, ◌^◌, ◌<◌, Bool, true, false, not, ◌&&◌, ◌||◌, ◌↔◌, List, [], ◌∷◌, ◌++◌, Some, None, pos, negsuc, refl, sym, ap, ◌∙◌, subst, arith}
use Rattle.std.specs.Prelude.{nat_lt, ◌==◌}
use Rattle.std.specs.Char.{is_ascii_alphabetic}
use Rattle.std.specs.Fmt.{decimal}
use Rattle.std.specs.Str.{chars}
use Rattle.std.specs.Str.Parse.{digits_value}
use Rattle.std.proofs.lemmas.Bool.{and_parts, and_left, and_right, le-leb, ltb-true, not-true}
use Rattle.std.proofs.lemmas.Bool.Decides.{nat_tests}
use Rattle.std.proofs.lemmas.Fmt.{decimal_by_steps_wide, decimal_is_IsNumeral_wide}
use Rattle.std.proofs.lemmas.Str.{IsUtf8-from_ascii, chars-IsAscii, chars-append}
use Rattle.std.proofs.lemmas.Str.Ascii.{IsAscii-cons, IsAscii-nil}
use Rattle.unicode_ident.proofs.IdentLemmas.{is_xid_start-ascii}
use Rattle.rel_lang.specs.Syntax.{Word}
use Rattle.rel_lang.specs.Tokens.{is_digit, has_name_form, is_reserved, is_name, is_number}
use Rattle.rel_lexer.specs.declared.Kind.{Kind}
use Rattle.rel_lexer.specs.declared.Kind.TheVariants as kind
use Rattle.rel_lexer.specs.declared.Token.{Token}
use Rattle.rel_lexer.specs.declared.keywords.Keyword.{Keyword}
use Rattle.rel_lexer.specs.declared.keywords.Keyword.TheVariants as word
use Rattle.rel_lexer.specs.declared.symbols.Symbol.{Symbol}
use Rattle.rel_lexer.specs.declared.symbols.Symbol.TheVariants as symbol
use Rattle.rel_lexer.specs.Words.{keyword_text, keywords, keyword_of, symbol_text}
use Rattle.rel_lexer.specs.Tokens.{IsOfKind, HasKind}
use Rattle.rel_lexer.proofs.Spellings.{is_found, keyword_of-text, keyword_one, reserved_is_found, symbol_one}
use Rattle.rel_lexer.proofs.SymbolPieces.{symbol_ascii}

clash : (b : Bool) → b ≡ true → b ≡ false → ⊥
clash b t f = cc

-- ---- no two of reserved words, names, numbers and symbols are spelled alike

-- no name begins with this byte
abbrev is_plain : ℕ → Bool
is_plain b = nat_lt b 128 && not (is_ascii_alphabetic b || (b == 95))

plain_is_no_name : (b : ℕ) (cs : List ℕ) → is_plain b ≡ true → has_name_form (b ∷ cs) ≡ false
plain_is_no_name b cs plain =
    let parts = and_parts (nat_lt b 128) (not (is_ascii_alphabetic b || (b == 95))) plain in
    let ascii : b < 128 = ltb-true b 128 parts.0 in
    rw (is_xid_start-ascii b ascii) (rw (not-true _ parts.1) refl)

abbrev begins_plain : Word → Bool
begins_plain [] = false
begins_plain (b ∷ bs) = is_plain b

digit_is_plain : (b : ℕ) → is_digit b ≡ true → is_plain b ≡ true
digit_is_plain b digit = grind (arith, nat_tests)

pub number_is_no_name : (w : Word) → is_number w ≡ true → is_name w ≡ false
number_is_no_name [] number = absurd cc
number_is_no_name (b ∷ bs) number =
    let plain = digit_is_plain b number in
    let ascii = IsAscii-cons b [] (ltb-true b 128 (and_parts (nat_lt b 128) (not (is_ascii_alphabetic b || (b == 95))) plain).0) IsAscii-nil in
    let spelled : chars (b ∷ bs) ≡ b ∷ chars bs = chars-append (b ∷ []) bs (IsUtf8-from_ascii (b ∷ []) ascii) ∙ ap (λ l. l ++ chars bs) (chars-IsAscii (b ∷ []) ascii) in
    and_left (has_name_form (chars (b ∷ bs))) (not (is_reserved (b ∷ bs))) (ap has_name_form spelled ∙ plain_is_no_name b (chars bs) plain)

symbol_plain : (s : Symbol) → begins_plain (symbol_text s) ≡ true
symbol_plain symbol.Colon = refl
symbol_plain _ = refl

plain_form : (w : Word) → begins_plain w ≡ true → has_name_form w ≡ false
plain_form [] plain = absurd cc
plain_form (b ∷ bs) plain = plain_is_no_name b bs plain

pub symbol_is_no_name : (s : Symbol) → is_name (symbol_text s) ≡ false
symbol_is_no_name s =
    and_left (has_name_form (chars (symbol_text s))) (not (is_reserved (symbol_text s))) (ap has_name_form (chars-IsAscii (symbol_text s) (symbol_ascii s)) ∙ plain_form (symbol_text s) (symbol_plain s))

pub symbol_is_no_number : (s : Symbol) → is_number (symbol_text s) ≡ false
symbol_is_no_number symbol.Colon = refl
symbol_is_no_number _ = refl

symbol_is_unreserved : (s : Symbol) → keyword_of (symbol_text s) ≡ None
unfolding keywords
symbol_is_unreserved symbol.Colon = refl
symbol_is_unreserved _ = refl

pub symbol_is_no_keyword : (s : Symbol) (k : Keyword) → symbol_text s ≡ keyword_text k → ⊥
symbol_is_no_keyword s k same = let found : None ≡ Some k = sym (symbol_is_unreserved s) ∙ ap keyword_of same ∙ keyword_of-text k in absurd cc

pub keyword_is_no_name : (k : Keyword) → is_name (keyword_text k) ≡ false
keyword_is_no_name k =
    and_right (has_name_form (chars (keyword_text k))) (not (is_reserved (keyword_text k))) (ap not (reserved_is_found (keyword_text k) ∙ ap is_found (keyword_of-text k)))

pub keyword_is_no_number : (k : Keyword) → is_number (keyword_text k) ≡ false
keyword_is_no_number word.Agree = refl
keyword_is_no_number _ = refl

-- ---- numbers

digit_is : (n : ℕ) → n < 10 → is_digit (48 + n) ≡ true
digit_is n lt = rw (le-leb 48 (48 + n) (omega arith), le-leb (48 + n) 57 (omega arith)) refl

number_goes_on : (ds es : List ℕ) → is_number ds ≡ true → is_number (ds ++ es) ≡ true
number_goes_on [] es e = absurd cc
number_goes_on (d ∷ ds) es e = e

below_wide : (n : ℕ) → n < 2 ^ 127 → n < 10 ^ 64
below_wide n lt = omega arith

pub decimal_is_number : (n : ℕ) → n < 2 ^ 127 → is_number (decimal n) ≡ true
decimal_is_number n lt =
    decimal_by_steps_wide (λ m ds. is_number ds ≡ true) (λ m small. digit_is m small) (λ m ds big e. number_goes_on ds ((48 + m % 10) ∷ []) e) n (below_wide n lt)

decimal_one : (m n : ℕ) → m < 2 ^ 127 → n < 2 ^ 127 → decimal m ≡ decimal n → m ≡ n
decimal_one m n a b e = sym (decimal_is_IsNumeral_wide m (below_wide m a)).1 ∙ ap (digits_value 10) e ∙ (decimal_is_IsNumeral_wide n (below_wide n b)).1

-- ---- kinds

module _ (w : Word) where
  pub kind_of_keyword : (k : Kind) (j : Keyword) → IsOfKind k w → w ≡ keyword_text j → k ≡ kind.Word j
  kind_of_keyword (kind.Word k) j h same = ap kind.Word (keyword_one k j (sym h ∙ same))
  kind_of_keyword kind.Name j h same = absurd (clash (is_name w) h (ap is_name same ∙ keyword_is_no_name j))
  kind_of_keyword (kind.Number (pos n)) j h same = absurd (clash (is_number w) h.2 (ap is_number same ∙ keyword_is_no_number j))
  kind_of_keyword (kind.Number (negsuc n)) j h same = absurd h
  kind_of_keyword (kind.Symbol s) j h same = absurd (symbol_is_no_keyword s j (sym h ∙ same))

  pub kind_of_symbol : (k : Kind) (s : Symbol) → IsOfKind k w → w ≡ symbol_text s → k ≡ kind.Symbol s
  kind_of_symbol (kind.Word k) s h same = absurd (symbol_is_no_keyword s k (sym same ∙ h))
  kind_of_symbol kind.Name s h same = absurd (clash (is_name w) h (ap is_name same ∙ symbol_is_no_name s))
  kind_of_symbol (kind.Number (pos n)) s h same = absurd (clash (is_number w) h.2 (ap is_number same ∙ symbol_is_no_number s))
  kind_of_symbol (kind.Number (negsuc n)) s h same = absurd h
  kind_of_symbol (kind.Symbol t) s h same = ap kind.Symbol (symbol_one t s (sym h ∙ same))

  pub kind_of_name : (k : Kind) → IsOfKind k w → is_name w ≡ true → k ≡ kind.Name
  kind_of_name (kind.Word k) h name = absurd (clash (is_name w) name (ap is_name h ∙ keyword_is_no_name k))
  kind_of_name kind.Name h name = refl
  kind_of_name (kind.Number (pos n)) h name = absurd (clash (is_name w) name (number_is_no_name w h.2))
  kind_of_name (kind.Number (negsuc n)) h name = absurd h
  kind_of_name (kind.Symbol s) h name = absurd (clash (is_name w) name (ap is_name h ∙ symbol_is_no_name s))

  kind_if_number : (k : Kind) (n : ℕ) → IsOfKind k w → w ≡ decimal n → n < 2 ^ 127 → is_number w ≡ true → k ≡ kind.Number (pos n)
  kind_if_number (kind.Word k) n h same lt number = absurd (clash (is_number w) number (ap is_number h ∙ keyword_is_no_number k))
  kind_if_number kind.Name n h same lt number = absurd (clash (is_name w) h (number_is_no_name w number))
  kind_if_number (kind.Number (pos m)) n h same lt number = ap (λ (x : ℕ). kind.Number (pos x)) (decimal_one m n h.1 lt (sym h.0 ∙ same))
  kind_if_number (kind.Number (negsuc m)) n h same lt number = absurd h
  kind_if_number (kind.Symbol s) n h same lt number = absurd (clash (is_number w) number (ap is_number h ∙ symbol_is_no_number s))

  pub kind_of_number : (k : Kind) (n : ℕ) → IsOfKind k w → w ≡ decimal n → n < 2 ^ 127 → k ≡ kind.Number (pos n)
  kind_of_number k n h same lt = kind_if_number k n h same lt (ap is_number same ∙ decimal_is_number n lt)

-- ---- tokens

pub is_keyword_exactly : (t : Token) (k : Keyword) → HasKind t → (t.kind ≡ kind.Word k) ↔ (t.text.now ≡ keyword_text k)
is_keyword_exactly t k h = (λ is. subst (λ j. IsOfKind j t.text.now) is h, λ same. kind_of_keyword t.text.now t.kind k h same)

pub is_symbol_exactly : (t : Token) (s : Symbol) → HasKind t → (t.kind ≡ kind.Symbol s) ↔ (t.text.now ≡ symbol_text s)
is_symbol_exactly t s h = (λ is. subst (λ j. IsOfKind j t.text.now) is h, λ same. kind_of_symbol t.text.now t.kind s h same)

pub is_name_exactly : (t : Token) → HasKind t → (t.kind ≡ kind.Name) ↔ (is_name t.text.now ≡ true)
is_name_exactly t h = (λ is. subst (λ j. IsOfKind j t.text.now) is h, λ name. kind_of_name t.text.now t.kind h name)

pub is_number_exactly : (t : Token) (n : ℕ) → HasKind t → n < 2 ^ 127 → (t.kind ≡ kind.Number (pos n)) ↔ (t.text.now ≡ decimal n)
is_number_exactly t n h lt = (λ is. (subst (λ j. IsOfKind j t.text.now) is h).0, λ same. kind_of_number t.text.now t.kind n h same lt)
