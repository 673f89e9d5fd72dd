-- Where each fixed word is a reserved word or a symbol, what is printed for a mark is a token.
use Rattle.std.proofs.Common.{◌≡◌, ℕ, ◌<◌, Bool, true, not, ◌||◌, pos, negsuc, List, [], ◌∷◌, length, ⊎_elim, IsUtf8, refl, sym, subst, arith}
use Rattle.std.specs.Prelude.{bytes_eq}
use Rattle.std.specs.Fmt.{decimal}
use Rattle.std.specs.List.{list_all, list_any, AllByRecursion}
use Rattle.std.specs.Str.{chars}
use Rattle.std.proofs.Math.Nat.{min-eq_left}
use Rattle.std.proofs.lemmas.Bool.{or_cases, and_parts}
use Rattle.std.proofs.lemmas.Fmt.{IsAscii-decimal_wide, decimal_is_IsNumeral_wide}
use Rattle.std.proofs.lemmas.Slice.Eq.{bytes_eq-Decides}
use Rattle.std.proofs.lemmas.Str.{chars-IsAscii}
use Rattle.rel_lang.specs.Syntax.{Word}
use Rattle.rel_lang.specs.Tokens.{is_reserved, reserved, symbols, has_name_form, literal_limit}
use Rattle.rel_lang.specs.Text.{Said, Fixed, Name, Literal, Counting, CanBeSaid, Says, text_of}
use Rattle.rel_show.proofs.Stops.{Stops, are_letters, letters_form, letters_ascii, name_stops, form_some, decimal_stops, below_wide, IsSymbol, symbol_stops, plain_some, all_symbols}
use Rattle.rel_show.proofs.Walk.{IsFit}

-- a reserved word or a symbol
abbrev pub is_fixed : Word → Bool
is_fixed w = is_reserved w || list_any (λ s. bytes_eq w s) symbols

abbrev pub IsKnown : Said → Type 0
IsKnown (Fixed w) = is_fixed w ≡ true
IsKnown s = Unit {0}

-- what holds of all holds of the word that is among them
of_any : (P : Word → Type 0) (w : Word) (xs : List Word) → AllByRecursion P xs → list_any (λ r. bytes_eq w r) xs ≡ true → P w
of_any P w [] all any = absurd cc
of_any P w (x ∷ xs) all any =
    ⊎_elim (λ same. subst P (sym ((bytes_eq-Decides w x).0 same)) all.0) (λ more. of_any P w xs all.1 more) (or_cases (bytes_eq w x) (list_any (λ r. bytes_eq w r) xs) any)

all_pass : (t : Word → Bool) (xs : List Word) → list_all t xs ≡ true → AllByRecursion (λ w. t w ≡ true) xs
all_pass t [] all = tt
all_pass t (x ∷ xs) all = let parts = and_parts (t x) (list_all t xs) all in (parts.0, all_pass t xs parts.1)

-- its characters are its bytes, and a space or a line feed ends it
abbrev IsPlain : Word → Type 0
IsPlain w = (chars w ≡ w) × (0 < length w) × Stops w

letters_spelled : (w : Word) → are_letters w ≡ true → chars w ≡ w
letters_spelled [] letters = absurd cc
letters_spelled (c ∷ cs) letters = chars-IsAscii (c ∷ cs) (letters_ascii (c ∷ cs) letters)

reserved_plain : (w : Word) → is_reserved w ≡ true → IsPlain w
reserved_plain w found =
    let letters : are_letters w ≡ true = of_any (λ r. are_letters r ≡ true) w reserved (all_pass are_letters reserved refl) found in
    let form = letters_form w letters in
    (letters_spelled w letters, form_some w form, name_stops w form)

symbol_plain : (w : Word) → list_any (λ s. bytes_eq w s) symbols ≡ true → IsPlain w
symbol_plain w found =
    let symbol = of_any IsSymbol w symbols all_symbols found in
    (symbol.0, plain_some w symbol, symbol_stops w symbol)

fixed_plain : (w : Word) → is_fixed w ≡ true → IsPlain w
fixed_plain w is = ⊎_elim (λ found. reserved_plain w found) (λ found. symbol_plain w found) (or_cases (is_reserved w) (list_any (λ s. bytes_eq w s) symbols) is)

decimal_plain : (n : ℕ) → n < literal_limit → IsPlain (decimal n)
decimal_plain n lt =
    let wide_enough = below_wide n lt in
    (chars-IsAscii (decimal n) (IsAscii-decimal_wide n wide_enough), (decimal_is_IsNumeral_wide n wide_enough).0.0, decimal_stops n lt)

plain_fit : (s : Said) → IsPlain (text_of s) → Says (text_of s) s → IsUtf8 (text_of s) → IsFit s
plain_fit s plain says utf8 = record {
  utf8 = utf8;
  some = subst (λ l. 0 < length l) (sym plain.0) plain.1;
  stops = subst Stops (sym plain.0) plain.2;
  says = says;
}

-- what is printed for such a mark is a token that says so
pub fit : (s : Said) → IsKnown s → CanBeSaid s → IsUtf8 (text_of s) → IsFit s
fit (Fixed w) known can utf8 = plain_fit (Fixed w) (fixed_plain w known) refl utf8
fit (Name x) known can utf8 =
    let form = (and_parts (has_name_form (chars x)) (not (is_reserved x)) can).0 in
    record { utf8 = utf8; some = form_some (chars x) form; stops = name_stops (chars x) form; says = refl }
fit (Literal (pos n)) known can utf8 = plain_fit (Literal (pos n)) (decimal_plain n can) refl utf8
fit (Literal (negsuc n)) known can utf8 = absurd can
fit (Counting n) known can utf8 =
    let below : n < literal_limit = omega (arith, can) in
    plain_fit (Counting n) (decimal_plain n below) (n, refl, min-eq_left can) utf8
