-- What lies between a printed text and the bundle that it stands for: tokens that say what the bundle's marks do, at whatever places.
use Rattle.std.proofs.Common.{◌≡◌, List, [], ◌∷◌, Some}
use Rattle.std.specs.Str.{IsUtf8}
use Rattle.rel_lang.specs.Syntax.{Bundle}
use Rattle.rel_lang.specs.Tokens.{Token, tokens}
use Rattle.rel_lang.specs.Text.{Mark, Says, Match, show_tokens, IsPrintable, shown}
use Rattle.rel_show.specs.Places.{bundle_without_places}
use Rattle.rel_show.specs.Laws.{AreUtf8}

-- the tokens say what the marks do, at whatever places
abbrev pub Spells : List Mark → List Token → Type 0
Spells [] [] = Unit {0}
Spells (m ∷ ms) (t ∷ ts) = Says t.text m.said × Spells ms ts
Spells _ _ = ⊥

-- the text that is printed for the bundle is UTF-8, and is cut into tokens that say what the bundle's marks do
pub record IsCut (b : Bundle) : Type 0 where
  pub utf8 : IsUtf8 (shown b.items)
  pub found : List Token
  pub cut : tokens (shown b.items) ≡ Some found
  pub spelled : Spells (show_tokens b) found

-- The text that is printed for a printable bundle, whose names are UTF-8, is cut into the bundle's tokens.
abbrev pub PrintedTextsAreCut : Type 0
PrintedTextsAreCut = (b : Bundle) → IsPrintable b → AreUtf8 (show_tokens b) → IsCut b

-- Tokens that say what a printable bundle's marks do are those of a printable bundle that differs from it at most in the places of its trees.
abbrev pub SpelledTokensPlaceABundle : Type 0
SpelledTokensPlaceABundle = (b : Bundle) → IsPrintable b → (found : List Token) → Spells (show_tokens b) found
    → (c : Bundle) × (bundle_without_places c ≡ bundle_without_places b) × IsPrintable c × Match (show_tokens c) found
