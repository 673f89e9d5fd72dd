-- Laws of the definitions, which functions of `laws` prove.
use Rattle.std.specs.Prelude.{◌≡◌, List}
use Rattle.std.specs.List.{AllByRecursion}
use Rattle.std.specs.Str.{IsUtf8}
use Rattle.rel_lang.specs.Syntax.{Bundle}
use Rattle.rel_lang.specs.Text.{Mark, text_of, show_tokens, IsPrintable, StandsFor, shown}
use Rattle.rel_show.specs.Places.{bundle_without_places}

-- the texts of the marks are UTF-8
abbrev pub AreUtf8 : List Mark → Type 0
AreUtf8 ms = AllByRecursion (λ m. IsUtf8 (text_of m.said)) ms

-- The text that is printed for a printable bundle, whose names are UTF-8, stands for a bundle that differs from it at most in the places of its
-- trees.
abbrev pub PrintedTextsStand : Type 0
PrintedTextsStand = (b : Bundle) → IsPrintable b → AreUtf8 (show_tokens b)
    → (c : Bundle) × (bundle_without_places c ≡ bundle_without_places b) × StandsFor (shown b.items) c
