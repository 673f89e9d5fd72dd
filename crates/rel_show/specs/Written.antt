-- What is printed before the end of a line.
use Rattle.std.specs.Prelude.{ℕ, List, [], ◌∷◌, ◌++◌}
use Rattle.rel_lang.specs.Text.{Mark, text_of}

-- the texts of the marks, with a space behind each
abbrev pub written : List Mark → List ℕ
written [] = []
written (m ∷ ms) = text_of m.said ++ 32 ∷ written ms
