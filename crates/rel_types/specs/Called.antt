-- When two lists of procedures and methods give the same for each name.
use Rattle.std.specs.Prelude.{◌≡◌, List}
use Rattle.rel_lang.specs.Syntax.{Word}
use Rattle.rel_lang.specs.State.{find_named}
use Rattle.rel_lang.specs.Typed.{Signature}

abbrev pub SameCallees : List Signature → List Signature → Type 0
SameCallees ss ts = (x : Word) → find_named (λ q. q.name) x ss ≡ find_named (λ q. q.name) x ts
