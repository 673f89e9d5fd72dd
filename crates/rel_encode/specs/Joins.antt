-- Which formula is `true`.
use Rattle.std.specs.Prelude.{Bool, true, false}
use Rattle.rel_logic.specs.Syntax.{Fml, verum}

abbrev pub is_verum : Fml → Bool
is_verum verum = true
is_verum _ = false
