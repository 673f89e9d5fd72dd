-- Formulas of the code that a checker can take.
use Rattle.std.specs.Prelude.{IsTrue, List}
use Rattle.std.specs.List.{AllByRecursion}
use Rattle.rel_logic.specs.Syntax.{Srt}
use Rattle.rel_logic.specs.declared.fol.Fol.{Fol}
use Rattle.rel_logic.specs.View.{fml_of}
use Rattle.rel_logic.specs.Sorting.{is_well_sorted}

abbrev pub IsSortedOver : List Srt → Fol → Type 0
IsSortedOver sorts f = IsTrue (is_well_sorted sorts (fml_of f))

abbrev pub AreSortedOver : List Srt → List Fol → Type 0
AreSortedOver sorts fs = AllByRecursion (IsSortedOver sorts) fs
