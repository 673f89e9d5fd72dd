-- The lists of sorts that the code's values stand for.
use Rattle.std.specs.Prelude.{List, [], ◌∷◌, Option, Some, None}
use Rattle.rel_logic.specs.declared.term.Sort.{Sort}
use Rattle.rel_logic.specs.declared.sorting.Bounds.{Bounds, fold-Bounds}
use Rattle.rel_logic.specs.declared.sorting.Bounds.TheOpen.{Bounds-F}
use Rattle.rel_logic.specs.Syntax.{Srt}
use Rattle.rel_logic.specs.View.{sort_of}

abbrev pub srt_of : Option Sort → Option Srt
srt_of None = None
srt_of (Some s) = Some (sort_of s)

abbrev pub bounds_step : Bounds-F (List Srt) → List Srt
bounds_step Bounds-F.Outside = []
bounds_step (Bounds-F.Under s outer) = sort_of s ∷ outer.now

abbrev pub bounds_of : Bounds → List Srt
bounds_of = fold-Bounds (List Srt) bounds_step
