-- What a change of the state stands for.
use Rattle.std.specs.Prelude.{◌≡◌, Bool, List, map, is_some}
use Rattle.rel_lang.specs.Syntax.{Word, Effect, Decl}
use Rattle.rel_lang.specs.View.{decl_of, effect_of}
use Rattle.rel_flaws.specs.Entries.{find_entry}
use Rattle.rel_encode.specs.Numbers.{Numbers}
use Rattle.rel_encode.specs.Terms.{Store}
use Rattle.rel_encode.specs.Frame.{lists_global}
use Rattle.rel_encode.specs.View.{store_of, numbers_in}
use Rattle.rel_encode.specs.declared.frame.Change as C

-- an index has the names of the variables that are listed
abbrev pub AreListed : {V : Type 0} → List (Word × V) → List Effect → Type 0
AreListed index writes = (x : Word) → is_some (find_entry x index) ≡ lists_global writes x

abbrev pub numbers_before : C.Change → Numbers
numbers_before c = numbers_in c.names.now

abbrev pub scope_before : C.Change → List Decl
scope_before c = map decl_of c.variables.now.items.now

abbrev pub store_before : C.Change → Store
store_before c = store_of c.before.now

abbrev pub effects_of : C.Change → List Effect
effects_of c = map effect_of c.writes.now
