use Rattle.std.proofs.Common.{◌≡◌, option_map, take}
use Rattle.rel_flaws.specs.Entries.{find_entry, last_first}
use Rattle.rel_flaws.proofs.binders.Binders.find.Given as goal

abbrev pub invariant-loop-x : goal.invariant-loop-x
invariant-loop-x l = option_map (λ class. class.now) l.found ≡ find_entry l.name (last_first (take l.x-index l.x-items))
