use Rattle.std.proofs.Common.{◌++◌, map, take}
use Rattle.rel_lang.specs.Scope.{declared}
use Rattle.rel_lang.specs.State.{ByQuantifier}
use Rattle.rel_lang.specs.View.{decl_of}
use Rattle.rel_types.specs.Lookups.{SameLookups}
use Rattle.rel_flaws.specs.View.{variables_seen}
use Rattle.rel_types.proofs.declarations.add_all.Given as goal

abbrev pub invariant-loop-decl : goal.invariant-loop-decl
invariant-loop-decl l = SameLookups (variables_seen l.index) (variables_seen l.fn.index ++ declared ByQuantifier l.is_assignable (map decl_of (take l.decl-index l.decl-items)))
