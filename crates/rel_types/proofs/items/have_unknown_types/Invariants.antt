use Rattle.std.proofs.Common.{◌≡◌, map, take}
use Rattle.rel_lang.specs.View.{decl_of}
use Rattle.rel_flaws.specs.Inference as inference
use Rattle.rel_flaws.specs.View.{tables_seen}
use Rattle.rel_types.proofs.items.have_unknown_types.Given as goal

abbrev pub invariant-loop-decl : goal.invariant-loop-decl
invariant-loop-decl l = l.found ≡ inference.have_unknown_types (tables_seen l.tables) (map decl_of (take l.decl-index l.decl-items))
