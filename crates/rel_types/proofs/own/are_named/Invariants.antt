use Rattle.std.proofs.Common.{◌≡◌, map, take}
use Rattle.std.specs.List.{list_any}
use Rattle.rel_lang.specs.View.{decl_of}
use Rattle.rel_flaws.specs.Inference.{is_in_scope}
use Rattle.rel_flaws.specs.View.{variables_seen}
use Rattle.rel_types.proofs.own.are_named.Given as goal

abbrev pub invariant-loop-decl : goal.invariant-loop-decl
invariant-loop-decl l = l.found ≡ list_any (λ d. is_in_scope d.name (variables_seen l.variables)) (map decl_of (take l.decl-index l.decl-items))
