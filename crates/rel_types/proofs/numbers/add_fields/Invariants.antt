use Rattle.std.proofs.Common.{◌≡◌, ◌++◌, map, take}
use Rattle.rel_lang.specs.View.{decl_of}
use Rattle.rel_types.specs.Numbers.{field_infos, infos_of_class}
use Rattle.rel_types.proofs.numbers.add_fields.Given as goal

abbrev pub invariant-loop-decl : goal.invariant-loop-decl
invariant-loop-decl l = field_infos l.fields ≡ field_infos l.fn.fields ++ infos_of_class l.number (map decl_of (take l.decl-index l.decl-items))
