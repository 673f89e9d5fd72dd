use Rattle.std.proofs.Common.{map, take}
use Rattle.rel_lang.specs.View.{type_of}
use Rattle.rel_types.specs.ByName.{Adds, IsFieldSeen}
use Rattle.rel_types.proofs.classes.add_fields.Given as goal

abbrev pub invariant-loop-field : goal.invariant-loop-field
invariant-loop-field l =
    Adds IsFieldSeen (λ d. d.name) l.fn.fields l.fields (map (λ d. record { name = d.name; class = l.class.name; ty = type_of d.ty }) (take l.field-index l.field-items))
