-- The boundary of an interface in a state: the locations that belong to the module's side.
use Rattle.std.specs.Prelude.{Bool}
use Rattle.std.specs.List.{list_any}
use Rattle.rel_list.specs.References.{Obj}
use Rattle.rel_lang.specs.Syntax.{Word, Interface}
use Rattle.rel_lang.specs.State.{Tables, State}
use Rattle.rel_lang.specs.Scope.{interface_globals}
use Rattle.rel_lang.specs.Value.{has_location}

-- it is a location of one of the boundary's places
abbrev pub in_boundary : Tables → Interface → State → Obj → Word → Bool
in_boundary tables i s o f = list_any (λ p. has_location tables (interface_globals i) p s s o f) i.boundary
