-- The value of an expression in a state. What stands under `old` is read in the state `entry`.
use Rattle.std.specs.Prelude.{◌+ℤ◌, ◌-ℤ◌, ◌*ℤ◌, Bool, ◌&&◌, bytes_eq, None}
use Rattle.rel_list.specs.References.{Obj, just, is_in}
use Rattle.rel_list.specs.Regions.{nothing, union, meet, minus, of_class, united_over}
use Rattle.rel_lang.specs.Syntax.{Word, Expression, Var, Num, Null, Empty, Alloc, Add, Sub, Mul, Field, Single, Union, Meet, Minus, Image, Filter, Old, Place}
use Rattle.rel_lang.specs.State.{Tables, class_number, has_field, Value, Number, Reference, Objects, as_number, as_reference, as_region, objects_in, State, Scope, find_variable, read_variable, read_field}

module _ (tables : Tables) (sc : Scope) where
  abbrev pub value_of : Expression → State → State → Value
  value_of (Var x) entry s = read_variable (find_variable x sc) s
  value_of (Num n) entry s = Number n
  value_of Null entry s = Reference None
  value_of Empty entry s = Objects nothing
  -- all allocated objects
  value_of Alloc entry s = Objects s.alloc
  value_of (Add a b) entry s = Number (as_number (value_of a entry s) +ℤ as_number (value_of b entry s))
  value_of (Sub a b) entry s = Number (as_number (value_of a entry s) -ℤ as_number (value_of b entry s))
  value_of (Mul n a) entry s = Number (n *ℤ as_number (value_of a entry s))
  -- the default at null
  value_of (Field a f) entry s = read_field tables (as_reference (value_of a entry s)) f s
  -- empty at null
  value_of (Single a) entry s = Objects (just (as_reference (value_of a entry s)))
  value_of (Union a b) entry s = Objects (union (as_region (value_of a entry s)) (as_region (value_of b entry s)))
  value_of (Meet a b) entry s = Objects (meet (as_region (value_of a entry s)) (as_region (value_of b entry s)))
  value_of (Minus a b) entry s = Objects (minus (as_region (value_of a entry s)) (as_region (value_of b entry s)))
  -- the objects that the field names in the region's members
  value_of (Image a f) entry s = Objects (united_over (λ o. objects_in (s.heap o f)) (as_region (value_of a entry s)))
  value_of (Filter a c) entry s = Objects (of_class (class_number tables c) (as_region (value_of a entry s)))
  value_of (Old a) entry s = value_of a entry entry

  -- The locations of a place `G @ f`: those of the field f in the members of G that are of f's class.
  abbrev pub has_location : Place → State → State → Obj → Word → Bool
  has_location p entry s o f = bytes_eq f p.field && (has_field tables f o && is_in o (as_region (value_of p.region entry s)))
