-- Values, variables, classes and states.
use Rattle.std.specs.Prelude.{◌≡◌, ℕ, suc, ℤ, pos, Bool, true, false, ◌&&◌, ◌==◌, if◌then◌else◌, IsTrue, MatchBool, List, [], ◌∷◌, ◌++◌, map, Option, Some, None, bytes_eq}
use Rattle.std.specs.List.{AllByRecursion}
use Rattle.std.specs.Ordering.{int_eq}
use Rattle.std.specs.FinSet as set
use Rattle.rel_list.specs.References.{Obj, same_obj, Ref, Region, is_in, same_ref, same_region, just}
use Rattle.rel_list.specs.Regions.{nothing, is_within}
use Rattle.rel_lang.specs.Syntax.{Word, Ty, Int, Rgn, Class, ClassItem, Item, OfClass, Bundle}

-- the first that has this name
abbrev pub find_named : {A : Type 0} → (A → Word) → Word → List A → Option A
find_named name x [] = None
find_named name x (a ∷ rest) = if bytes_eq x (name a) then Some a else find_named name x rest

-- ---- classes and fields

-- A field, with its class and its type.
pub record ClassField : Type 0 where
  pub name : Word
  pub class : Word
  pub ty : Ty

-- The classes in order of declaration, and the fields of all of them.
pub record Tables : Type 0 where
  pub classes : List Word
  pub fields : List ClassField

abbrev pub class_items : List Item → List ClassItem
class_items [] = []
class_items (OfClass c ∷ is) = c ∷ class_items is
class_items (_ ∷ is) = class_items is

abbrev pub fields_of : List ClassItem → List ClassField
fields_of [] = []
fields_of (c ∷ cs) = map (λ d. record { name = d.name; class = c.name; ty = d.ty }) c.fields ++ fields_of cs

abbrev pub tables_of : Bundle → Tables
tables_of b = record { classes = map (λ c. c.name) (class_items b.items); fields = fields_of (class_items b.items) }

-- the place of the first one of this name, or the length of the list
abbrev pub position : Word → List Word → ℕ
position x [] = 0
position x (y ∷ ys) = if bytes_eq x y then 0 else suc (position x ys)

-- A class's number is its place in the order of declaration; no declared class has the number of one that isn't declared.
abbrev pub class_number : Tables → Word → ℕ
class_number tables c = position c tables.classes

abbrev pub find_field : Tables → Word → Option ClassField
find_field tables f = find_named (λ d. d.name) f tables.fields

-- the object is of the field's class
abbrev pub is_of_field : Tables → Option ClassField → Obj → Bool
is_of_field tables None o = false
is_of_field tables (Some d) o = o.class == class_number tables d.class

abbrev pub has_field : Tables → Word → Obj → Bool
has_field tables f o = is_of_field tables (find_field tables f) o

-- ---- values

-- A value is a whole number, a reference, or a finite set of objects.
pub data Value : Type 0 where
  Number : ℤ → Value
  Reference : Ref → Value
  Objects : Region → Value

abbrev pub as_number : Value → ℤ
as_number (Number n) = n
as_number _ = pos 0

abbrev pub as_reference : Value → Ref
as_reference (Reference r) = r
as_reference _ = None

abbrev pub as_region : Value → Region
as_region (Objects g) = g
as_region _ = nothing

-- the objects that a value names: one, those of a region, or none
abbrev pub objects_in : Value → Region
objects_in (Number n) = nothing
objects_in (Reference r) = just r
objects_in (Objects g) = g

abbrev pub same_value : Value → Value → Bool
same_value (Number m) (Number n) = int_eq m n
same_value (Reference a) (Reference b) = same_ref a b
same_value (Objects g) (Objects h) = same_region g h
same_value _ _ = false

-- The defaults are 0, null and the empty region.
abbrev pub default : Ty → Value
default Int = Number (pos 0)
default Rgn = Objects nothing
default (Class c) = Reference None

-- what a field holds in a new object
abbrev pub default_of : Option ClassField → Value
default_of None = Number (pos 0)
default_of (Some d) = default d.ty

-- A value fits a type where it is a number; null or an allocated object of the class; or a set of allocated objects.
abbrev pub fits_type : Tables → Ty → Region → Value → Bool
fits_type tables Int alloc (Number n) = true
fits_type tables (Class c) alloc (Reference None) = true
fits_type tables (Class c) alloc (Reference (Some o)) = is_in o alloc && (o.class == class_number tables c)
fits_type tables Rgn alloc (Objects g) = is_within g alloc
fits_type tables _ alloc _ = false

-- ---- variables and states

-- Whose a variable is: an item's, by its kind and name, or the running call's. A name that a quantifier binds is a variable of a kind of its own.
pub data Owner : Type 0 where
  ByInterface : Word → Owner
  ByModule : Word → Owner
  ByUnit : Word → Owner
  ByClient : Word → Owner
  ByCall : Owner
  ByQuantifier : Owner

abbrev pub same_owner : Owner → Owner → Bool
same_owner (ByInterface a) (ByInterface b) = bytes_eq a b
same_owner (ByModule a) (ByModule b) = bytes_eq a b
same_owner (ByUnit a) (ByUnit b) = bytes_eq a b
same_owner (ByClient a) (ByClient b) = bytes_eq a b
same_owner ByCall ByCall = true
same_owner ByQuantifier ByQuantifier = true
same_owner _ _ = false

-- Variables are told by owner and name. The heap gives a value at each location, an object and a field; at an absent one it gives the default.
pub record State : Type 0 where
  pub vars : Owner → Word → Value
  pub alloc : Region
  pub heap : Obj → Word → Value

-- A variable as code and formulas see it. A parameter and a quantified one can't be assigned.
pub record Variable : Type 0 where
  pub name : Word
  pub owner : Owner
  pub ty : Ty
  pub is_assignable : Bool

-- the variables that can be seen, the first of a name counting
abbrev pub Scope : Type 0
Scope = List Variable

abbrev pub find_variable : Word → Scope → Option Variable
find_variable x sc = find_named (λ v. v.name) x sc

-- it is the variable of this owner and name
abbrev pub is_variable : Owner → Word → Variable → Bool
is_variable o x v = same_owner o v.owner && bytes_eq x v.name

abbrev pub value_in : State → Variable → Value
value_in s v = s.vars v.owner v.name

abbrev pub read_variable : Option Variable → State → Value
read_variable None s = Number (pos 0)
read_variable (Some v) s = value_in s v

abbrev pub set_variable : Owner → Word → Value → State → State
set_variable o x value s = record s { vars = λ p y. if same_owner p o && bytes_eq y x then value else s.vars p y }

abbrev pub write_variable : Option Variable → Value → State → State
write_variable None value s = s
write_variable (Some v) value s = set_variable v.owner v.name value s

abbrev pub with_defaults : Scope → State → State
with_defaults [] s = s
with_defaults (v ∷ vs) s = write_variable (Some v) (default v.ty) (with_defaults vs s)

-- each of the variables has its default
abbrev pub AreDefault : Scope → State → Type 0
AreDefault sc s = AllByRecursion (λ v. value_in s v ≡ default v.ty) sc

-- a reference's field; null's is the default
abbrev pub read_field : Tables → Ref → Word → State → Value
read_field tables None f s = default_of (find_field tables f)
read_field tables (Some o) f s = s.heap o f

abbrev pub write_field : Obj → Word → Value → State → State
write_field o f value s = record s { heap = λ p g. if same_obj p o && bytes_eq g f then value else s.heap p g }

-- the object is allocated, with its fields at their defaults
abbrev pub with_object : Tables → Obj → State → State
with_object tables o s =
    record s { alloc = set.insert s.alloc o; heap = λ p f. if same_obj p o then default_of (find_field tables f) else s.heap p f }

-- ---- well-formed states

-- An allocated object of the field's class has a value of the field's type; every other location holds the default.
abbrev pub LocationFits : Tables → Option ClassField → Region → Value → Obj → Type 0
LocationFits tables None alloc value o = value ≡ Number (pos 0)
LocationFits tables (Some d) alloc value o =
    MatchBool (is_in o alloc && is_of_field tables (Some d) o) (IsTrue (fits_type tables d.ty alloc value)) (value ≡ default d.ty)

-- Every variable of the scope and every location holds what fits its type. References that aren't allocated are in neither.
pub record IsWellFormed (tables : Tables) (sc : Scope) (s : State) : Type 0 where
  pub variables : AllByRecursion (λ v. IsTrue (fits_type tables v.ty s.alloc (value_in s v))) sc
  pub locations : (o : Obj) (f : Word) → LocationFits tables (find_field tables f) s.alloc (s.heap o f) o
