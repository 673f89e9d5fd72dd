-- What the names of classes and fields stand for: numbers in order of declaration.
use Rattle.std.specs.Prelude.{ℕ, List, map, Option}
use Rattle.rel_lang.specs.Syntax.{Word, Ty, Decl}
use Rattle.rel_lang.specs.State.{find_named, position, ClassField, Tables, class_number, Scope}
use Rattle.rel_lang.specs.View.{type_of}
use Rattle.rel_lang.specs.declared.typed.FieldInfo as F
use Rattle.rel_lang.specs.declared.typed.Typed as T

-- A field, with the number of its class and its type.
pub record NumberedField : Type 0 where
  pub name : Word
  pub class : ℕ
  pub ty : Ty

-- The classes and the fields of a bundle in order of declaration.
pub record Numbers : Type 0 where
  pub classes : List Word
  pub fields : List NumberedField

abbrev pub field_of : F.FieldInfo → NumberedField
field_of f = record { name = f.name; class = f.class; ty = type_of f.ty }

-- those of a bundle whose types were looked at
abbrev pub numbers_of : T.Typed → Numbers
numbers_of t = record { classes = t.classes; fields = map field_of t.fields }

abbrev pub numbered_field : Tables → ClassField → NumberedField
numbered_field tables d = record { name = d.name; class = class_number tables d.class; ty = d.ty }

-- those that the meaning of a bundle speaks of
abbrev pub numbered : Tables → Numbers
numbered tables = record { classes = tables.classes; fields = map (numbered_field tables) tables.fields }

abbrev pub number_of_class : Numbers → Word → ℕ
number_of_class numbers c = position c numbers.classes

abbrev pub find_numbered : Word → Numbers → Option NumberedField
find_numbered f numbers = find_named (λ d. d.name) f numbers.fields

-- the variables of a scope, as they are declared
abbrev pub declarations_of : Scope → List Decl
declarations_of sc = map (λ v. record { name = v.name; ty = v.ty }) sc
