-- The classes and the fields of a bundle in order of declaration.
use Rattle.std.specs.Prelude.{◌≡◌, ℕ, List, map}
use Rattle.rel_lang.specs.Syntax.{Word, Ty, Decl, Bundle}
use Rattle.rel_lang.specs.State.{Tables, tables_of, ClassField, class_number}
use Rattle.rel_lang.specs.View.{type_of}
use Rattle.rel_lang.specs.declared.typed.FieldInfo as F

-- A field, with the number of its class and its type.
pub record NumberedField : Type 0 where
  pub name : Word
  pub class : ℕ
  pub ty : Ty

abbrev pub field_infos : List F.FieldInfo → List NumberedField
field_infos fs = map (λ f. record { name = f.name; class = f.class; ty = type_of f.ty }) fs

-- of the class of this number
abbrev pub infos_of_class : ℕ → List Decl → List NumberedField
infos_of_class n ds = map (λ d. record { name = d.name; class = n; ty = d.ty }) ds

abbrev pub numbered : Tables → ClassField → NumberedField
numbered tables d = record { name = d.name; class = class_number tables d.class; ty = d.ty }

-- the names are those of the bundle's classes in order
abbrev pub AreClasses : Bundle → List Word → Type 0
AreClasses b names = names ≡ (tables_of b).classes

-- the fields are the bundle's in order, each with the number of its class
abbrev pub AreFields : Bundle → List F.FieldInfo → Type 0
AreFields b fs = field_infos fs ≡ map (numbered (tables_of b)) (tables_of b).fields
