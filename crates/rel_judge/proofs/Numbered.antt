-- The classes and the fields that typing finds are those that the encoding numbers.
use Rattle.std.proofs.Common.{◌≡◌, List, [], ◌∷◌, map, refl, sym, ap, subst, ◌∙◌}
use Rattle.rel_lang.specs.State.{ClassField, Tables, tables_of}
use Rattle.rel_lang.specs.View.{bundle_of}
use Rattle.rel_lang.specs.declared.bundle.Bundle.{Bundle}
use Rattle.rel_lang.specs.declared.typed.FieldInfo.{FieldInfo}
use Rattle.rel_lang.specs.declared.typed.Typed.{Typed}
use Rattle.rel_types.specs.Numbers as T
use Rattle.rel_types.specs.Numbers.{AreClasses, AreFields}
use Rattle.rel_encode.specs.Numbers as E
use Rattle.rel_encode.specs.Numbers.{numbers_of, numbered}

-- the same field in the words of the encoding
abbrev as_encoded : T.NumberedField → E.NumberedField
as_encoded f = record { name = f.name; class = f.class; ty = f.ty }

infos_encoded : (fs : List FieldInfo) → map as_encoded (T.field_infos fs) ≡ map E.field_of fs
infos_encoded [] = refl
infos_encoded (f ∷ fs) = ap (λ l. E.field_of f ∷ l) (infos_encoded fs)

fields_encoded : (tables : Tables) (ds : List ClassField) → map as_encoded (map (T.numbered tables) ds) ≡ map (E.numbered_field tables) ds
fields_encoded tables [] = refl
fields_encoded tables (d ∷ ds) = ap (λ l. E.numbered_field tables d ∷ l) (fields_encoded tables ds)

pub typed_numbers : (b : Bundle) (t : Typed) → t.bundle ≡ b → AreClasses (bundle_of b) t.classes → AreFields (bundle_of b) t.fields
    → numbers_of t ≡ numbered (tables_of (bundle_of t.bundle))
typed_numbers b t same classes fields =
    let encoded = sym (infos_encoded t.fields) ∙ ap (map as_encoded) fields ∙ fields_encoded (tables_of (bundle_of b)) (tables_of (bundle_of b)).fields in
    subst (λ c. numbers_of t ≡ numbered (tables_of (bundle_of c))) (sym same) (λ i. record { classes = classes i; fields = encoded i })
