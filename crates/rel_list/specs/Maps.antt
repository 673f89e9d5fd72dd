-- Maps from references to values, as the field of each object gives one. Null has a value too.
use Rattle.std.specs.Prelude.{◌≡◌, ◌⊎◌, if◌then◌else◌, List, Contains}
use Rattle.rel_list.specs.References.{Ref, same_ref}

-- outside some finite list of references each value is the default
abbrev pub IsFinite : {V : Type 0} → V → (Ref → V) → Type 0
IsFinite default m = (rs : List Ref) × ((r : Ref) → (m r ≡ default) ⊎ Contains rs r)

-- m with v at r
abbrev pub with_value : {V : Type 0} → (Ref → V) → Ref → V → Ref → V
with_value m r v q = if same_ref q r then v else m q
