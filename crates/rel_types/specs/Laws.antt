-- That a bundle is typed exactly where it has no fault.
use Rattle.std.specs.Prelude.{◌≡◌, ◌↔◌, None}
use Rattle.rel_lang.specs.Syntax.{Bundle}
use Rattle.rel_lang.specs.Typed.{IsTyped}
use Rattle.rel_types.specs.Items.{first_fault}

abbrev pub TypedHaveNoFault : Type 0
TypedHaveNoFault = (b : Bundle) → IsTyped b ↔ (first_fault b ≡ None)
