-- A bundle that has a first fault isn't typed.
use Rattle.std.proofs.Common.{◌≡◌, Option, Some, None, Result, Ok, Err, subst}
use Rattle.std.specs.Prelude.{◌↔◌, IfOk, IfErr}
use Rattle.rel_lang.specs.Syntax.{Bundle}
use Rattle.rel_lang.specs.Typed.{IsTyped}
use Rattle.rel_flaws.specs.Flaws.{Fault}
use Rattle.rel_types.specs.Items.{first_fault}

some_is_none : (f : Fault) (o : Option Fault) → o ≡ Some f → o ≡ None → ⊥
some_is_none f o h k = absurd cc

pub not_typed : (b : Bundle) (f : Fault) → IsTyped b ↔ (first_fault b ≡ None) → first_fault b ≡ Some f → ¬ IsTyped b
not_typed b f law fault typed = some_is_none f (first_fault b) fault (law.0 typed)

-- ---- results that are known

pub from_ok : {T E : Type 0} (P : T → Type 0) (r : Result T E) (x : T) → r ≡ Ok x → IfOk r P → P x
from_ok P r x e h = subst (λ s. IfOk s P) e h

pub from_err : {T E : Type 0} (P : E → Type 0) (r : Result T E) (x : E) → r ≡ Err x → IfErr r P → P x
from_err P r x e h = subst (λ s. IfErr s P) e h
