-- What holds of the definition's tree holds of the answered one.
use Rattle.std.proofs.Common.{◌≡◌, Result, Ok, Err, IfOk, sym, subst}

pub answered : {T E V : Type 0} (P : V → Type 0) (view : T → V) (v : V) → P v → (answer : Result T E) → IfOk answer (λ x. view x ≡ v) → IfOk answer (λ x. P (view x))
answered P view v p (Ok x) e = subst P (sym e) p
answered P view v p (Err x) e = tt
