-- What holds of an answered formula holds of it in other words.
use Rattle.std.proofs.Common.{◌≡◌, ◌↔◌, ℕ, [], ◌∷◌, Result, Ok, Err, IfOk, sym, subst}
use Rattle.rel_logic.specs.declared.fol.Fol.{Fol}
use Rattle.rel_logic.specs.Syntax.{Trm, Fml}
use Rattle.rel_logic.specs.View.{fml_of}
use Rattle.rel_logic.specs.Truth.{Valuation, value, changed, IsTrueAt}
use Rattle.rel_logic.specs.Bounds.{free_bound_term}
use Rattle.rel_logic.specs.Substitution.{substituted, instantiated}
use Rattle.rel_logic.proofs.Values.{substituted_true, instantiated_true}

module _ {E : Type 0} (t : Trm) (closed : free_bound_term t ≡ 0) (f : Fml) where
  pub substitute_truth : (n : ℕ) (answer : Result Fol E) → IfOk answer (λ g. fml_of g ≡ substituted n t f)
      → IfOk answer (λ g. (r : Valuation) → IsTrueAt r [] (fml_of g) ↔ IsTrueAt (changed r n (value r [] t)) [] f)
  substitute_truth n (Ok g) e = λ r. subst (λ k. IsTrueAt r [] k ↔ IsTrueAt (changed r n (value r [] t)) [] f) (sym e) (substituted_true t closed r n f)
  substitute_truth n (Err x) e = tt

  pub instantiate_truth : (answer : Result Fol E) → IfOk answer (λ g. fml_of g ≡ instantiated t f)
      → IfOk answer (λ g. (r : Valuation) → IsTrueAt r [] (fml_of g) ↔ IsTrueAt r (value r [] t ∷ []) f)
  instantiate_truth (Ok g) e = λ r. subst (λ k. IsTrueAt r [] k ↔ IsTrueAt r (value r [] t ∷ []) f) (sym e) (instantiated_true t closed r f)
  instantiate_truth (Err x) e = tt
