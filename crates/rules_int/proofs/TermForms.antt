-- The forms of terms, joined from those of their parts.
use Rattle.std.proofs.Common.{◌≡◌, ℤ, pos, Bool, true, false, if◌then◌else◌, Option, Some, None, option_and_then, refl, ap, subst, ◌∙◌}
use Rattle.std.proofs.Math.IntN.{+ℤ_idl}
use Rattle.rules_int.specs.declared.forms.Form.{Form}
use Rattle.rules_int.specs.declared.parts.Parts.{Parts}
use Rattle.rules_int.specs.declared.join.Join.TheVariants.{PlusTimes}
use Rattle.rules_int.specs.Linear.{Linear, number_form, plus, times, fits_form, within, joined}
use Rattle.rules_int.specs.Entries.{Numbers}
use Rattle.rules_int.specs.Forms.{parts_at, IsLike}
use Rattle.rules_int.specs.Made.{IsFormOf, FitsIfAny, joined_by, IsJoinOf, IsMultipleOf}

-- a form's numbers fit
pub fits_form_of : {N : Type 0} (at : N → Numbers) (o : Option Linear) (f : Option (Form N)) → IsFormOf at o f → FitsIfAny at f
fits_form_of at None None h = tt
fits_form_of at None (Some f) h = absurd h
fits_form_of at (Some g) None h = tt
fits_form_of at (Some g) (Some f) h = h.numbers_fit

plus_zero : (g : Linear) → plus (number_form (pos 0)) g ≡ g
plus_zero g = λ i. record { constant = +ℤ_idl g.constant i; parts = g.parts }

-- a multiple, added to 0
times_alone : (k : ℤ) (f : Linear) → joined plus (Some (number_form (pos 0))) (within (times k f)) ≡ within (times k f)
times_alone k f = at (fits_form (times k f)) refl
  where
    at : (b : Bool) → fits_form (times k f) ≡ b → joined plus (Some (number_form (pos 0))) (if b then Some (times k f) else None) ≡ (if b then Some (times k f) else None)
    at true e = ap within (plus_zero (times k f)) ∙ ap (λ b. if b then Some (times k f) else None) e
    at false e = refl

times_zero : (k : ℤ) (p : Option Linear) → joined_by (PlusTimes k) (Some (number_form (pos 0))) p ≡ option_and_then (λ f. within (times k f)) p
times_zero k None = refl
times_zero k (Some f) = times_alone k f

pub times_form : (k : ℤ) (z : Form Parts) (c r : Option (Form Parts)) → IsLike z.constant (parts_at z.numbers) (number_form (pos 0)) → IsJoinOf parts_at parts_at (PlusTimes k) (Some z) c r → IsMultipleOf parts_at k c r
times_form k z c r zero j p h = subst (λ o. IsFormOf parts_at o r) (times_zero k p) (j (Some (number_form (pos 0))) p zero h)

pub ruleset of_terms = (fits_form_of, times_form)
