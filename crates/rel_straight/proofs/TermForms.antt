-- The forms of terms, joined from those of their parts.
use Rattle.std.proofs.Common.{◌≡◌, ℤ, pos, Bool, true, false, if◌then◌else◌, ◌==◌, Option, Some, None, SFits, lit<, sym, ap, subst, ◌∙◌}
use Rattle.std.specs.Int.{w128}
use Rattle.rel_logic.specs.declared.term.Term.{Term, fold-roll-Term}
use Rattle.rel_logic.specs.declared.term.Term.TheVariants as T
use Rattle.rel_logic.specs.declared.term.Term.TheOpen.{Term-F}
use Rattle.rel_logic.specs.View.{trm_of, term_step}
use Rattle.rel_logic.specs.Syntax.{Trm, var, int, add, sub}
use Rattle.rel_straight.specs.declared.linear.Form.{Form}
use Rattle.rel_straight.specs.declared.linear.Change.TheVariants.{Add, Subtract}
use Rattle.rel_straight.specs.Linear.{FitsI128, form_of, IsLinear, plus, minus}
use Rattle.rel_straight.specs.Forms.{linear, FitsIfAny, IsJoined, IsTermForm, IsDifference}

unit_fits : (b : Bool) → SFits w128 (if b then pos 1 else pos 0)
unit_fits true = record { sfits = lit< tt }
unit_fits false = record { sfits = lit< tt }

pub fits_linear : (t : Trm) → IsLinear t → FitsI128 (form_of t)
fits_linear (var v) h = (record { sfits = lit< tt }, λ n. unit_fits (n == v))
fits_linear (int z) h = h
fits_linear (add t u) h = h.2
fits_linear (sub t u) h = h.2
fits_linear t l = absurd l

-- a term's form may be joined to another
pub fits_term : (t : Trm) (f : Option Form) → IsTermForm t f → FitsIfAny f
fits_term t None h = tt
fits_term t (Some f) h = subst FitsI128 (sym h.1) (fits_linear t h.0)

pub number_fits : (z : ℤ) → SFits w128 z → IsLinear (int z)
number_fits z h = (h, λ n. record { sfits = lit< tt })

pub add_form : (t u : Trm) (f g r : Option Form) → IsTermForm t f → IsTermForm u g → IsJoined Add f g r → IsTermForm (add t u) r
add_form t u None g None h k j = λ l. h l.0
add_form t u (Some f) None None h k j = λ l. k l.1
add_form t u (Some f) (Some g) None h k j = λ l. j (subst FitsI128 (λ i. plus (sym h.1 i) (sym k.1 i)) l.2)
add_form t u None g (Some r) h k j = absurd j
add_form t u (Some f) None (Some r) h k j = absurd j
add_form t u (Some f) (Some g) (Some r) h k j =
    let e : plus (linear f) (linear g) ≡ form_of (add t u) = λ i. plus (h.1 i) (k.1 i) in
    ((h.0, k.0, subst FitsI128 e j.0), j.1 ∙ e)

pub sub_form : (t u : Trm) (f g r : Option Form) → IsTermForm t f → IsTermForm u g → IsJoined Subtract f g r → IsTermForm (sub t u) r
sub_form t u None g None h k j = λ l. h l.0
sub_form t u (Some f) None None h k j = λ l. k l.1
sub_form t u (Some f) (Some g) None h k j = λ l. j (subst FitsI128 (λ i. minus (sym h.1 i) (sym k.1 i)) l.2)
sub_form t u None g (Some r) h k j = absurd j
sub_form t u (Some f) None (Some r) h k j = absurd j
sub_form t u (Some f) (Some g) (Some r) h k j =
    let e : minus (linear f) (linear g) ≡ form_of (sub t u) = λ i. minus (h.1 i) (k.1 i) in
    ((h.0, k.0, subst FitsI128 e j.0), j.1 ∙ e)

pub difference_form : (t u : Trm) (f : Option Form) → IsTermForm (sub t u) f → IsDifference t u f
difference_form t u None h = h
difference_form t u (Some f) h = h

pub ruleset joining = (fits_term, add_form, sub_form, difference_form)

pub add_view : (t u : Term) → trm_of (T.Add t u) ≡ add (trm_of t) (trm_of u)
add_view t u = ap trm_of (sym (T.rolls-Add t u)) ∙ fold-roll-Term Trm term_step (Term-F.Add t u)

pub sub_view : (t u : Term) → trm_of (T.Sub t u) ≡ sub (trm_of t) (trm_of u)
sub_view t u = ap trm_of (sym (T.rolls-Sub t u)) ∙ fold-roll-Term Trm term_step (Term-F.Sub t u)
