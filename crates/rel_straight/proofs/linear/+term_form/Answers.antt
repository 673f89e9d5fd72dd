use Rattle.std.proofs.Common.{◌≡◌, IfOk, sym, ap, ◌∙◌, subst}
use Rattle.rel_logic.specs.Syntax.{add, sub}
use Rattle.std.proofs.lemmas.Result.{IfOk-weaker}
use Rattle.rel_logic.specs.View.{trm_of}
use Rattle.rel_straight.specs.declared.linear.Change.TheVariants.{Add, Subtract}
use Rattle.rel_straight.specs.Forms.{IsTermForm, IsJoined}
use Rattle.rel_straight.proofs.TermForms.{fits_term, add_form, sub_form, add_view, sub_view}
use Rattle.rel_straight.proofs.linear.+term_form.Goals as goal

pub term_form-joined-requires : goal.term_form-joined-requires
term_form-joined-requires t c = fits_term (trm_of c.in-Add.a) c.in_ok-boxed_form-in-Add.field-0 c.in_ok-boxed_form-in-Add.ensures

pub term_form-joined-requires-in-Sub : goal.term_form-joined-requires-in-Sub
term_form-joined-requires-in-Sub t c = fits_term (trm_of c.in-Sub.a) c.in_ok-boxed_form-in-Sub.field-0 c.in_ok-boxed_form-in-Sub.ensures

pub term_form-returns-in_ok-boxed_form-in-Add-2 : goal.term_form-returns-in_ok-boxed_form-in-Add-2
term_form-returns-in_ok-boxed_form-in-Add-2 t c =
    let f = c.in_ok-boxed_form-in-Add.field-0 in
    let g = c.in_ok-boxed_form-in-Add-2.field-0 in
    let e : trm_of c.args.t.now ≡ add (trm_of c.in-Add.a) (trm_of c.in-Add.b) = ap trm_of c.in-Add.is ∙ add_view c.in-Add.a c.in-Add.b in
    subst (λ s. IfOk c.joined.result (λ r. IsTermForm s r)) (sym e)
    (IfOk-weaker c.joined.result (IsJoined Add f g) _ (λ r. add_form (trm_of c.in-Add.a) (trm_of c.in-Add.b) f g r c.in_ok-boxed_form-in-Add.ensures c.in_ok-boxed_form-in-Add-2.ensures) c.joined.ensures)

pub term_form-returns-in_ok-boxed_form-in-Sub-2 : goal.term_form-returns-in_ok-boxed_form-in-Sub-2
term_form-returns-in_ok-boxed_form-in-Sub-2 t c =
    let f = c.in_ok-boxed_form-in-Sub.field-0 in
    let g = c.in_ok-boxed_form-in-Sub-2.field-0 in
    let e : trm_of c.args.t.now ≡ sub (trm_of c.in-Sub.a) (trm_of c.in-Sub.b) = ap trm_of c.in-Sub.is ∙ sub_view c.in-Sub.a c.in-Sub.b in
    subst (λ s. IfOk c.joined-in-Sub.result (λ r. IsTermForm s r)) (sym e)
    (IfOk-weaker c.joined-in-Sub.result (IsJoined Subtract f g) _ (λ r. sub_form (trm_of c.in-Sub.a) (trm_of c.in-Sub.b) f g r c.in_ok-boxed_form-in-Sub.ensures c.in_ok-boxed_form-in-Sub-2.ensures) c.joined-in-Sub.ensures)
