use Rattle.std.proofs.Common.{Some, IfOk, sym, subst}
use Rattle.std.proofs.lemmas.Result.{IfOk-weaker}
use Rattle.rules_int.specs.Forms.{parts_at}
use Rattle.rules_int.specs.Made.{IsJoinOf}
use Rattle.rules_int.proofs.Joins.{both_joined}
use Rattle.rules_int.proofs.forms.joined.Goals as goal

pub returns-in-Some-Some : goal.returns-in-Some-Some
returns-in-Some-Some g c =
    subst (λ a. IfOk c.joined_forms.result (IsJoinOf g.N.Numbers.at parts_at c.args.how a c.args.c)) (sym c.in-Some-Some.is-0)
    (subst (λ d. IfOk c.joined_forms.result (IsJoinOf g.N.Numbers.at parts_at c.args.how (Some c.in-Some-Some.a) d)) (sym c.in-Some-Some.is-1)
    (IfOk-weaker c.joined_forms.result _ _ (λ r. both_joined g.N.Numbers.at parts_at c.args.how c.in-Some-Some.a c.in-Some-Some.c r) c.joined_forms.ensures))
