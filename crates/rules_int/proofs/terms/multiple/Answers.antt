use Rattle.std.proofs.Common.{SFits, to_z-of_z}
use Rattle.std.specs.Int.{w128}
use Rattle.std.proofs.lemmas.Result.{IfOk-weaker}
use Rattle.rules_int.proofs.TermForms.{times_form}
use Rattle.rules_int.proofs.terms.multiple.Goals as goal

pub returns : goal.returns
returns c =
    let k : SFits w128 c.args.k = c.ranges.k in
    IfOk-weaker c.joined.result _ _ (λ r. times_form c.args.k c.number_form.result c.args.form r c.number_form.ensures) (simp to_z-of_z at c.joined.ensures)
