-- Each step joins the last formula to the conjunction of those behind it.
use Rattle.std.proofs.Common.{length, map, option_to_list, ap, sym, ◌∙◌, arith}
use Rattle.rel_logic.specs.View.{fml_of}
use Rattle.rel_encode.specs.Formulas.{conj}
use Rattle.rel_encode.proofs.Joins.{onto, nothing_joined, joined_popped}
use Rattle.rel_encode.proofs.builders.conj.Goals as goal
use Rattle.rel_encode.proofs.builders.conj.Goals.{in-Some+in_ok-all, in_default}

pub loop-init : goal.loop-init
loop-init c = record {
  whole = nothing_joined c.formulas.inside.items.items ∙ ap (λ l. conj (map fml_of l)) c.formulas.view_is;
  left = omega (arith, c.len-end.ensures, ap length c.formulas.view_is);
}

pub loop-preserved : goal.loop-preserved
loop-preserved c =
    elim c.match-pop.branch [
      | in-Some+in_ok-all w ↦ record {
        whole = joined_popped c.loop.formulas-inside.items.items c.pop.new.self.items w.in-Some.f c.pop.result (fml_of c.match-pop.all) (fml_of c.loop.all)
            c.pop.ensures.items (sym w.in-Some.is) (ap fml_of w.all-is ∙ w.in_ok-all.ensures) ∙ c.loop.invariant.whole;
        left = omega (arith, c.loop.invariant.left, ap length c.pop.ensures.items, c.pop.ensures.len, ap (λ o. length (option_to_list o)) w.in-Some.is);
      }
      | in_default w ↦ absurd (omega (arith, c.loop.invariant.left, w.in_default.ensures.cases.0, c.loop.formulas-inside.items.ok.0))
    ]
