-- A formula is read from the arguments of its head.
use Rattle.std.proofs.Common.{◌≡◌, subst, sym, Some, None, map, arith}
use Rattle.std.specs.Result.{IfOk, IfErr}
use Rattle.serde_json.specs.View.{view}
use Rattle.rel_logic.specs.View.{fml_of}
use Rattle.rel_proofio.specs.declared.fault.Unread.TheVariants.{Malformed}
use Rattle.rel_proofio.proofs.Reading.{fml_here}
use Rattle.rel_proofio.proofs.tree.+formula.Goals as goal

pub formula-returns-in-Some-of_word-clause-ok : goal.formula-returns-in-Some-of_word-clause-ok
formula-returns-in-Some-of_word-clause-ok t c =
    let here = fml_here c.args.depth (view c.args.value.now) c.in-Some.word.now (map view c.in-Some.arguments.now) c.in-Some-of_word.head (omega arith) c.in-Some.ensures c.in-Some-of_word.ensures in
    subst (λ o. IfOk c.formula_with.result (λ f. o ≡ Some (fml_of f))) (sym here) c.formula_with.ensures.ok

pub formula-returns-in-Some-of_word-clause-malformed : goal.formula-returns-in-Some-of_word-clause-malformed
formula-returns-in-Some-of_word-clause-malformed t c =
    let here = fml_here c.args.depth (view c.args.value.now) c.in-Some.word.now (map view c.in-Some.arguments.now) c.in-Some-of_word.head (omega arith) c.in-Some.ensures c.in-Some-of_word.ensures in
    subst (λ o. IfErr c.formula_with.result (λ e. e ≡ Malformed → o ≡ None)) (sym here) c.formula_with.ensures.malformed
