-- A term is read from the arguments of its head.
use Rattle.std.proofs.Common.{◌≡◌, subst, sym, Some, None, map, arith}
use Rattle.std.specs.Result.{IfOk, IfErr}
use Rattle.serde_json.specs.View.{view}
use Rattle.rel_logic.specs.View.{trm_of}
use Rattle.rel_proofio.specs.declared.fault.Unread.TheVariants.{Malformed}
use Rattle.rel_proofio.proofs.Reading.{term_here}
use Rattle.rel_proofio.proofs.tree.+term.Goals as goal

pub term-returns-in-Some-of_word-clause-ok : goal.term-returns-in-Some-of_word-clause-ok
term-returns-in-Some-of_word-clause-ok t c =
    let here = term_here c.args.depth (view c.args.value.now) c.in-Some.word.now (map view c.in-Some.arguments.now) c.in-Some-of_word.head (omega arith) c.in-Some.ensures c.in-Some-of_word.ensures in
    subst (λ o. IfOk c.term_with.result (λ a. o ≡ Some (trm_of a))) (sym here) c.term_with.ensures.ok

pub term-returns-in-Some-of_word-clause-malformed : goal.term-returns-in-Some-of_word-clause-malformed
term-returns-in-Some-of_word-clause-malformed t c =
    let here = term_here c.args.depth (view c.args.value.now) c.in-Some.word.now (map view c.in-Some.arguments.now) c.in-Some-of_word.head (omega arith) c.in-Some.ensures c.in-Some-of_word.ensures in
    subst (λ o. IfErr c.term_with.result (λ e. e ≡ Malformed → o ≡ None)) (sym here) c.term_with.ensures.malformed
