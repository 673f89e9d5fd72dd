use Rattle.std.proofs.Common.{◌≡◌, length, map, slice_get, Some, option_map, refl, ap, subst, ◌∙◌, arith}
use Rattle.std.proofs.lemmas.Option.{slice_get-map, slice_get_read}
use Rattle.rel_logic.specs.View.{sequent_of}
use Rattle.rules_table.specs.View.{step_of}
use Rattle.rel_derive.specs.Rules.{Runs, first_stack}
use Rattle.rel_derive.specs.Outcomes.{IsBadStep}
use Rattle.rel_derive.specs.Stack.{stack_of}
use Rattle.rel_derive.proofs.Exact.{is_stuck, run_on, all_run}
use Rattle.rel_derive.proofs.verdict.run_steps.Goals as goal

pub loop-number-preserved : goal.loop-number-preserved
loop-number-preserved c =
    let items = c.as_slice-items.result.now in
    let k = c.loop-number.number in
    let step = c.index-items-number.result in
    let here = slice_get_read items (length items) k step refl c.loop-number-test.true c.index-items-number.is in
    let named : slice_get (map step_of items) k ≡ Some (step_of step) = slice_get-map step_of items k ∙ ap (option_map step_of) here in
    run_on (map step_of items) k (first_stack (sequent_of c.args.sequent)) (stack_of c.loop-number.checker) (stack_of c.step.new.self) (step_of step) named
    c.loop-number.invariant c.in-Ok.ensures.0 c.in-Ok.ensures.1

pub returns-in-Err-Bad : goal.returns-in-Err-Bad
returns-in-Err-Bad c =
    let items = c.as_slice-items.result.now in
    let k = c.loop-number.number in
    let step = c.index-items-number.result in
    let here = slice_get_read items (length items) k step refl c.loop-number-test.true c.index-items-number.is in
    let named : slice_get (map step_of items) k ≡ Some (step_of step) = slice_get-map step_of items k ∙ ap (option_map step_of) here in
    subst (λ xs. IsBadStep (sequent_of c.args.sequent) (map step_of xs) k) c.as_slice-items.ensures
    (record { stack = stack_of c.loop-number.checker; step = step_of step; before = c.loop-number.invariant; number = named; bad = is_stuck _ _ _ _ c.in-Err-Bad.field-0-is c.in-Err-Bad.ensures })

pub returns-then-is_done : goal.returns-then-is_done
returns-then-is_done c =
    subst (Runs (first_stack (sequent_of c.args.sequent)) (map step_of c.args.steps.now)) (c.is_done.ensures.0 c.if-is_done.true) (all_run _ _ _ _ _ c.as_slice-items.ensures (omega arith) c.loop-number.invariant)
