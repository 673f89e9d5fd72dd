use Rattle.std.proofs.Common.{◌≡◌, [], length, take, refl, subst, ◌∙◌, take_all, arith}
use Rattle.std.proofs.lemmas.Option.{slice_get_read}
use Rattle.rel_logic.specs.View.{sequent_of}
use Rattle.rel_straight.specs.Rules.{Runs, first_stack, IsAccepted}
use Rattle.rel_straight.specs.Stack.{stack_of}
use Rattle.rel_straight.proofs.Sound.{valid_from_accepted}
use Rattle.rel_straight.proofs.Stacks.{runs_next}
use Rattle.rel_straight.proofs.checker.verdict_of.Goals as goal

pub loop-number-preserved : goal.loop-number-preserved
loop-number-preserved c =
    let items = c.as_slice-items.result.now in
    let k = c.loop-number.number in
    let step = c.index-items-number.result in
    runs_next items k (first_stack (sequent_of c.args.sequent.now)) (stack_of c.loop-number.checker) (stack_of c.step.new.self) step
    (slice_get_read items (length items) k step refl c.loop-number-test.true c.index-items-number.is) c.loop-number.invariant c.in-Ok.ensures

pub returns-then-is_done : goal.returns-then-is_done
returns-then-is_done c =
    let q = sequent_of c.args.sequent.now in
    let items = c.as_slice-items.result.now in
    let all : take c.loop-number.number items ≡ c.args.steps.now = take_all c.loop-number.number items (omega arith) ∙ c.as_slice-items.ensures in
    let done : stack_of c.loop-number.checker ≡ [] = c.is_done.ensures.0 c.if-is_done.true in
    let accepted : IsAccepted q c.args.steps.now =
    subst (λ s. Runs (first_stack q) c.args.steps.now s) done (subst (λ steps. Runs (first_stack q) steps (stack_of c.loop-number.checker)) all c.loop-number.invariant) in
    (accepted, valid_from_accepted q c.args.steps.now accepted)
