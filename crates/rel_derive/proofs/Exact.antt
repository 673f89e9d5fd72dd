-- A step moves a stack in one way at most, so a list of steps has one outcome at most.
use Rattle.std.proofs.Common.{◌≡◌, ℕ, zero, suc, ◌+◌, ◌<◌, ◌≤◌, List, [], ◌∷◌, ◌++◌, map, take, length, slice_get, Some, Err, refl, sym, ap, subst, subst₂, ◌∙◌, take_all, arith}
use Rattle.std.specs.List.{AllByRecursion}
use Rattle.std.proofs.lemmas.List.{length-map}
use Rattle.std.proofs.lemmas.Option.{slice_get_within}
use Rattle.rel_logic.specs.Syntax.{Sqt, Nod}
use Rattle.rel_logic.specs.Truth.{IsValid}
use Rattle.rules_table.specs.Nodes.{Stp, child, kids, IsSound}
use Rattle.rules_table.specs.View.{step_of}
use Rattle.rules_table.specs.declared.step.Step.{Step}
use Rattle.rel_derive.specs.declared.verdict.Outcome.{Outcome}
use Rattle.rel_derive.specs.declared.verdict.Outcome.TheVariants.{Accepted, BadStep, OpenNodes}
use Rattle.rel_derive.specs.Rules.{GoodStep, Moves, HasRoom, Runs, first_node, first_stack, IsAccepted}
use Rattle.rel_derive.specs.Answers.{IsStuck, IsStepAnswer}
use Rattle.rel_derive.specs.declared.checker.StepFault.{StepFault}
use Rattle.rel_derive.specs.declared.checker.StepFault.TheVariants as Fault
use Rattle.rel_derive.specs.Outcomes.{IsBadStep, LeavesOpen, IsOutcome}
use Rattle.rel_derive.proofs.Sound.{accepted_sequents}

same_children : (n : Nod) (s : Stp) (cs ds : List Nod) → GoodStep n s cs → GoodStep n s ds → cs ≡ ds
same_children n s cs ds p q =
    let e : kids p.0 ≡ kids q.0 = sym p.1 ∙ q.1 in
    let same : p.0 ≡ q.0 = cc in
    p.2 ∙ (ap (map (child n)) same ∙ sym q.2)

same_move : (a : List Nod) (s : Stp) (b c : List Nod) → Moves a s b → Moves a s c → b ≡ c
same_move [] s b c m k = absurd m
same_move (n ∷ below) s b c m k = m.2 ∙ ap (λ cs. cs ++ below) (same_children n s m.0 k.0 m.1 k.1) ∙ sym k.2

same_run : (steps : List Stp) (a b c : List Nod) → Runs a steps b → Runs a steps c → b ≡ c
same_run [] a b c r k = sym r ∙ k
same_run (s ∷ steps) a b c r k = same_run steps r.0 b c r.3 (subst (λ x. Runs x steps c) (same_move a s k.0 r.0 k.1 r.1) k.3)

-- no run goes past a step that is stuck
past_stuck : (steps : List Stp) (k m : ℕ) (a b c : List Nod) (s : Stp) → Runs a (take k steps) b → slice_get steps k ≡ Some s → IsStuck b s → k < m → ¬ (Runs a (take m steps) c)
past_stuck [] k m a b c s r e stuck h run = cc
past_stuck (x ∷ steps) k zero a b c s r e stuck h run = absurd (omega (arith, h))
past_stuck (x ∷ steps) zero (suc m) a b c s r e stuck h run =
    let same : x ≡ s = cc in
    subst₂ IsStuck (sym r) (sym same) stuck run.0 run.1
past_stuck (x ∷ steps) (suc k) (suc m) a b c s r e stuck h run =
    let next = same_move a x run.0 r.0 run.1 r.1 in
    past_stuck steps k m r.0 b c s r.3 e stuck (omega (arith, h)) (subst (λ n. Runs n (take m steps) c) next run.3)

bad_ends : (q : Sqt) (steps : List Stp) (k m : ℕ) → IsBadStep q steps k → k < m → (c : List Nod) → ¬ (Runs (first_stack q) (take m steps) c)
bad_ends q steps k m b h c = past_stuck steps k m (first_stack q) b.stack c b.step b.before b.number b.bad h

bad_has_no_run : (q : Sqt) (steps : List Stp) (k : ℕ) → IsBadStep q steps k → (c : List Nod) → ¬ (Runs (first_stack q) steps c)
bad_has_no_run q steps k b c =
    subst (λ all. ¬ (Runs (first_stack q) all c)) (take_all (length steps) steps (omega arith))
    (bad_ends q steps k (length steps) b (slice_get_within steps k b.step b.number) c)

same_number : (q : Sqt) (steps : List Stp) (j k : ℕ) → IsBadStep q steps j → IsBadStep q steps k → j ≡ k
same_number q steps j k a b =
    let first : j < k → ⊥ = λ h. bad_ends q steps j k a h b.stack b.before in
    let second : k < j → ⊥ = λ h. bad_ends q steps k j b h a.stack a.before in
    omega (arith, first, second)

open_is_not_accepted : (q : Sqt) (steps : List Stp) (n : ℕ) → LeavesOpen q steps n → ¬ (IsAccepted q steps)
open_is_not_accepted q steps n o accepted =
    let none : length o.stack ≡ 0 = ap length (same_run steps (first_stack q) o.stack [] o.run accepted) in
    let some = o.some_open in
    let count = o.open_nodes in
    absurd (omega (arith, none, some, count))

same_count : (q : Sqt) (steps : List Stp) (m n : ℕ) → LeavesOpen q steps m → LeavesOpen q steps n → m ≡ n
same_count q steps m n a b = sym a.open_nodes ∙ ap length (same_run steps (first_stack q) a.stack b.stack a.run b.run) ∙ b.open_nodes

pub outcome_is_only : (q : Sqt) (steps : List Stp) (o : Outcome) → IsOutcome q steps o → (p : Outcome) → IsOutcome q steps p → p ≡ o
outcome_is_only q steps Accepted h Accepted g = refl
outcome_is_only q steps Accepted h (BadStep j) g = absurd (bad_has_no_run q steps j g [] h)
outcome_is_only q steps Accepted h (OpenNodes n) g = absurd (open_is_not_accepted q steps n g h)
outcome_is_only q steps (BadStep k) h Accepted g = absurd (bad_has_no_run q steps k h [] g)
outcome_is_only q steps (BadStep k) h (BadStep j) g = ap BadStep (same_number q steps j k g h)
outcome_is_only q steps (BadStep k) h (OpenNodes n) g = absurd (bad_has_no_run q steps k h g.stack g.run)
outcome_is_only q steps (OpenNodes m) h Accepted g = absurd (open_is_not_accepted q steps m h g)
outcome_is_only q steps (OpenNodes m) h (BadStep j) g = absurd (bad_has_no_run q steps j g h.stack h.run)
outcome_is_only q steps (OpenNodes m) h (OpenNodes n) g = ap OpenNodes (same_count q steps n m g h)

pub outcome_is_valid : (q : Sqt) (steps : List Stp) (o : Outcome) → IsSound (first_node q) → IsOutcome q steps o → o ≡ Accepted → IsValid q
outcome_is_valid q steps o sound h e = accepted_sequents q steps sound (subst (IsOutcome q steps) e h)

-- ---- a run that goes on

run_step : (steps : List Stp) (a b c : List Nod) (s : Stp) → Runs a steps b → Moves b s c → AllByRecursion HasRoom c → Runs a (steps ++ s ∷ []) c
run_step [] a b c s r m room = (c, subst (λ x. Moves x s c) (sym r) m, room, refl)
run_step (x ∷ steps) a b c s r m room = (r.0, r.1, r.2, run_step steps r.0 b c s r.3 m room)

take_next : (steps : List Stp) (k : ℕ) (s : Stp) → slice_get steps k ≡ Some s → take (suc k) steps ≡ take k steps ++ s ∷ []
take_next [] k s e = cc
take_next (x ∷ steps) zero s e = let same : x ≡ s = cc in ap (λ y. y ∷ []) same
take_next (x ∷ steps) (suc k) s e = ap (λ ys. x ∷ ys) (take_next steps k s e)

pub run_on : (steps : List Stp) (k : ℕ) (a b c : List Nod) (s : Stp) → slice_get steps k ≡ Some s → Runs a (take k steps) b → Moves b s c → AllByRecursion HasRoom c → Runs a (take (k + 1) steps) c
run_on steps k a b c s e r m room =
    let next : suc k ≡ k + 1 = omega arith in
    subst (λ j. Runs a (take j steps) c) next (subst (λ ys. Runs a ys c) (sym (take_next steps k s e)) (run_step (take k steps) a b c s r m room))

-- a run along all steps
pub all_run : (items all : List Step) (k : ℕ) (a b : List Nod) → items ≡ all → length items ≤ k → Runs a (take k (map step_of items)) b → Runs a (map step_of all) b
all_run items all k a b same past r =
    let whole : take k (map step_of items) ≡ map step_of items = take_all k (map step_of items) (let long = length-map items step_of in omega (arith, past, long)) in
    subst (λ ss. Runs a ss b) (whole ∙ ap (map step_of) same) r

pub is_stuck : (before after : List Nod) (s : Stp) (f : StepFault) → f ≡ Fault.Bad → IsStepAnswer {U = Unit {0}} before s (Err f) after → IsStuck before s
is_stuck before after s f bad h = let answer : IsStepAnswer {U = Unit {0}} before s (Err Fault.Bad) after = subst (λ e. IsStepAnswer {U = Unit {0}} before s (Err e) after) bad h in answer.1
