-- A step moves a stack in one way at most, so one verdict at most fits.
use Rattle.std.proofs.Common.{◌≡◌, ◌↔◌, ℕ, zero, suc, ◌<◌, List, [], ◌∷◌, ◌++◌, map, take, length, slice_get, Some, refl, sym, ap, subst, subst₂, ◌∙◌, take_all, arith}
use Rattle.std.proofs.lemmas.Option.{slice_get_within}
use Rattle.rel_logic.specs.Syntax.{Fml, eq, lt, no, Sqt, Nod}
use Rattle.rel_straight.specs.declared.step.Step.{Step}
use Rattle.rel_straight.specs.declared.step.Step.TheVariants.{Neint, Farkas}
use Rattle.rel_straight.specs.declared.checker.Verdict.{Verdict}
use Rattle.rel_straight.specs.declared.checker.Verdict.TheVariants.{Accepted, BadStep, OpenNodes}
use Rattle.rel_straight.specs.Rules.{SplitsAt, GoodStep, child, Moves, Runs, first_stack, IsAccepted}
use Rattle.rel_straight.specs.Stack.{IsStuck, IsBadStep, LeavesOpen, IsVerdict}

same_split : (n : Nod) (i : ℕ) (cs ds : List (List Fml)) → SplitsAt n i cs → SplitsAt n i ds → cs ≡ ds
same_split n i cs ds p q =
    let e : Some (no (eq p.left p.right)) ≡ Some (no (eq q.left q.right)) = sym p.formula ∙ q.formula in
    let left : p.left ≡ q.left = cc in
    let right : p.right ≡ q.right = cc in
    p.added ∙ (λ j. (lt (left j) (right j) ∷ []) ∷ (lt (right j) (left j) ∷ []) ∷ []) ∙ sym q.added

same_children : (n : Nod) (s : Step) (cs ds : List (List Fml)) → GoodStep n s cs → GoodStep n s ds → cs ≡ ds
same_children n (Neint i) cs ds p q = same_split n i cs ds p q
same_children n (Farkas ps) cs ds p q = p.1 ∙ sym q.1

same_move : (a : List Nod) (s : Step) (b c : List Nod) → Moves a s b → Moves a s c → b ≡ c
same_move [] s b c m k = absurd m
same_move (n ∷ below) s b c m k = m.2 ∙ ap (λ cs. map (child n) cs ++ below) (same_children n s m.0 k.0 m.1 k.1) ∙ sym k.2

same_run : (steps : List Step) (a b c : List Nod) → Runs a steps b → Runs a steps c → b ≡ c
same_run [] a b c r k = sym r ∙ k
same_run (s ∷ steps) a b c r k = same_run steps r.0 b c r.2 (subst (λ x. Runs x steps c) (same_move a s k.0 r.0 k.1 r.1) k.2)

-- no run goes past a step that is stuck
past_stuck : (steps : List Step) (k m : ℕ) (a b c : List Nod) (s : Step) → Runs a (take k steps) b → slice_get steps k ≡ Some s → IsStuck b s → k < m → ¬ (Runs a (take m steps) c)
past_stuck [] k m a b c s r e stuck h run = cc
past_stuck (x ∷ steps) k zero a b c s r e stuck h run = absurd (omega (arith, h))
past_stuck (x ∷ steps) zero (suc m) a b c s r e stuck h run =
    let same : x ≡ s = cc in
    subst₂ IsStuck (sym r) (sym same) stuck run.0 run.1
past_stuck (x ∷ steps) (suc k) (suc m) a b c s r e stuck h run =
    let next = same_move a x run.0 r.0 run.1 r.1 in
    past_stuck steps k m r.0 b c s r.2 e stuck (omega (arith, h)) (subst (λ n. Runs n (take m steps) c) next run.2)

bad_ends : (q : Sqt) (steps : List Step) (k m : ℕ) → IsBadStep q steps k → k < m → (c : List Nod) → ¬ (Runs (first_stack q) (take m steps) c)
bad_ends q steps k m b h c = past_stuck steps k m (first_stack q) b.stack c b.step b.before b.number b.bad h

bad_has_no_run : (q : Sqt) (steps : List Step) (k : ℕ) → IsBadStep q steps k → (c : List Nod) → ¬ (Runs (first_stack q) steps c)
bad_has_no_run q steps k b c =
    subst (λ all. ¬ (Runs (first_stack q) all c)) (take_all (length steps) steps (omega arith))
    (bad_ends q steps k (length steps) b (slice_get_within steps k b.step b.number) c)

same_number : (q : Sqt) (steps : List Step) (j k : ℕ) → IsBadStep q steps j → IsBadStep q steps k → j ≡ k
same_number q steps j k a b =
    let first : j < k → ⊥ = λ h. bad_ends q steps j k a h b.stack b.before in
    let second : k < j → ⊥ = λ h. bad_ends q steps k j b h a.stack a.before in
    omega (arith, first, second)

open_is_not_accepted : (q : Sqt) (steps : List Step) (n : ℕ) → LeavesOpen q steps n → ¬ (IsAccepted q steps)
open_is_not_accepted q steps n o accepted =
    let none : length o.stack ≡ 0 = ap length (same_run steps (first_stack q) o.stack [] o.run accepted) in
    let some = o.some_open in
    let count = o.open_nodes in
    absurd (omega (arith, none, some, count))

same_count : (q : Sqt) (steps : List Step) (m n : ℕ) → LeavesOpen q steps m → LeavesOpen q steps n → m ≡ n
same_count q steps m n o p = sym o.open_nodes ∙ ap length (same_run steps (first_stack q) o.stack p.stack o.run p.run) ∙ p.open_nodes

pub verdict_is_exact : (q : Sqt) (steps : List Step) (v : Verdict) → IsVerdict q steps v → (v ≡ Accepted) ↔ IsAccepted q steps
verdict_is_exact q steps Accepted h = (λ e. h.0, λ a. refl)
verdict_is_exact q steps (BadStep k) h = (λ e. cc, λ a. absurd (bad_has_no_run q steps k h [] a))
verdict_is_exact q steps (OpenNodes n) h = (λ e. cc, λ a. absurd (open_is_not_accepted q steps n h a))

pub verdict_is_only : (q : Sqt) (steps : List Step) (v : Verdict) → IsVerdict q steps v → (w : Verdict) → IsVerdict q steps w → w ≡ v
verdict_is_only q steps Accepted h Accepted g = refl
verdict_is_only q steps Accepted h (BadStep j) g = absurd (bad_has_no_run q steps j g [] h.0)
verdict_is_only q steps Accepted h (OpenNodes n) g = absurd (open_is_not_accepted q steps n g h.0)
verdict_is_only q steps (BadStep k) h Accepted g = absurd (bad_has_no_run q steps k h [] g.0)
verdict_is_only q steps (BadStep k) h (BadStep j) g = ap BadStep (same_number q steps j k g h)
verdict_is_only q steps (BadStep k) h (OpenNodes n) g = absurd (bad_has_no_run q steps k h g.stack g.run)
verdict_is_only q steps (OpenNodes m) h Accepted g = absurd (open_is_not_accepted q steps m h g.0)
verdict_is_only q steps (OpenNodes m) h (BadStep j) g = absurd (bad_has_no_run q steps j g h.stack h.run)
verdict_is_only q steps (OpenNodes m) h (OpenNodes n) g = ap OpenNodes (same_count q steps n m g h)
