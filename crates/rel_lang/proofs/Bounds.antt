-- An outcome other than out is the outcome at every greater bound too.
use Rattle.std.proofs.Common.{◌≢◌, ℕ, zero, suc, ◌≤◌, arith, Option, Some, None, List, map}
use Rattle.rel_lang.specs.Syntax.{Word, Command, At, Form, Skip, Assign, Load, Store, New, Call, If, While, Block, End, Then}
use Rattle.rel_lang.specs.State.{Value, State}
use Rattle.rel_lang.specs.Truth.{holds}
use Rattle.rel_lang.specs.Value.{value_of}
use Rattle.rel_lang.specs.Run.{Picks, Outcome, Done, Fault, Out, Callee, Program, find_callee, Code, code_of, begin, called, call, step, step_command, steps, run_of}
use Rattle.rel_lang.specs.Laws.{GreaterBoundsKeepOutcomes}
use Rattle.rel_lang.proofs.Keeps.{Keeps, same_keeps, lost_keeps, keeps_and_then, keeps_if}

done_in_time : (s : State) (k : Picks) → Done s k ≢ Out
done_in_time s k e = cc

module _ (p : Program) (less more : Code → Block → State → Picks → Outcome) (h : (c : Code) (b : Block) (s : State) (k : Picks) → Keeps Out (less c b s k) (more c b s k)) where
  keeps_call : (c : Code) (q : Option Callee) (x : Word) (vs : List Value) (s : State) (k : Picks) → Keeps Out (call p less c q x vs s k) (call p more c q x vs s k)
  keeps_call c None x vs s k = same_keeps Out Fault
  keeps_call c (Some q) x vs s k =
      keeps_if Out _ _ _ _ _
      (keeps_and_then Out _ _ _ _ done_in_time (h (code_of q.setting q.is_watched) q.commands (begin q.setting (called q.setting vs s)) k) (λ t j. same_keeps Out _))
      (same_keeps Out Fault)

  mutual
    keeps_step : (c : Code) (f : Form) (s : State) (k : Picks) → Keeps Out (step p less c f s k) (step p more c f s k)
    keeps_step c Skip s k = same_keeps Out _
    keeps_step c (Assign x e) s k = same_keeps Out _
    keeps_step c (Load x y f) s k = same_keeps Out _
    keeps_step c (Store y f e) s k = same_keeps Out _
    keeps_step c (New x d) s k = same_keeps Out _
    keeps_step c (Call x q es) s k = keeps_call c (find_callee q p.callees) x (map (λ e. value_of p.tables c.scope e s s) es) s k
    keeps_step c (If t a b) s k = keeps_if Out (holds p.tables c.scope t s s) _ _ _ _ (keeps_steps c a s k) (keeps_steps c b s k)
    keeps_step c (While t i b) s k =
        keeps_if Out (holds p.tables c.scope t s s) _ _ _ _
        (keeps_and_then Out _ _ _ _ done_in_time (h c b s k) (h c (Then (At 0 (While t i b)) End))) (same_keeps Out _)

    keeps_command : (c : Code) (d : Command) (s : State) (k : Picks) → Keeps Out (step_command p less c d s k) (step_command p more c d s k)
    keeps_command c (At at f) s k = keeps_step c f s k

    keeps_steps : (c : Code) (b : Block) (s : State) (k : Picks) → Keeps Out (steps p less c b s k) (steps p more c b s k)
    keeps_steps c End s k = same_keeps Out _
    keeps_steps c (Then d ds) s k = keeps_and_then Out _ _ _ _ done_in_time (keeps_command c d s k) (keeps_steps c ds)

abbrev never : Code → Block → State → Picks → Outcome
never c b s k = Out

keeps_run : (p : Program) (n m : ℕ) → n ≤ m → (c : Code) (b : Block) (s : State) (k : Picks) → Keeps Out (run_of p n c b s k) (run_of p m c b s k)
keeps_run p zero zero e = keeps_steps p never never (λ c b s k. lost_keeps Out Out)
keeps_run p zero (suc m) e = keeps_steps p never (run_of p m) (λ c b s k. lost_keeps Out _)
keeps_run p (suc n) zero e = absurd (omega arith)
keeps_run p (suc n) (suc m) e = keeps_steps p (run_of p n) (run_of p m) (keeps_run p n m (omega arith))

pub greater_bounds : GreaterBoundsKeepOutcomes
greater_bounds p n m c b s k e = keeps_run p n m e c b s k
