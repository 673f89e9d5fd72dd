-- A watch adds faults, and changes nothing else.
use Rattle.std.proofs.Common.{◌≢◌, ℕ, zero, suc, Bool, true, false, not, ◌||◌, if◌then◌else◌, Option, Some, None, List, map}
use Rattle.rel_list.specs.References.{Obj, Ref}
use Rattle.rel_lang.specs.Syntax.{Word, Command, At, Form, Skip, Assign, Load, Store, New, Call, If, While, Block, End, Then}
use Rattle.rel_lang.specs.State.{Value, as_reference, State, find_variable, read_variable}
use Rattle.rel_lang.specs.Truth.{holds}
use Rattle.rel_lang.specs.Value.{value_of}
use Rattle.rel_lang.specs.Run.{Picks, Outcome, Done, Fault, Out, Callee, unwatched, Program, find_callee, Code, code_of, begin, called, touch, call, step, step_command, steps, run_of}
use Rattle.rel_lang.specs.Laws.{WatchesOnlyAddFaults}
use Rattle.rel_lang.proofs.Keeps.{Keeps, same_keeps, lost_keeps, keeps_and_then, keeps_if}

done_is_safe : (s : State) (k : Picks) → Done s k ≢ Fault
done_is_safe s k e = cc

-- what one watch may forbid, and the other doesn't
allowed : (w may : Bool) (a b : Outcome) → Keeps Fault a b → Keeps Fault (if not w || may then a else Fault) (if not w || true then b else Fault)
allowed true true a b h = h
allowed true false a b h = lost_keeps Fault b
allowed false may a b h = h

abbrev free_of : Program → Program
free_of p = record p { watch = unwatched }

module _ (p : Program) (less more : Code → Block → State → Picks → Outcome) (h : (c : Code) (b : Block) (s : State) (k : Picks) → Keeps Fault (less c b s k) (more c b s k)) where
  keeps_touch : (c : Code) (r : Ref) (f : Word) (s : State) (next : Obj → Outcome) → Keeps Fault (touch p less c r f s next) (touch (free_of p) more c r f s next)
  keeps_touch c None f s next = same_keeps Fault Fault
  keeps_touch c (Some o) f s next = allowed c.is_watched (p.watch.may_touch s o f) (next o) (next o) (same_keeps Fault (next o))

  keeps_call : (c : Code) (q : Option Callee) (x : Word) (vs : List Value) (s : State) (k : Picks) → Keeps Fault (call p less c q x vs s k) (call (free_of p) more c q x vs s k)
  keeps_call c None x vs s k = same_keeps Fault Fault
  keeps_call c (Some q) x vs s k =
      allowed c.is_watched (p.watch.may_call q (called q.setting vs s)) _ _
      (keeps_and_then Fault _ _ _ _ done_is_safe (h (code_of q.setting q.is_watched) q.commands (begin q.setting (called q.setting vs s)) k) (λ t j. same_keeps Fault _))

  mutual
    keeps_step : (c : Code) (f : Form) (s : State) (k : Picks) → Keeps Fault (step p less c f s k) (step (free_of p) more c f s k)
    keeps_step c Skip s k = same_keeps Fault _
    keeps_step c (Assign x e) s k = same_keeps Fault _
    keeps_step c (Load x y f) s k = keeps_touch c (as_reference (read_variable (find_variable y c.scope) s)) f s _
    keeps_step c (Store y f e) s k = keeps_touch c (as_reference (read_variable (find_variable y c.scope) s)) f s _
    keeps_step c (New x d) s k = same_keeps Fault _
    keeps_step c (Call x q es) s k = keeps_call c (find_callee q p.callees) x (map (λ e. value_of p.tables c.scope e s s) es) s k
    keeps_step c (If t a b) s k = keeps_if Fault (holds p.tables c.scope t s s) _ _ _ _ (keeps_steps c a s k) (keeps_steps c b s k)
    keeps_step c (While t i b) s k =
        keeps_if Fault (holds p.tables c.scope t s s) _ _ _ _
        (keeps_and_then Fault _ _ _ _ done_is_safe (h c b s k) (h c (Then (At 0 (While t i b)) End))) (same_keeps Fault _)

    keeps_command : (c : Code) (d : Command) (s : State) (k : Picks) → Keeps Fault (step_command p less c d s k) (step_command (free_of p) more c d s k)
    keeps_command c (At at f) s k = keeps_step c f s k

    keeps_steps : (c : Code) (b : Block) (s : State) (k : Picks) → Keeps Fault (steps p less c b s k) (steps (free_of p) more c b s k)
    keeps_steps c End s k = same_keeps Fault _
    keeps_steps c (Then d ds) s k = keeps_and_then Fault _ _ _ _ done_is_safe (keeps_command c d s k) (keeps_steps c ds)

abbrev never : Code → Block → State → Picks → Outcome
never c b s k = Out

keeps_run : (p : Program) (n : ℕ) (c : Code) (b : Block) (s : State) (k : Picks) → Keeps Fault (run_of p n c b s k) (run_of (free_of p) n c b s k)
keeps_run p zero = keeps_steps p never never (λ c b s k. same_keeps Fault Out)
keeps_run p (suc n) = keeps_steps p (run_of p n) (run_of (free_of p) n) (keeps_run p n)

pub watches : WatchesOnlyAddFaults
watches p n c b s k = keeps_run p n c b s k
