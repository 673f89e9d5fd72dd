-- The bounded run of a block of commands.
use Rattle.std.specs.Prelude.{ℕ, zero, suc, pos, Bool, true, false, not, ◌&&◌, ◌||◌, ◌==◌, if◌then◌else◌, List, [], ◌∷◌, map, Option, Some, None}
use Rattle.rel_list.specs.References.{Obj, Ref, is_in}
use Rattle.rel_lang.specs.Syntax.{Word, Decl, Command, At, Form, Skip, Assign, Load, Store, New, Call, If, While, Block, End, Then, UnitItem}
use Rattle.rel_lang.specs.State.{Tables, class_number, Value, Number, Reference, as_reference, ByCall, same_owner, State, Scope, find_named, find_variable, read_variable, set_variable, write_variable, with_defaults, write_field, with_object}
use Rattle.rel_lang.specs.Scope.{Setting, own_variables, body_scope, result_name, unit_setting}
use Rattle.rel_lang.specs.Value.{value_of}
use Rattle.rel_lang.specs.Truth.{holds}

-- ---- how a run ends

-- the references that `new` takes, in order
abbrev pub Picks : Type 0
Picks = List Ref

pub data Outcome : Type 0 where
  -- with the picks that are left
  Done : State → Picks → Outcome
  Fault : Outcome
  -- the bound was too low
  Out : Outcome
  -- the next pick can't be taken
  NoPick : Outcome

abbrev pub and_then : Outcome → (State → Picks → Outcome) → Outcome
and_then (Done s k) next = next s k
and_then Fault next = Fault
and_then Out next = Out
and_then NoPick next = NoPick

-- ---- programs

-- A body that can be called. Watched are those of a client's procedures.
pub record Callee : Type 0 where
  pub name : Word
  pub setting : Setting
  pub commands : Block
  pub is_watched : Bool

-- What watched code may do: load or store a location in a state, and call a body that then starts in a state with its arguments.
pub record Watch : Type 0 where
  pub may_touch : State → Obj → Word → Bool
  pub may_call : Callee → State → Bool

-- everything may be done
abbrev pub unwatched : Watch
unwatched = record { may_touch = λ s o f. true; may_call = λ c s. true }

-- The classes, the bodies that can be called, the first of a name counting, and the watch.
pub record Program : Type 0 where
  pub tables : Tables
  pub callees : List Callee
  pub watch : Watch

abbrev pub find_callee : Word → List Callee → Option Callee
find_callee x cs = find_named (λ c. c.name) x cs

-- what running code sees, and whether it is watched
pub record Code : Type 0 where
  pub scope : Scope
  pub is_watched : Bool

abbrev pub code_of : Setting → Bool → Code
code_of g is_watched = record { scope = body_scope g; is_watched = is_watched }

-- ---- entering and leaving a body

-- The state from which a body runs, where it starts in a state with its parameters: locals and `result` are at their defaults.
abbrev pub begin : Setting → State → State
begin g s = with_defaults (own_variables g) s

-- the variables of the running call are those of the first state, all else is as in the second
abbrev pub with_call_of : State → State → State
with_call_of s t = record t { vars = λ o x. if same_owner o ByCall then s.vars o x else t.vars o x }

-- a new call, whose variables have no values yet
abbrev pub with_new_call : State → State
with_new_call s = record s { vars = λ o x. if same_owner o ByCall then Number (pos 0) else s.vars o x }

abbrev pub with_arguments : List Decl → List Value → State → State
with_arguments (d ∷ ds) (v ∷ vs) s = set_variable ByCall d.name v (with_arguments ds vs s)
with_arguments _ _ s = s

-- the state in which a called body starts, and which its precondition is about
abbrev pub called : Setting → List Value → State → State
called g vs s = with_arguments g.parameters vs (with_new_call s)

-- ---- runs

-- the next pick, which must be an object of the class that isn't allocated yet
abbrev pub pick : ℕ → State → Picks → (Obj → Picks → Outcome) → Outcome
pick c s (Some o ∷ k) next = if o.class == c && not (is_in o s.alloc) then next o k else NoPick
pick c s _ next = NoPick

-- `again` runs code at the bound below, for calls and loop turns.
module _ (p : Program) (again : Code → Block → State → Picks → Outcome) where
  -- at a location of the field: null is a fault, and so is what the watch forbids
  abbrev pub touch : Code → Ref → Word → State → (Obj → Outcome) → Outcome
  touch c None f s next = Fault
  touch c (Some o) f s next = if not c.is_watched || p.watch.may_touch s o f then next o else Fault

  -- the caller's variables come back, and x gets the result
  abbrev pub returned : Code → Word → State → State → Picks → Outcome
  returned c x s t k = Done (write_variable (find_variable x c.scope) (t.vars ByCall result_name) (with_call_of s t)) k

  abbrev pub call : Code → Option Callee → Word → List Value → State → Picks → Outcome
  call c None x vs s k = Fault
  call c (Some q) x vs s k =
      if not c.is_watched || p.watch.may_call q (called q.setting vs s)
      then and_then (again (code_of q.setting q.is_watched) q.commands (begin q.setting (called q.setting vs s)) k) (returned c x s)
      else Fault

  abbrev mutual
    pub step : Code → Form → State → Picks → Outcome
    step c Skip s k = Done s k
    step c (Assign x e) s k = Done (write_variable (find_variable x c.scope) (value_of p.tables c.scope e s s) s) k
    step c (Load x y f) s k =
        touch c (as_reference (read_variable (find_variable y c.scope) s)) f s (λ o. Done (write_variable (find_variable x c.scope) (s.heap o f) s) k)
    step c (Store y f e) s k =
        touch c (as_reference (read_variable (find_variable y c.scope) s)) f s (λ o. Done (write_field o f (value_of p.tables c.scope e s s) s) k)
    step c (New x d) s k =
        pick (class_number p.tables d) s k (λ o j. Done (write_variable (find_variable x c.scope) (Reference (Some o)) (with_object p.tables o s)) j)
    step c (Call x q es) s k = call c (find_callee q p.callees) x (map (λ e. value_of p.tables c.scope e s s) es) s k
    step c (If t a b) s k = if holds p.tables c.scope t s s then steps c a s k else steps c b s k
    -- a turn, and then the loop again, both at the bound below
    step c (While t i b) s k =
        if holds p.tables c.scope t s s then and_then (again c b s k) (again c (Then (At 0 (While t i b)) End)) else Done s k

    pub step_command : Code → Command → State → Picks → Outcome
    step_command c (At at f) s k = step c f s k

    -- the first outcome other than done is the outcome
    pub steps : Code → Block → State → Picks → Outcome
    steps c End s k = Done s k
    steps c (Then d ds) s k = and_then (step_command c d s k) (steps c ds)

abbrev pub run_of : Program → ℕ → Code → Block → State → Picks → Outcome
run_of p zero = steps p (λ c b s k. Out)
run_of p (suc n) = steps p (run_of p n)

-- a unit's procedures may call each other
abbrev pub unit_program : Tables → UnitItem → Program
unit_program tables u = record {
  tables = tables;
  callees = map (λ q. record { name = q.name; setting = unit_setting u q; commands = q.body.commands; is_watched = false }) u.procs;
  watch = unwatched;
}

-- a module's bodies call nothing
abbrev pub module_program : Tables → Program
module_program tables = record { tables = tables; callees = []; watch = unwatched }
