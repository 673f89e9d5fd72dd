-- Contracts, and when a body meets one.
use Rattle.std.specs.Prelude.{◌≡◌, ◌≢◌, ℕ, Bool, false, ◌||◌, IsTrue, IsFalse, List, [], ◌∷◌, ◌++◌, Option, Some, None}
use Rattle.std.specs.List.{AllByRecursion, list_any}
use Rattle.rel_list.specs.References.{Obj, is_in}
use Rattle.rel_list.specs.Regions.{is_within}
use Rattle.rel_lang.specs.Syntax.{Word, Formula, Effect, Global, Locations, Block, Body, Proc, Sig, Interface, Module, UnitItem, Client}
use Rattle.rel_lang.specs.State.{Tables, Owner, ByCall, State, Variable, is_variable, Scope, find_variable, AreDefault, IsWellFormed}
use Rattle.rel_lang.specs.Scope.{Setting, interface_globals, module_globals, globals_of, pre_scope, post_scope, body_scope, unit_setting, client_setting, signature_setting, method_setting, init_setting}
use Rattle.rel_lang.specs.Value.{has_location}
use Rattle.rel_lang.specs.Truth.{holds}
use Rattle.rel_lang.specs.Run.{Picks, Outcome, Done, Fault, Program, code_of, begin, run_of}

-- ---- contracts

-- a formula with what it sees
pub record Assertion : Type 0 where
  pub scope : Scope
  pub formula : Formula

abbrev pub is_met : Tables → State → State → Assertion → Bool
is_met tables entry s a = holds tables a.scope a.formula entry s

pub record Contract : Type 0 where
  -- of the body
  pub setting : Setting
  -- of the specification, in which `writes` is read
  pub stated : Setting
  -- the globals that have their defaults at the start
  pub defaults : Scope
  pub requires : List Assertion
  pub ensures : List Assertion
  pub writes : List Effect
  -- the globals that may change though they aren't listed
  pub free : Scope

-- ---- what may change

abbrev pub is_found : Owner → Word → Option Variable → Bool
is_found o x None = false
is_found o x (Some v) = is_variable o x v

abbrev pub lists_variable : Scope → Owner → Word → Effect → Bool
lists_variable globals o x (Global y) = is_found o x (find_variable y globals)
lists_variable globals o x (Locations p) = false

abbrev pub lists_location : Tables → Scope → State → Obj → Word → Effect → Bool
lists_location tables sc entry o f (Global y) = false
lists_location tables sc entry o f (Locations p) = has_location tables sc p entry entry o f

-- the variable is a listed global or a free one
abbrev pub may_change : Contract → Owner → Word → Bool
may_change c o x = list_any (lists_variable (globals_of c.stated) o x) c.writes || list_any (is_variable o x) c.free

-- the location is one of a listed place, with the region read at entry
abbrev pub is_listed_location : Tables → Contract → State → Obj → Word → Bool
is_listed_location tables c entry o f = list_any (lists_location tables (pre_scope c.stated) entry o f) c.writes

-- No variable changes that isn't the running call's and mustn't, whosever it is, and no location of an object that was allocated, save the listed ones.
pub record ChangesOnly (tables : Tables) (c : Contract) (entry t : State) : Type 0 where
  pub variables : (o : Owner) (x : Word) → o ≢ ByCall → IsFalse (may_change c o x) → t.vars o x ≡ entry.vars o x
  pub locations : (o : Obj) (f : Word) → IsTrue (is_in o entry.alloc) → IsFalse (is_listed_location tables c entry o f) → t.heap o f ≡ entry.heap o f

-- ---- meeting a contract

-- a state in which the body may start
pub record IsStart (tables : Tables) (c : Contract) (s : State) : Type 0 where
  pub formed : IsWellFormed tables (pre_scope c.setting) s
  pub defaults : AreDefault c.defaults s
  pub requires : AllByRecursion (λ a. IsTrue (is_met tables s s a)) c.requires

-- What holds of a state in which the body ends. No object goes, so what was well formed and didn't change still is.
pub record EndsWell (tables : Tables) (c : Contract) (entry t : State) : Type 0 where
  pub formed : IsWellFormed tables (body_scope c.setting) t
  pub grown : IsTrue (is_within entry.alloc t.alloc)
  pub ensures : AllByRecursion (λ a. IsTrue (is_met tables entry t a)) c.ensures
  pub changes : ChangesOnly tables c entry t

pub record RunsWell (tables : Tables) (c : Contract) (entry : State) (run : Outcome) : Type 0 where
  pub safe : run ≢ Fault
  pub ends : (t : State) (k : Picks) → run ≡ Done t k → EndsWell tables c entry t

-- The body meets its contract: from each start, at every bound and with all picks. The entry is the state from which it runs.
abbrev pub Meets : Program → Contract → Block → Type 0
Meets p c b =
    (s : State) → IsStart p.tables c s → (n : ℕ) (k : Picks) → RunsWell p.tables c (begin c.setting s) (run_of p n (code_of c.setting false) b (begin c.setting s) k)

-- ---- the contracts of the bodies

abbrev pub unit_contract : UnitItem → Proc → Contract
unit_contract u q =
    let g = unit_setting u q in record {
      setting = g;
      stated = g;
      defaults = [];
      requires = record { scope = pre_scope g; formula = q.spec.needs.formula } ∷ [];
      ensures = record { scope = post_scope g; formula = q.spec.gives.formula } ∷ [];
      writes = q.spec.writes;
      free = [];
    }

-- what an invariant of the module sees
abbrev pub invariant_scope : Interface → Module → Scope
invariant_scope i m = interface_globals i ++ module_globals m

abbrev pub invariant_of : Interface → Module → Assertion
invariant_of i m = record { scope = invariant_scope i m; formula = m.invariant.formula }

-- what the interface says of an init sees the interface's globals alone
abbrev pub init_stated : Interface → Setting
init_stated i = record { interface = interface_globals i; own = []; parameters = []; locals = []; result = None }

-- Init starts with all globals at their defaults and establishes the invariant.
abbrev pub init_contract : Interface → Module → Contract
init_contract i m = record {
  setting = init_setting i m;
  stated = init_stated i;
  defaults = invariant_scope i m;
  requires = [];
  ensures = record { scope = post_scope (init_stated i); formula = i.init_ensures.formula } ∷ invariant_of i m ∷ [];
  writes = i.init_writes;
  free = module_globals m;
}

-- A method keeps the invariant.
abbrev pub method_contract : Interface → Module → Sig → Body → Contract
method_contract i m q b =
    let g = signature_setting i q in record {
      setting = method_setting i m q b;
      stated = g;
      defaults = [];
      requires = record { scope = pre_scope g; formula = q.spec.needs.formula } ∷ invariant_of i m ∷ [];
      ensures = record { scope = post_scope g; formula = q.spec.gives.formula } ∷ invariant_of i m ∷ [];
      writes = q.spec.writes;
      free = module_globals m;
    }

abbrev pub client_contract : Interface → Client → Proc → Contract
client_contract i c q =
    let g = client_setting i c q in record {
      setting = g;
      stated = g;
      defaults = [];
      requires = record { scope = pre_scope g; formula = q.spec.needs.formula } ∷ [];
      ensures = record { scope = post_scope g; formula = q.spec.gives.formula } ∷ [];
      writes = q.spec.writes;
      free = [];
    }

-- A client's main in a linked run, which starts before init: the module's globals may change.
abbrev pub main_contract : Interface → Module → Client → Proc → Contract
main_contract i m c q = record (client_contract i c q) { defaults = invariant_scope i m; free = module_globals m }
