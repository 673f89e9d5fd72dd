-- Laws of the definitions, which functions of `laws` prove.
use Rattle.std.specs.Prelude.{◌≡◌, ◌≢◌, ◌⊎◌, ℕ, ◌≤◌, Bool, IsTrue, IsFalse, IfSome, IsSomeAnd, List, [], ◌∷◌, ◌++◌, Some}
use Rattle.std.specs.List.{AllByRecursion}
use Rattle.rel_list.specs.Pairs.{Pairs}
use Rattle.rel_list.specs.Regions.{is_within}
use Rattle.rel_lang.specs.Syntax.{Word, Ty, Expression, RelFormula, Block, Interface, Module, UnitItem, Client}
use Rattle.rel_lang.specs.State.{Tables, find_named, fits_type, ByCall, same_owner, State, Variable, is_variable, Scope, IsWellFormed}
use Rattle.rel_lang.specs.Scope.{Setting, interface_globals, module_globals, unit_globals, client_globals, globals_of, body_scope, unit_setting, client_setting, method_setting, init_setting}
use Rattle.rel_lang.specs.Value.{value_of}
use Rattle.rel_lang.specs.Typed.{HasType, Signature, IsTypedBody, IsTypedModule, IsTypedUnit, IsTypedClient}
use Rattle.rel_lang.specs.Run.{Picks, Done, Fault, Out, Callee, Watch, unwatched, Program, find_callee, Code, code_of, run_of, unit_program, module_program}
use Rattle.rel_lang.specs.Meets.{invariant_scope}
use Rattle.rel_lang.specs.Lookup.{find_body}
use Rattle.rel_lang.specs.Linked.{linked_program}
use Rattle.rel_lang.specs.Relation.{Moment, RelHolds}

-- An outcome other than out is the outcome at every greater bound too.
abbrev pub GreaterBoundsKeepOutcomes : Type 0
GreaterBoundsKeepOutcomes =
    (p : Program) (n m : ℕ) (c : Code) (b : Block) (s : State) (k : Picks) → n ≤ m → run_of p n c b s k ≢ Out → run_of p m c b s k ≡ run_of p n c b s k

-- A watch adds faults, and changes nothing else.
abbrev pub WatchesOnlyAddFaults : Type 0
WatchesOnlyAddFaults =
    (p : Program) (n : ℕ) (c : Code) (b : Block) (s : State) (k : Picks) → run_of p n c b s k ≢ Fault → run_of (record p { watch = unwatched }) n c b s k ≡ run_of p n c b s k

-- What is allocated stays so.
abbrev pub NoObjectGoes : Type 0
NoObjectGoes =
    (p : Program) (n : ℕ) (c : Code) (b : Block) (s t : State) (k j : Picks) → run_of p n c b s k ≡ Done t j → IsTrue (is_within s.alloc t.alloc)

-- Relational truth is what isn't false.
abbrev pub RelationalTruthIsStable : Type 0
RelationalTruthIsStable = (tables : Tables) (a : RelFormula) (l r : Moment) (q : Pairs) → ¬ (¬ (RelHolds tables a l r q)) → RelHolds tables a l r q

-- In well-formed states the value of a typed expression fits its type, with what is old read in an earlier state.
abbrev pub TypedValuesFit : Type 0
TypedValuesFit =
    (tables : Tables) (sc : Scope) (old : Bool) (e : Expression) (t : Ty) (entry s : State)
    → IsWellFormed tables sc entry → IsWellFormed tables sc s → IsTrue (is_within entry.alloc s.alloc) → HasType tables old sc e t
    → IsTrue (fits_type tables t s.alloc (value_of tables sc e entry s))

-- ---- typed runs

abbrev pub IsOneOf : Variable → Scope → Type 0
IsOneOf v [] = ⊥
IsOneOf v (w ∷ ws) = (v ≡ w) ⊎ IsOneOf v ws

-- if the two are one variable they have one type
abbrev pub Agree : Variable → Variable → Type 0
Agree v w = IsTrue (is_variable w.owner w.name v) → w.ty ≡ v.ty

-- the globals that the bodies of a program see: none is a call's, and none has two types
pub record AreGlobals (globals : Scope) : Type 0 where
  pub of_items : AllByRecursion (λ v. IsFalse (same_owner v.owner ByCall)) globals
  pub agree : AllByRecursion (λ v. AllByRecursion (Agree v) globals) globals

abbrev pub IsCalleeFor : Signature → Callee → Type 0
IsCalleeFor q c = (c.setting.parameters ≡ q.params) × (c.setting.result ≡ Some q.result)

-- The body is typed, sees these globals alone, and what it calls is in the program.
pub record IsTypedIn (p : Program) (globals : Scope) (g : Setting) (b : Block) : Type 0 where
  pub callees : List Signature
  pub typed : IsTypedBody p.tables g callees b
  pub sees : AllByRecursion (λ v. IsOneOf v globals) (globals_of g)
  pub answered : (x : Word) → IfSome (find_named (λ q. q.name) x callees) (λ q. IsSomeAnd (find_callee x p.callees) (IsCalleeFor q))

pub record IsTypedProgram (p : Program) (globals : Scope) : Type 0 where
  pub are_globals : AreGlobals globals
  pub bodies : AllByRecursion (λ c. IsTypedIn p globals c.setting c.commands) p.callees

-- From a well-formed state a typed body ends in one.
abbrev pub TypedRunsEndWellFormed : Type 0
TypedRunsEndWellFormed =
    (p : Program) (globals : Scope) (g : Setting) (b : Block) → IsTypedProgram p globals → IsTypedIn p globals g b
    → (is_watched : Bool) (n : ℕ) (s t : State) (k j : Picks) → IsWellFormed p.tables globals s → IsWellFormed p.tables (body_scope g) s
    → run_of p n (code_of g is_watched) b s k ≡ Done t j → IsWellFormed p.tables globals t × IsWellFormed p.tables (body_scope g) t

-- The bodies of a typed unit are typed in its program.
abbrev pub UnitProgramsAreTyped : Type 0
UnitProgramsAreTyped =
    (tables : Tables) (u : UnitItem) → IsTypedUnit tables u
    → IsTypedProgram (unit_program tables u) (unit_globals u)
    × AllByRecursion (λ q. IsTypedIn (unit_program tables u) (unit_globals u) (unit_setting u q) q.body.commands) u.procs

-- So are those of a typed client and a typed module in the program of the two, under every watch.
abbrev pub LinkedProgramsAreTyped : Type 0
LinkedProgramsAreTyped =
    (tables : Tables) (i : Interface) (m : Module) (c : Client) (w : Watch) → IsTypedModule tables i m → IsTypedClient tables i c
    → IsTypedProgram (linked_program tables i m c w) (interface_globals i ++ (module_globals m ++ client_globals c))
    × AllByRecursion (λ q. IsTypedIn (linked_program tables i m c w) (interface_globals i ++ (module_globals m ++ client_globals c)) (client_setting i c q) q.body.commands) c.procs

-- And those of a typed module alone.
abbrev pub ModuleProgramsAreTyped : Type 0
ModuleProgramsAreTyped =
    (tables : Tables) (i : Interface) (m : Module) → IsTypedModule tables i m
    → IsTypedProgram (module_program tables) (invariant_scope i m)
    × IsTypedIn (module_program tables) (invariant_scope i m) (init_setting i m) m.init.commands
    × AllByRecursion (λ q. IsSomeAnd (find_body q.name m.methods) (λ b. IsTypedIn (module_program tables) (invariant_scope i m) (method_setting i m q b) b.commands)) i.methods
