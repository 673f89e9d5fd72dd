-- What is known of the items that others name.
use Rattle.std.specs.Prelude.{◌≡◌, ℕ, List, map, Option, Some, None, option_map}
use denote.Ref.{Bor}
use Rattle.rel_lang.specs.Syntax.{Word, Body, Proc, Interface, Module, UnitItem, Judgement, Bundle}
use Rattle.rel_lang.specs.State.{tables_of, class_number}
use Rattle.rel_lang.specs.Scope.{interface_globals, module_globals, unit_globals}
use Rattle.rel_lang.specs.Lookup.{find_interface, find_module, find_unit, find_proc, find_body, find_judgement, judgements_of}
use Rattle.rel_lang.specs.Typed.{signature_of_proc, signature_of_method}
use Rattle.rel_lang.specs.View.{decl_of}
use Rattle.rel_lang.specs.declared.bundle.Decl as D
use Rattle.rel_flaws.specs.Entries.{find_entry}
use Rattle.rel_flaws.specs.View.{tables_seen, variables_seen}
use Rattle.rel_flaws.specs.CodeView.{callees_seen}
use Rattle.rel_flaws.specs.AlignmentView.{judgement_about}
use Rattle.rel_types.specs.Lookups.{SameLookups, SameTables}
use Rattle.rel_types.specs.Called.{SameCallees}
use Rattle.rel_types.specs.OwnView.{decls_in, type_in}
use Rattle.rel_types.specs.declared.own.Own as O
use Rattle.rel_types.specs.declared.known.InterfaceSeen as I
use Rattle.rel_types.specs.declared.known.UnitSeen as U
use Rattle.rel_types.specs.declared.known.ModuleSeen as M
use Rattle.rel_types.specs.declared.known.Known as K

-- none of either, or one of each that belong together
abbrev pub BothAre : {A B : Type 0} → (A → B → Type 0) → Option A → Option B → Type 0
BothAre R None None = Unit {0}
BothAre R (Some a) (Some b) = R a b
BothAre R _ _ = ⊥

pub record IsInterfaceSeen (i : Interface) (s : I.InterfaceSeen) : Type 0 where
  pub globals : SameLookups (variables_seen s.globals) (interface_globals i)
  pub methods : SameCallees (callees_seen s.methods) (map signature_of_method i.methods)
  pub names : map (λ n. n.now) s.names.items ≡ map (λ q. q.name) i.methods

pub record IsProcSeen (q : Proc) (o : O.Own) : Type 0 where
  pub params : decls_in o.params ≡ q.params
  pub locals : decls_in o.locals ≡ q.body.locals
  pub result : type_in o ≡ Some q.result

pub record IsUnitSeen (u : UnitItem) (s : U.UnitSeen) : Type 0 where
  pub globals : SameLookups (variables_seen s.globals) (unit_globals u)
  pub procs : SameCallees (callees_seen s.procs) (map signature_of_proc u.procs)
  pub bodies : (p : Word) → BothAre IsProcSeen (find_proc p u.procs) (find_entry p s.bodies)

abbrev pub HasLocals : Body → Bor (List D.Decl) → Type 0
HasLocals b ds = map decl_of ds.now ≡ b.locals

pub record IsModuleSeen (m : Module) (s : M.ModuleSeen) : Type 0 where
  pub interface : s.interface.now ≡ m.interface
  pub globals : SameLookups (variables_seen s.globals) (module_globals m)
  pub init : HasLocals m.init s.init
  pub bodies : (x : Word) → BothAre HasLocals (find_body x m.methods) (find_entry x s.bodies)

-- whom a judgement is about
abbrev pub subjects : Judgement → (Word × Word) × (Word × Word)
subjects j = (j.left, j.right)

-- the judgements of each name are about the same procedures
abbrev pub SameSubjects : List Judgement → List Judgement → Type 0
SameSubjects js ks = (x : Word) → option_map subjects (find_judgement x js) ≡ option_map subjects (find_judgement x ks)

-- what is known is true of the bundle
pub record IsKnown (b : Bundle) (k : K.Known) : Type 0 where
  pub tables : SameTables (tables_seen k.tables) (tables_of b)
  pub numbers : (c : Word) (n : ℕ) → find_entry c k.tables.classes ≡ Some n → n ≡ class_number (tables_of b) c
  pub interfaces : (x : Word) → BothAre IsInterfaceSeen (find_interface b x) (find_entry x k.interfaces)
  pub units : (x : Word) → BothAre IsUnitSeen (find_unit b x) (find_entry x k.units)
  pub modules : (x : Word) → BothAre IsModuleSeen (find_module b x) (find_entry x k.modules)
  pub judgements : SameSubjects (map (λ e. judgement_about e.0 e.1) k.judgements) (judgements_of b.items)
