-- What can be wrong with the types of a bundle, and which fault is the first.
use Rattle.std.specs.Prelude.{ℕ, Bool, false, ◌||◌, if◌then◌else◌, List, [], ◌∷◌, Option, Some, None}

-- the kinds of fault, in the order that decides at one place
pub data Kind : Type 0 where
  -- a name is declared again
  Twice : Kind
  -- a name has no declaration of the kind that is needed
  Unknown : Kind
  -- a module or a pair doesn't list exactly the methods of its interface in their order, or the modules of a pair have different interfaces
  Missing : Kind
  -- a client has no `main`, or its `main` has parameters
  NoMain : Kind
  -- a call stands in a module's body, or names `main`
  NotVisible : Kind
  -- a call has another number of arguments than there are parameters
  WrongArity : Kind
  -- a parameter or a quantified name is assigned
  Target : Kind
  -- `old` stands where there is no entry to speak of, or inside another `old`
  OldHere : Kind
  -- code reads the heap inside an expression, or speaks of `alloc` or `old`, or a test has a quantifier
  NotCode : Kind
  -- a part hasn't the type that is needed there
  WrongType : Kind

-- a kind, and the byte where the smallest command, step of a weaving, clause, member or item begins that holds the fault
pub record Fault : Type 0 where
  pub kind : Kind
  pub at : ℕ

-- which kinds of fault one place has
pub record Flaws : Type 0 where
  pub twice : Bool
  pub unknown : Bool
  pub missing : Bool
  pub no_main : Bool
  pub not_visible : Bool
  pub wrong_arity : Bool
  pub target : Bool
  pub old_here : Bool
  pub not_code : Bool
  pub wrong_type : Bool

abbrev pub flawless : Flaws
flawless = record {
  twice = false;
  unknown = false;
  missing = false;
  no_main = false;
  not_visible = false;
  wrong_arity = false;
  target = false;
  old_here = false;
  not_code = false;
  wrong_type = false;
}

-- those of either
abbrev pub either : Flaws → Flaws → Flaws
either f g = record {
  twice = f.twice || g.twice;
  unknown = f.unknown || g.unknown;
  missing = f.missing || g.missing;
  no_main = f.no_main || g.no_main;
  not_visible = f.not_visible || g.not_visible;
  wrong_arity = f.wrong_arity || g.wrong_arity;
  target = f.target || g.target;
  old_here = f.old_here || g.old_here;
  not_code = f.not_code || g.not_code;
  wrong_type = f.wrong_type || g.wrong_type;
}

-- A bundle is gone over twice: for names that are declared twice, and for every other fault.
pub data Pass : Type 0 where
  ForTwice : Pass
  ForOthers : Pass

-- the kind that decides at a place
abbrev pub kind_in : Pass → Flaws → Option Kind
kind_in ForTwice f = if f.twice then Some Twice else None
kind_in ForOthers f =
    if f.unknown then Some Unknown else if f.missing then Some Missing else if f.no_main then Some NoMain
    else if f.not_visible then Some NotVisible else if f.wrong_arity then Some WrongArity else if f.target then Some Target
    else if f.old_here then Some OldHere else if f.not_code then Some NotCode else if f.wrong_type then Some WrongType else None

abbrev pub at_place : ℕ → Option Kind → Option Fault
at_place at None = None
at_place at (Some k) = Some (record { kind = k; at = at })

-- the fault of a place with these flaws
abbrev pub fault_at : Pass → ℕ → Flaws → Option Fault
fault_at pass at f = at_place at (kind_in pass f)

-- the first of two faults
abbrev pub first_of : Option Fault → Option Fault → Option Fault
first_of None g = g
first_of (Some f) g = Some f

-- the first fault in a list
abbrev pub first_in : {X : Type 0} → (X → Option Fault) → List X → Option Fault
first_in fault [] = None
first_in fault (x ∷ xs) = first_of (fault x) (first_in fault xs)
