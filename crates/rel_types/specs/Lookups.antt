-- When two scopes give the same for each name, and code and alignments know the same.
use Rattle.std.specs.Prelude.{◌≡◌, List, map, option_map}
use Rattle.rel_lang.specs.Syntax.{Word}
use Rattle.rel_lang.specs.State.{ByQuantifier, Tables, find_field, Variable, Scope, find_variable}
use Rattle.rel_lang.specs.Scope.{Setting}
use Rattle.rel_lang.specs.Lookup.{find_judgement}
use Rattle.rel_flaws.specs.Inference.{is_among, is_class}
use Rattle.rel_flaws.specs.Code.{Code, find_callee}
use Rattle.rel_flaws.specs.Alignments.{Sides}

-- the variable, whoever owns it
abbrev pub without_owner : Variable → Variable
without_owner v = record v { owner = ByQuantifier }

abbrev pub SameLookups : Scope → Scope → Type 0
SameLookups sc sd = (x : Word) → option_map without_owner (find_variable x sc) ≡ option_map without_owner (find_variable x sd)

pub record SameCode (c d : Code) : Type 0 where
  pub scope : SameLookups c.scope d.scope
  pub callees : (p : Word) → find_callee p c ≡ find_callee p d
  pub may_call : c.may_call ≡ d.may_call

pub record SameSides (s t : Sides) : Type 0 where
  pub left : SameCode s.left t.left
  pub right : SameCode s.right t.right
  pub judgements : (j : Word) → find_judgement j s.judgements ≡ find_judgement j t.judgements
  pub units : s.units ≡ t.units

-- the names that an index has
abbrev pub names_in : {V : Type 0} → List (Word × V) → List Word
names_in es = map (λ e. e.0) es

-- the two have the same names
abbrev pub SameNames : List Word → List Word → Type 0
SameNames xs ys = (x : Word) → is_among x xs ≡ is_among x ys

-- the two tables have the same classes, and the same for each field
pub record SameTables (t u : Tables) : Type 0 where
  pub classes : (c : Word) → is_class t c ≡ is_class u c
  pub fields : (f : Word) → find_field t f ≡ find_field u f

-- the two settings see the same, and have the same of their own
pub record SameSettings (g h : Setting) : Type 0 where
  pub interface : SameLookups g.interface h.interface
  pub own : SameLookups g.own h.own
  pub parameters : g.parameters ≡ h.parameters
  pub locals : g.locals ≡ h.locals
  pub result : g.result ≡ h.result
