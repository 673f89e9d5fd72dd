-- What is known of the procedure on one side of a judgement.
use Rattle.std.specs.Prelude.{◌≡◌, true, false, List, [], map, Option, Some, None, is_some}
use Rattle.rel_lang.specs.Syntax.{UnitItem, Judgement, Bundle}
use Rattle.rel_lang.specs.State.{tables_of}
use Rattle.rel_lang.specs.Scope.{Setting, unit_setting}
use Rattle.rel_lang.specs.Lookup.{Subject, judgements_of}
use Rattle.rel_lang.specs.Typed.{Signature, signature_of_proc}
use Rattle.rel_flaws.specs.Flaws.{Pass, Fault, first_of}
use Rattle.rel_flaws.specs.Alignments.{align_fault}
use Rattle.rel_types.specs.Items.{rel_clause_fault, pre_scope_of_subject, post_scope_of_subject, code_of_subject}
use Rattle.rel_types.specs.Known.{IsUnitSeen}
use Rattle.rel_types.specs.Lookups.{SameSettings}
use Rattle.rel_types.specs.Called.{SameCallees}
use Rattle.rel_types.specs.OwnView.{setting_of, callees_in}
use Rattle.rel_types.specs.declared.around.Around as A
use Rattle.rel_types.specs.declared.known.UnitSeen as U
use Rattle.rel_types.specs.declared.judgements.Side as S

-- a procedure that isn't there sees nothing
abbrev pub setting_of_subject : Option Subject → Setting
setting_of_subject None = record { interface = []; own = []; parameters = []; locals = []; result = None }
setting_of_subject (Some x) = unit_setting x.unit x.proc

abbrev pub callees_of_subject : Option Subject → List Signature
callees_of_subject None = []
callees_of_subject (Some x) = map signature_of_proc x.unit.procs

pub record IsSide (o : Option Subject) (s : S.Side) : Type 0 where
  pub setting : SameSettings (setting_of s.around.globals s.own) (setting_of_subject o)
  pub callees : SameCallees (callees_in s.around) (callees_of_subject o)
  pub is_there : s.is_there ≡ is_some o

-- nothing is known of the unit
pub record IsNoUnit (u : U.UnitSeen) : Type 0 where
  pub globals : u.globals ≡ []
  pub procs : u.procs ≡ []
  pub bodies : u.bodies ≡ []

-- what is known of the unit, where it is there
abbrev pub IsUnitOf : Option UnitItem → U.UnitSeen → Type 0
IsUnitOf None s = IsNoUnit s
IsUnitOf (Some u) s = IsUnitSeen u s

-- of a unit, with the empty layer in the place of an interface
pub record IsAround (u none : U.UnitSeen) (a : A.Around) : Type 0 where
  pub interface : a.globals.interface.now ≡ none.globals
  pub globals : a.globals.own.now ≡ u.globals
  pub procs : a.procs.now ≡ u.procs
  pub methods : a.methods.now ≡ none.procs

-- the first fault of a judgement's clauses and alignment
abbrev pub parts_fault : Bundle → Pass → Option Subject → Option Subject → Judgement → Option Fault
parts_fault b pass l r j =
    first_of (rel_clause_fault (tables_of b) pass false (pre_scope_of_subject l) (pre_scope_of_subject r) j.needs)
    (first_of (rel_clause_fault (tables_of b) pass true (post_scope_of_subject l) (post_scope_of_subject r) j.gives)
    (align_fault (tables_of b) pass (record {
      left = code_of_subject l;
      right = code_of_subject r;
      judgements = judgements_of b.items;
      units = Some (j.left.0, j.right.0);
    }) j.align))
