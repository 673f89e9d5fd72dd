-- What the values of the code stand for.
use Rattle.std.specs.Prelude.{◌++◌, List, map}
use Rattle.rel_lang.specs.Syntax as syntax
use Rattle.rel_lang.specs.Syntax.{Word}
use Rattle.rel_lang.specs.State.{Tables, ClassField, ByQuantifier, Variable, Scope}
use Rattle.rel_lang.specs.Truth.{quantified}
use Rattle.rel_flaws.specs.Flaws as flaws
use Rattle.rel_flaws.specs.Inference as inference
use Rattle.rel_lang.specs.declared.fault.TypeKind as K
use Rattle.rel_lang.specs.declared.fault.TypeKind.TheVariants as KV
use Rattle.rel_flaws.specs.declared.kind.Pass as P
use Rattle.rel_flaws.specs.declared.kind.Pass.TheVariants as PV
use Rattle.rel_flaws.specs.declared.kind.Flaws as F
use Rattle.rel_flaws.specs.declared.kind.Fault as T
use Rattle.rel_flaws.specs.declared.types.Type as Y
use Rattle.rel_flaws.specs.declared.types.Type.TheVariants as YV
use Rattle.rel_flaws.specs.declared.types.Inferred as I
use Rattle.rel_flaws.specs.declared.types.Inferred.TheVariants as IV
use Rattle.rel_flaws.specs.declared.scope.Seen as N
use Rattle.rel_flaws.specs.declared.scope.SeenField as D
use Rattle.rel_flaws.specs.declared.scope.Tables as B
use Rattle.rel_flaws.specs.declared.scope.Layers as L
use Rattle.rel_flaws.specs.declared.scope.Scope as S

-- ---- faults

abbrev pub kind_of : K.TypeKind → flaws.Kind
kind_of KV.Twice = flaws.Twice
kind_of KV.Unknown = flaws.Unknown
kind_of KV.Missing = flaws.Missing
kind_of KV.NoMain = flaws.NoMain
kind_of KV.NotVisible = flaws.NotVisible
kind_of KV.WrongArity = flaws.WrongArity
kind_of KV.Target = flaws.Target
kind_of KV.OldHere = flaws.OldHere
kind_of KV.NotCode = flaws.NotCode
kind_of KV.WrongType = flaws.WrongType

abbrev pub pass_of : P.Pass → flaws.Pass
pass_of PV.ForTwice = flaws.ForTwice
pass_of PV.ForOthers = flaws.ForOthers

abbrev pub flaws_of : F.Flaws → flaws.Flaws
flaws_of f = record {
  twice = f.twice;
  unknown = f.unknown;
  missing = f.missing;
  no_main = f.no_main;
  not_visible = f.not_visible;
  wrong_arity = f.wrong_arity;
  target = f.target;
  old_here = f.old_here;
  not_code = f.not_code;
  wrong_type = f.wrong_type;
}

abbrev pub fault_of : T.Fault → flaws.Fault
fault_of f = record { kind = kind_of f.kind; at = f.at }

-- ---- types, fields and variables

abbrev pub type_seen : Y.Type → syntax.Ty
type_seen YV.Int = syntax.Int
type_seen YV.Rgn = syntax.Rgn
type_seen (YV.Class c) = syntax.Class c.now

abbrev pub inferred_of : I.Inferred → inference.Inferred
inferred_of IV.NoType = inference.NoType
inferred_of IV.AnyClass = inference.AnyClass
inferred_of (IV.Exactly t) = inference.Exactly (type_seen t)

abbrev pub field_of : Word → D.SeenField → ClassField
field_of f d = record { name = f; class = d.class.now; ty = type_seen d.ty }

abbrev pub tables_seen : B.Tables → Tables
tables_seen t = record { classes = map (λ e. e.0) t.classes; fields = map (λ e. field_of e.0 e.1) t.fields }

-- a variable whose owner isn't known
abbrev pub variable_of : Word → N.Seen → Variable
variable_of x v = record { name = x; owner = ByQuantifier; ty = type_seen v.ty; is_assignable = v.is_assignable }

-- the variables that an index has, by name
abbrev pub variables_seen : List (Word × N.Seen) → Scope
variables_seen es = map (λ e. variable_of e.0 e.1) es

abbrev pub globals_seen : L.Layers → Scope
globals_seen l = variables_seen l.interface.now ++ variables_seen l.globals.now

abbrev pub own_seen : L.Layers → Scope
own_seen l = variables_seen l.params.now ++ (variables_seen l.locals.now ++ variables_seen l.result.now)

-- the variables that aren't quantified
abbrev pub layers_seen : L.Layers → Scope
layers_seen l = globals_seen l ++ own_seen l

abbrev pub scope_of : S.Scope → Scope
scope_of s = map (λ q. quantified q.0 q.1) s.quantified ++ layers_seen s.layers
