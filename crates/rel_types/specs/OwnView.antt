-- What surrounds a body, and what it has of its own.
use Rattle.std.specs.Prelude.{◌≡◌, true, false, List, [], ◌++◌, map, Option, Some, None, option_map}
use denote.Ref.{Bor}
use Rattle.rel_lang.specs.Syntax as syntax
use Rattle.rel_lang.specs.Syntax.{Word}
use Rattle.rel_lang.specs.State.{ByCall, Scope}
use Rattle.rel_lang.specs.Scope.{Setting, declared, result_variable}
use Rattle.rel_lang.specs.Typed.{Signature}
use Rattle.rel_lang.specs.View.{decl_of}
use Rattle.rel_lang.specs.declared.bundle.Decl as D
use Rattle.rel_flaws.specs.View.{type_seen, variables_seen}
use Rattle.rel_flaws.specs.CodeView.{callees_seen}
use Rattle.rel_types.specs.Items.{seen_by_members}
use Rattle.rel_types.specs.Lookups.{SameLookups}
use Rattle.rel_types.specs.declared.around.Globals as G
use Rattle.rel_types.specs.declared.around.Around as A
use Rattle.rel_types.specs.declared.own.Own as O
use Rattle.rel_types.specs.declared.own.OwnLayers as L

abbrev pub decls_in : Option (Bor (List D.Decl)) → List syntax.Decl
decls_in None = []
decls_in (Some b) = map decl_of b.now

abbrev pub type_in : O.Own → Option syntax.Ty
type_in o = option_map type_seen o.result

abbrev pub globals_in : G.Globals → Scope
globals_in g = variables_seen g.interface.now ++ variables_seen g.own.now

-- the names that a member may not declare again, where there are any
abbrev pub names_before : Option G.Globals → List Word
names_before None = []
names_before (Some g) = seen_by_members (globals_in g)

abbrev pub setting_of : G.Globals → O.Own → Setting
setting_of g o = record {
  interface = variables_seen g.interface.now;
  own = variables_seen g.own.now;
  parameters = decls_in o.params;
  locals = decls_in o.locals;
  result = type_in o;
}

-- of a procedure
abbrev pub proc_setting : G.Globals → syntax.Proc → Setting
proc_setting g q = record {
  interface = variables_seen g.interface.now;
  own = variables_seen g.own.now;
  parameters = q.params;
  locals = q.body.locals;
  result = Some q.result;
}

-- of a method's specification
abbrev pub sig_setting : G.Globals → syntax.Sig → Setting
sig_setting g q = record {
  interface = variables_seen g.interface.now;
  own = variables_seen g.own.now;
  parameters = q.params;
  locals = [];
  result = Some q.result;
}

abbrev pub callees_in : A.Around → List Signature
callees_in a = callees_seen a.procs.now ++ callees_seen a.methods.now

-- the layers are those of the body's own variables
pub record AreLayers (o : O.Own) (l : L.OwnLayers) : Type 0 where
  pub params : SameLookups (variables_seen l.params) (declared ByCall false (decls_in o.params))
  pub locals : SameLookups (variables_seen l.locals) (declared ByCall true (decls_in o.locals))
  pub result : SameLookups (variables_seen l.result) (result_variable (type_in o))
  pub none : l.none ≡ []
