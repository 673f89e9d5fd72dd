-- What can be seen where: the variables of a body and of the formulas about it.
use Rattle.std.specs.Prelude.{Bool, true, false, List, [], ◌∷◌, ◌++◌, map, codes, Option, Some, None}
use Rattle.rel_lang.specs.Syntax.{Word, Ty, Decl, Body, Proc, Sig, Interface, Module, UnitItem, Client}
use Rattle.rel_lang.specs.State.{Owner, ByInterface, ByModule, ByUnit, ByClient, ByCall, Scope}

abbrev pub declared : Owner → Bool → List Decl → Scope
declared o is_assignable ds = map (λ d. record { name = d.name; owner = o; ty = d.ty; is_assignable = is_assignable }) ds

abbrev pub interface_globals : Interface → Scope
interface_globals i = declared (ByInterface i.name) true i.globals

abbrev pub module_globals : Module → Scope
module_globals m = declared (ByModule m.name) true m.globals

abbrev pub unit_globals : UnitItem → Scope
unit_globals u = declared (ByUnit u.name) true u.globals

abbrev pub client_globals : Client → Scope
client_globals c = declared (ByClient c.name) true c.globals

-- A body with what surrounds it: the interface's globals, those of its own unit, module or client, parameters, locals, and the type of its result.
-- An init has no result.
pub record Setting : Type 0 where
  pub interface : Scope
  pub own : Scope
  pub parameters : List Decl
  pub locals : List Decl
  pub result : Option Ty

abbrev pub result_name : Word
result_name = codes "result"

abbrev pub result_variable : Option Ty → Scope
result_variable None = []
result_variable (Some ty) = record { name = result_name; owner = ByCall; ty = ty; is_assignable = true } ∷ []

-- ---- what each kind of formula sees

-- what an invariant and a writes list's names see
abbrev pub globals_of : Setting → Scope
globals_of g = g.interface ++ g.own

abbrev pub parameters_of : Setting → Scope
parameters_of g = declared ByCall false g.parameters

-- the locals and `result`, which begin at their defaults
abbrev pub own_variables : Setting → Scope
own_variables g = declared ByCall true g.locals ++ result_variable g.result

-- what a precondition sees, and the regions of a writes list
abbrev pub pre_scope : Setting → Scope
pre_scope g = globals_of g ++ parameters_of g

-- what a postcondition sees
abbrev pub post_scope : Setting → Scope
post_scope g = pre_scope g ++ result_variable g.result

-- what the body sees, and its loop invariants
abbrev pub body_scope : Setting → Scope
body_scope g = pre_scope g ++ own_variables g

-- ---- the settings of the bodies

abbrev pub unit_setting : UnitItem → Proc → Setting
unit_setting u p = record { interface = []; own = unit_globals u; parameters = p.params; locals = p.body.locals; result = Some p.result }

abbrev pub client_setting : Interface → Client → Proc → Setting
client_setting i c p = record { interface = interface_globals i; own = client_globals c; parameters = p.params; locals = p.body.locals; result = Some p.result }

-- of a method's specification, which sees no module
abbrev pub signature_setting : Interface → Sig → Setting
signature_setting i q = record { interface = interface_globals i; own = []; parameters = q.params; locals = []; result = Some q.result }

-- of a method's body in a module
abbrev pub method_setting : Interface → Module → Sig → Body → Setting
method_setting i m q b = record { interface = interface_globals i; own = module_globals m; parameters = q.params; locals = b.locals; result = Some q.result }

abbrev pub init_setting : Interface → Module → Setting
init_setting i m = record { interface = interface_globals i; own = module_globals m; parameters = []; locals = m.init.locals; result = None }
