-- What is known of an interface that may not be there, and of the modules of a pair and their bodies.
use Rattle.std.specs.Prelude.{◌≡◌, ◌||◌, ℕ, false, map, is_none, List, [], Option, Some, None, option_map}
use Rattle.rel_lang.specs.Syntax.{Word, Align, Body, Interface, Module, ModulePair, Bundle}
use Rattle.rel_lang.specs.State.{Tables, tables_of}
use Rattle.rel_lang.specs.Scope.{Setting, module_globals}
use Rattle.rel_lang.specs.Typed.{Signature}
use Rattle.rel_flaws.specs.Flaws.{Flaws, flawless, either, Pass, Fault, first_of, first_in}
use Rattle.rel_flaws.specs.Alignments.{align_fault}
use Rattle.rel_flaws.specs.View.{variables_seen}
use Rattle.rel_flaws.specs.CodeView.{callees_seen}
use Rattle.rel_types.specs.Items.{globals_of_interface, signatures_of, flaws_of_globals, module_body_fault, init_in_module, method_in_module, misses_methods, differ_in_interface, rel_clause_fault, globals_of_side, module_sides, init_of_side, method_of_side}
use Rattle.rel_types.specs.Called.{SameCallees}
use Rattle.rel_types.specs.Lookups.{SameLookups, SameSettings}
use Rattle.rel_types.specs.Known.{BothAre, IsKnown, IsModuleSeen}
use Rattle.rel_types.specs.OwnView.{decls_in, type_in, setting_of, callees_in}
use Rattle.rel_types.specs.declared.around.Around as A
use Rattle.rel_types.specs.declared.own.Own as O
use Rattle.rel_types.specs.declared.known.Known as K
use Rattle.rel_types.specs.declared.known.InterfaceSeen as I
use Rattle.rel_types.specs.declared.aligned.BodySeen as B
use Rattle.rel_types.specs.declared.pairs.Modules as M

-- a body that isn't there sees nothing
abbrev pub or_nothing : Option Setting → Setting
or_nothing None = record { interface = []; own = []; parameters = []; locals = []; result = None }
or_nothing (Some g) = g

-- an interface that gives nothing
pub record IsNoInterface (s : I.InterfaceSeen) : Type 0 where
  pub globals : s.globals ≡ []
  pub methods : s.methods ≡ []

-- what the interface gives, or nothing
pub record IsGiven (i : Option Interface) (s : I.InterfaceSeen) : Type 0 where
  pub globals : SameLookups (variables_seen s.globals) (globals_of_interface i)
  pub methods : SameCallees (callees_seen s.methods) (signatures_of i)

-- the body's own variables are those of the setting
pub record HasOwn (g : Setting) (o : O.Own) : Type 0 where
  pub parameters : decls_in o.params ≡ g.parameters
  pub locals : decls_in o.locals ≡ g.locals
  pub result : type_in o ≡ g.result

-- the body sees what the setting does, or nothing, and can name these
pub record IsBody (g : Option Setting) (ss : List Signature) (s : B.BodySeen) : Type 0 where
  pub setting : SameSettings (setting_of s.around.globals s.own) (or_nothing g)
  pub callees : SameCallees (callees_in s.around) ss

-- what is known of two modules and of an interface
pub record AreModules (b : Bundle) (i : Option Interface) (m n : Option Module) (k : K.Known) (s : M.Modules) : Type 0 where
  pub known : IsKnown b k
  pub interface : IsGiven i s.interface.now
  pub left : BothAre IsModuleSeen m (option_map (λ l. l.now) s.left)
  pub right : BothAre IsModuleSeen n (option_map (λ r. r.now) s.right)

-- how a method is aligned
abbrev pub fault_of_method : Bundle → Pass → Option Interface → Option Module → Option Module → ℕ × Word × Align → Option Fault
fault_of_method b pass i m n a = align_fault (tables_of b) pass (module_sides b pass (method_of_side i m a.1) (method_of_side i n a.1)) a.2

-- the first fault of a pair's coupling and alignments
abbrev pub inside_fault_of : Bundle → Pass → Option Interface → Option Module → Option Module → ModulePair → Option Fault
inside_fault_of b pass i m n p =
    first_of (rel_clause_fault (tables_of b) pass false (globals_of_side i m) (globals_of_side i n) p.coupling)
    (first_of (align_fault (tables_of b) pass (module_sides b pass (init_of_side i m) (init_of_side i n)) p.init.1)
    (first_in (fault_of_method b pass i m n) p.methods))

-- what a pair of modules has wrong at its place, where methods of these names are aligned
abbrev pub flaws_of_modules : Option Interface → Option Module → Option Module → List Word → Flaws
flaws_of_modules i m n names = record flawless {
  unknown = is_none m || is_none n;
  missing = differ_in_interface m n || misses_methods i names;
}

-- what surrounds the bodies of the module
pub record IsAroundModule (i : Option Interface) (m : Module) (a : A.Around) : Type 0 where
  pub interface : SameLookups (variables_seen a.globals.interface.now) (globals_of_interface i)
  pub own : SameLookups (variables_seen a.globals.own.now) (module_globals m)
  pub callees : SameCallees (callees_in a) (signatures_of i)

-- what a module has wrong at its place, and the first fault inside it
abbrev pub flaws_of_module : Tables → Option Interface → Module → Flaws
flaws_of_module tables i m =
    either (flaws_of_globals tables (globals_of_interface i) m.globals)
    (record flawless { unknown = is_none i; missing = misses_methods i (map (λ b. b.0) m.methods) })

abbrev pub fault_of_body : Tables → Pass → Option Interface → Module → Word × Body → Option Fault
fault_of_body tables pass i m b = module_body_fault tables pass (method_in_module i m b) (signatures_of i) b.1

abbrev pub bodies_fault_of : Tables → Pass → Option Interface → Module → Option Fault
bodies_fault_of tables pass i m =
    first_of (module_body_fault tables pass (init_in_module i m) (signatures_of i) m.init)
    (first_in (fault_of_body tables pass i m) m.methods)
