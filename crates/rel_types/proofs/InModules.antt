-- What an interface gives, the bodies of a module, and what they can name.
use Rattle.std.proofs.Common.{◌≡◌, true, false, if◌then◌else◌, List, [], ◌∷◌, ◌++◌, append-nil, map, ℕ, Option, Some, None, option_map, refl, sym, ap, subst, ◌∙◌}
use Rattle.std.specs.Prelude.{bytes_eq, unwrap_or}
use Rattle.rel_list.specs.declared.Name.{Name}
use Rattle.rel_lang.specs.declared.biprogram.Align as A
use Rattle.rel_lang.specs.declared.bundle.Body as B
use Rattle.rel_lang.specs.View.{align_of, body_of}
use Rattle.rel_lang.specs.Syntax.{Word, Decl, Body, Sig, Interface, Module, Align, Bundle}
use Rattle.rel_lang.specs.State.{find_named, find_variable, Scope, Owner, ByQuantifier}
use Rattle.rel_lang.specs.Scope.{Setting, declared, module_globals, globals_of, body_scope}
use Rattle.rel_lang.specs.Typed.{Signature, signature_of_method}
use Rattle.rel_lang.specs.Lookup.{find_method, find_module}
use Rattle.rel_flaws.specs.Code.{Code}
use Rattle.rel_flaws.specs.Flaws.{Fault, first_of, first_in}
use Rattle.rel_types.specs.Items.{globals_of_interface, signatures_of, setting_in_module, init_in_module, code_in_module, globals_of_side}
use Rattle.rel_types.specs.Lookups.{without_owner, SameCode, SameLookups, SameSettings}
use Rattle.rel_types.specs.OwnView.{decls_in, type_in, setting_of}
use Rattle.rel_types.specs.ModuleView.{HasOwn, or_nothing, IsNoInterface, IsGiven, IsAroundModule}
use Rattle.rel_types.specs.Called.{SameCallees}
use Rattle.rel_types.specs.Known.{BothAre, IsKnown, IsInterfaceSeen, IsModuleSeen}
use Rattle.rel_types.specs.declared.known.InterfaceSeen.{InterfaceSeen}
use Rattle.rel_types.specs.declared.known.ModuleSeen.{ModuleSeen}
use Rattle.rel_types.specs.declared.known.Known.{Known}
use Rattle.rel_flaws.specs.Entries.{find_entry}
use denote.Ref.{Bor}
use Rattle.rel_flaws.specs.View.{variables_seen}
use Rattle.rel_flaws.specs.CodeView.{callees_seen}
use Rattle.rel_types.specs.declared.around.Around.{Around}
use Rattle.rel_types.specs.declared.own.Own.{Own}
use Rattle.rel_flaws.specs.declared.scope.Seen.{Seen}
use Rattle.rel_types.proofs.Declaring.{same_declared}
use Rattle.rel_types.proofs.SameMembers.{same_globals}

-- ---- methods

pub signed : (x : Word) (qs : List Sig) → find_named (λ q. q.name) x (map signature_of_method qs) ≡ option_map signature_of_method (find_method x qs)
signed x [] = refl
signed x (q ∷ qs) =
    elim (bytes_eq x q.name) as (λ b. (if b then Some (signature_of_method q) else find_named (λ r. r.name) x (map signature_of_method qs))
    ≡ option_map signature_of_method (if b then Some q else find_method x qs)) [
      | true ↦ refl
      | false ↦ signed x qs
    ]

-- the variables of a body for a method that is there, and of one that is for none
pub own_of_some : (i : Option Interface) (m : Module) (ls : List Decl) (o : Option Sig) (s : Signature) (w : Own) → Some s ≡ option_map signature_of_method o
    → decls_in w.params ≡ s.params → decls_in w.locals ≡ ls → type_in w ≡ Some s.result → HasOwn (setting_in_module i m ls o) w
own_of_some i m ls None s w e ps locals result = absurd (cc)
own_of_some i m ls (Some q) s w e ps locals result =
    let same : s ≡ signature_of_method q = cc in
    record {
      parameters = ps ∙ ap (λ t. t.params) same;
      locals = locals;
      result = result ∙ ap (λ t. Some t.result) same;
    }

pub own_of_none : (i : Option Interface) (m : Module) (ls : List Decl) (o : Option Sig) (w : Own) → None ≡ option_map signature_of_method o
    → decls_in w.params ≡ [] → decls_in w.locals ≡ ls → type_in w ≡ None → HasOwn (setting_in_module i m ls o) w
own_of_none i m ls None w e ps locals result = record { parameters = ps; locals = locals; result = result }
own_of_none i m ls (Some q) w e ps locals result = absurd (cc)

pub interface_in : (i : Option Interface) (m : Module) (ls : List Decl) (o : Option Sig) → (setting_in_module i m ls o).interface ≡ globals_of_interface i
interface_in i m ls None = refl
interface_in i m ls (Some q) = refl

pub own_in : (i : Option Interface) (m : Module) (ls : List Decl) (o : Option Sig) → (setting_in_module i m ls o).own ≡ module_globals m
own_in i m ls None = refl
own_in i m ls (Some q) = refl

-- ---- interfaces

pub given_is : (i : Option Interface) (o : Option InterfaceSeen) (none : InterfaceSeen) → IsNoInterface none → BothAre IsInterfaceSeen i o → IsGiven i (unwrap_or o none)
given_is None None none nothing seen = record {
  globals = λ x. ap (λ l. option_map without_owner (find_variable x (variables_seen l))) nothing.globals;
  methods = λ x. ap (λ l. find_named (λ q. q.name) x (callees_seen l)) nothing.methods;
}
given_is (Some i) (Some s) none nothing seen = record { globals = seen.globals; methods = seen.methods }
given_is None (Some s) none nothing seen = absurd seen
given_is (Some i) None none nothing seen = absurd seen

-- what is found, or nothing
pub unwrapped : (i : Option Interface) (o : Option (Bor InterfaceSeen)) (none s : Bor InterfaceSeen) → s ≡ unwrap_or o none → IsNoInterface none.now
    → BothAre IsInterfaceSeen i (option_map (λ s. s.now) o) → IsGiven i s.now
unwrapped i o none s e nothing seen = subst (λ t. IsGiven i t.now) (sym e) (within o seen)
  where
    within : (o : Option (Bor InterfaceSeen)) → BothAre IsInterfaceSeen i (option_map (λ s. s.now) o) → IsGiven i (unwrap_or o none).now
    within None seen = given_is i None none.now nothing seen
    within (Some s) seen = given_is i (Some s.now) none.now nothing seen

-- with no globals behind them, and no procedures before the methods
pub given_alone : (s none : InterfaceSeen) → IsNoInterface none → (sc : Scope) → SameLookups (variables_seen s.globals) sc
    → SameLookups (variables_seen s.globals ++ variables_seen none.globals) sc
given_alone s none nothing sc same x =
    ap (λ l. option_map without_owner (find_variable x (variables_seen s.globals ++ variables_seen l))) nothing.globals
    ∙ ap (λ l. option_map without_owner (find_variable x l)) (append-nil (variables_seen s.globals)) ∙ same x

pub given_callees : (s none : InterfaceSeen) → IsNoInterface none → (i : Option Interface) → IsGiven i s
    → SameCallees (callees_seen none.methods ++ callees_seen s.methods) (signatures_of i)
given_callees s none nothing i given x =
    ap (λ l. find_named (λ q. q.name) x (callees_seen l ++ callees_seen s.methods)) nothing.methods ∙ given.methods x

-- what an item declares, alone in an index
pub declared_alone : (o : Owner) (ds : List Decl) (es none : List (Word × Seen)) → none ≡ []
    → SameLookups (variables_seen es) (variables_seen none ++ declared ByQuantifier true ds) → SameLookups (variables_seen es) (declared o true ds)
declared_alone o ds es none nothing same x =
    same x ∙ ap (λ l. option_map without_owner (find_variable x (variables_seen l ++ declared ByQuantifier true ds))) nothing ∙ same_declared ByQuantifier o true ds x

-- ---- modules

pub found_module : (b : Bundle) (k : Known) → IsKnown b k → (x y : Word) (o : Option (Bor ModuleSeen)) → y ≡ x → option_map (λ s. s.now) o ≡ find_entry y k.modules
    → BothAre IsModuleSeen (find_module b x) (option_map (λ s. s.now) o)
found_module b k known x y o e f =
    subst (λ z. BothAre IsModuleSeen (find_module b z) (option_map (λ s. s.now) o)) e (subst (BothAre IsModuleSeen (find_module b y)) (sym f) (known.modules y))

-- a body's setting, by what surrounds it and what it has of its own
pub body_setting : (i : Option Interface) (m : Module) (ls : List Decl) (o : Option Sig) (a : Around) (w : Own) → IsAroundModule i m a → HasOwn (setting_in_module i m ls o) w
    → SameSettings (setting_of a.globals w) (setting_in_module i m ls o)
body_setting i m ls None a w around own =
    record { interface = around.interface; own = around.own; parameters = own.parameters; locals = own.locals; result = own.result }
body_setting i m ls (Some q) a w around own =
    record { interface = around.interface; own = around.own; parameters = own.parameters; locals = own.locals; result = own.result }

-- ---- code

pub in_module : (i : Option Interface) (o : Option Setting) (c : Code) → SameCode c (record { scope = body_scope (or_nothing o); callees = signatures_of i; may_call = false })
    → SameCode c (code_in_module i o)
in_module i None c k = k
in_module i (Some g) c k = k

-- the globals of a setting
pub side_globals : (i : Option Interface) (m : Option Module) (g : Setting) → SameSettings g (or_nothing (option_map (init_in_module i) m))
    → SameLookups (globals_of g) (globals_of_side i m)
side_globals i None g k = same_globals g (or_nothing None) k
side_globals i (Some m) g k = same_globals g (init_in_module i m) k

-- ---- faults

-- how a method is aligned, as it is written
abbrev pub seen_method : ℕ × Name × A.Align → ℕ × Word × Align
seen_method a = (a.0, a.1, align_of a.2)

-- the body of a method, as it is written
abbrev pub seen_body : Name × B.Body → Word × Body
seen_body b = (b.0, body_of b.1)

pub bodies_kept : (ms : List (Name × B.Body)) → ◌≡◌ {A = List Word} (map (λ b. b.0) (map seen_body ms)) (map (λ b. b.0) ms)
bodies_kept [] = refl
bodies_kept (b ∷ rest) = ap (λ l. b.0 ∷ l) (bodies_kept rest)

pub names_kept : (ms : List (ℕ × Name × A.Align)) → ◌≡◌ {A = List Word} (map (λ a. a.1) (map seen_method ms)) (map (λ a. a.1) ms)
names_kept [] = refl
names_kept (a ∷ rest) = ap (λ l. a.1 ∷ l) (names_kept rest)

pub first_in_map : {X Y : Type 0} (fault : Y → Option Fault) (g : X → Y) (xs : List X) → first_in fault (map g xs) ≡ first_in (λ x. fault (g x)) xs
first_in_map fault g [] = refl
first_in_map fault g (x ∷ xs) = ap (first_of (fault (g x))) (first_in_map fault g xs)
