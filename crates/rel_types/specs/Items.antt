-- What items and their members have wrong, and the first fault of a bundle.
use Rattle.std.specs.Prelude.{Bool, true, false, not, ◌&&◌, ◌||◌, List, [], ◌∷◌, ◌++◌, map, Option, Some, None, is_none, bytes_eq, option_map, option_and_then}
use Rattle.std.specs.List.{list_any}
use Rattle.rel_lang.specs.Syntax.{Word, Ty, Decl, Place, Effect, Global, Locations, Clause, RelClause, Spec, Body, Proc, Sig, ClassItem, Interface, Module, UnitItem, Client, Judgement, ModulePair, Item, OfClass, OfInterface, OfModule, OfUnit, OfClient, OfJudgement, OfPair, Bundle}
use Rattle.rel_lang.specs.State.{Tables, tables_of, Scope}
use Rattle.rel_lang.specs.Scope.{Setting, result_name, interface_globals, client_globals, module_globals, globals_of, pre_scope, post_scope, body_scope, unit_setting, signature_setting}
use Rattle.rel_lang.specs.Lookup.{judgements_of, find_interface, find_module, find_method, find_body, find_main, main_name, Subject, subject_of}
use Rattle.rel_lang.specs.Typed.{Signature, signature_of_proc, signature_of_method, item_name, names_of}
use Rattle.rel_flaws.specs.Flaws.{Flaws, flawless, either, Pass, Fault, fault_at, first_of, first_in, ForTwice, ForOthers}
use Rattle.rel_flaws.specs.Inference.{is_among, is_field, is_in_scope, names_unknown_class, have_unknown_types, flaws_of_formula, flaws_of_rel, flaws_of_region}
use Rattle.rel_flaws.specs.Code.{Code, unknown_where, block_fault}
use Rattle.rel_flaws.specs.Alignments.{Sides, align_fault}

-- ---- names that are declared again

-- some name of the second list stands before, in the first list or in its own
abbrev pub repeats : List Word → List Word → Bool
repeats seen [] = false
repeats seen (x ∷ xs) = is_among x seen || repeats (x ∷ seen) xs

abbrev pub declared_names : List Decl → List Word
declared_names ds = map (λ d. d.name) ds

-- `result` is declared with each body
abbrev pub seen_by_members : Scope → List Word
seen_by_members sc = result_name ∷ names_of sc

abbrev pub twice_where : Bool → Flaws
twice_where holds = record flawless { twice = holds }

-- The faults of a list of members, each of which is told which names stand before it.
abbrev pub first_named : {X : Type 0} → (X → Word) → (List Word → X → Option Fault) → List Word → List X → Option Fault
first_named name fault seen [] = None
first_named name fault seen (x ∷ xs) = first_of (fault seen x) (first_named name fault (name x ∷ seen) xs)

abbrev pub same_names : List Word → List Word → Bool
same_names [] [] = true
same_names (x ∷ xs) (y ∷ ys) = bytes_eq x y && same_names xs ys
same_names _ _ = false

-- ---- what surrounds the bodies of modules and clients

-- What an interface gives to a module or a client. One that isn't there gives nothing.
abbrev pub globals_of_interface : Option Interface → Scope
globals_of_interface None = []
globals_of_interface (Some i) = interface_globals i

abbrev pub methods_of_interface : Option Interface → List Sig
methods_of_interface None = []
methods_of_interface (Some i) = i.methods

abbrev pub signatures_of : Option Interface → List Signature
signatures_of i = map signature_of_method (methods_of_interface i)

-- the bodies are those of the interface's methods, in its order
abbrev pub misses_methods : Option Interface → List Word → Bool
misses_methods None names = false
misses_methods (Some i) names = not (same_names names (map (λ q. q.name) i.methods))

-- a body of a module; one for no method of the interface has no parameters and no result
abbrev pub setting_in_module : Option Interface → Module → List Decl → Option Sig → Setting
setting_in_module i m locals None =
    record { interface = globals_of_interface i; own = module_globals m; parameters = []; locals = locals; result = None }
setting_in_module i m locals (Some q) =
    record { interface = globals_of_interface i; own = module_globals m; parameters = q.params; locals = locals; result = Some q.result }

abbrev pub init_in_module : Option Interface → Module → Setting
init_in_module i m = setting_in_module i m m.init.locals None

abbrev pub method_in_module : Option Interface → Module → Word × Body → Setting
method_in_module i m b = setting_in_module i m b.1.locals (find_method b.0 (methods_of_interface i))

-- What a body in a module declares again of its own doing: a parameter has the name of one of the module's own globals, or a local has a name that
-- stands before it. What else the parameters have wrong is wrong in the interface.
abbrev pub clashes_in_module : Setting → Bool
clashes_in_module g =
    list_any (λ d. is_in_scope d.name g.own) g.parameters
    || repeats (declared_names g.parameters ++ seen_by_members (globals_of g)) (declared_names g.locals)

abbrev pub setting_in_client : Option Interface → Client → Proc → Setting
setting_in_client i c q =
    record { interface = globals_of_interface i; own = client_globals c; parameters = q.params; locals = q.body.locals; result = Some q.result }

abbrev pub callees_in_client : Option Interface → Client → List Signature
callees_in_client i c = map signature_of_proc c.procs ++ signatures_of i

abbrev pub is_empty : List Decl → Bool
is_empty [] = true
is_empty (d ∷ ds) = false

-- a procedure of a client; its name may not be a method's, and a `main` has no parameters
abbrev pub flaws_of_client_proc : Option Interface → List Word → Proc → Flaws
flaws_of_client_proc i seen q = record flawless {
  twice = is_among q.name seen || is_among q.name (map (λ m. m.name) (methods_of_interface i));
  no_main = bytes_eq q.name main_name && not (is_empty q.params);
}

module _ (tables : Tables) where
  -- ---- declarations and effects

  abbrev pub flaws_of_place : Scope → Place → Flaws
  flaws_of_place sc p = either (unknown_where (not (is_field tables p.field))) (flaws_of_region tables sc p.region)

  -- a listed global is one of these; a region is read in the scope
  abbrev pub flaws_of_effect : Scope → Scope → Effect → Flaws
  flaws_of_effect globals sc (Global x) = unknown_where (not (is_in_scope x globals))
  flaws_of_effect globals sc (Locations p) = flaws_of_place sc p

  abbrev pub flaws_of_all : {X : Type 0} → (X → Flaws) → List X → Flaws
  flaws_of_all flaws [] = flawless
  flaws_of_all flaws (x ∷ xs) = either (flaws x) (flaws_of_all flaws xs)

  -- the variables that an item declares, behind those of its interface
  abbrev pub flaws_of_globals : Scope → List Decl → Flaws
  flaws_of_globals before ds = record flawless {
    twice = repeats (seen_by_members before) (declared_names ds);
    unknown = have_unknown_types tables ds;
  }

  -- the variables and the writes list of a procedure or a method
  abbrev pub flaws_of_head : Setting → List Effect → Ty → Flaws
  flaws_of_head g writes result =
      either (record flawless {
        twice = repeats (seen_by_members (globals_of g)) (declared_names (g.parameters ++ g.locals));
        unknown = have_unknown_types tables (g.parameters ++ g.locals) || names_unknown_class tables result;
      }) (flaws_of_all (flaws_of_effect (globals_of g) (pre_scope g)) writes)

  module _ (pass : Pass) where
    -- ---- clauses

    abbrev pub clause_fault : Bool → Scope → Clause → Option Fault
    clause_fault old sc c = fault_at pass c.at (flaws_of_formula tables old sc c.formula)

    abbrev pub rel_clause_fault : Bool → Scope → Scope → RelClause → Option Fault
    rel_clause_fault old l r c = fault_at pass c.at (flaws_of_rel tables old l r c.formula)

    abbrev pub clauses_fault : Setting → Spec → Option Fault
    clauses_fault g s = first_of (clause_fault false (pre_scope g) s.needs) (clause_fault true (post_scope g) s.gives)

    -- ---- procedures and methods

    abbrev pub proc_fault : Setting → List Signature → Flaws → Proc → Option Fault
    proc_fault g callees more q =
        first_of (fault_at pass q.at (either more (flaws_of_head g q.spec.writes q.result)))
        (first_of (clauses_fault g q.spec) (block_fault tables pass (record { scope = body_scope g; callees = callees; may_call = true }) q.body.commands))

    -- a body in a module, which has parameters where its method is known
    abbrev pub module_body_fault : Setting → List Signature → Body → Option Fault
    module_body_fault g callees b =
        first_of (fault_at pass b.at (record flawless {
          twice = clashes_in_module g;
          unknown = have_unknown_types tables g.locals;
        }))
        (block_fault tables pass (record { scope = body_scope g; callees = callees; may_call = false }) b.commands)

    -- ---- classes, interfaces and units

    -- the names of the fields that stand before
    abbrev pub class_fault : List Word → Flaws → ClassItem → Option Fault
    class_fault seen more c =
        fault_at pass c.at (either more (record flawless { twice = repeats seen (declared_names c.fields); unknown = have_unknown_types tables c.fields }))

    abbrev pub sig_fault : Setting → Flaws → Sig → Option Fault
    sig_fault g more q = first_of (fault_at pass q.at (either more (flaws_of_head g q.spec.writes q.result))) (clauses_fault g q.spec)

    abbrev pub method_fault : Interface → List Word → Sig → Option Fault
    method_fault i seen q = sig_fault (signature_setting i q) (twice_where (is_among q.name seen)) q

    abbrev pub interface_fault : Flaws → Interface → Option Fault
    interface_fault more i =
        let sc = interface_globals i in
        first_of (fault_at pass i.at (either more (either (flaws_of_globals [] i.globals)
        (either (flaws_of_all (flaws_of_place sc) i.boundary) (flaws_of_all (flaws_of_effect sc sc) i.init_writes)))))
        (first_of (clause_fault true sc i.init_ensures) (first_named (λ q. q.name) (method_fault i) [] i.methods))

    abbrev pub unit_fault : Flaws → UnitItem → Option Fault
    unit_fault more u =
        first_of (fault_at pass u.at (either more (flaws_of_globals [] u.globals)))
        (first_named (λ q. q.name) (λ seen q. proc_fault (unit_setting u q) (map signature_of_proc u.procs) (twice_where (is_among q.name seen)) q) [] u.procs)

    -- ---- modules and clients

    abbrev pub module_fault : Flaws → Option Interface → Module → Option Fault
    module_fault more i m =
        first_of (fault_at pass m.at (either more (either (flaws_of_globals (globals_of_interface i) m.globals)
        (record flawless { unknown = is_none i; missing = misses_methods i (map (λ b. b.0) m.methods) }))))
        (first_of (clause_fault false (globals_of (init_in_module i m)) m.invariant)
        (first_of (module_body_fault (init_in_module i m) (signatures_of i) m.init)
        (first_in (λ b. module_body_fault (method_in_module i m b) (signatures_of i) b.1) m.methods)))

    abbrev pub client_fault : Flaws → Option Interface → Client → Option Fault
    client_fault more i c =
        first_of (fault_at pass c.at (either more (either (flaws_of_globals (globals_of_interface i) c.globals)
        (record flawless { unknown = is_none i; no_main = is_none (find_main c) }))))
        (first_named (λ q. q.name) (λ seen q. proc_fault (setting_in_client i c q) (callees_in_client i c) (flaws_of_client_proc i seen q) q) [] c.procs)

-- ---- judgements and pairs

-- what the body of a unit's procedure can name; a procedure that isn't there names nothing
abbrev pub code_of_subject : Option Subject → Code
code_of_subject None = record { scope = []; callees = []; may_call = true }
code_of_subject (Some x) = record { scope = body_scope (unit_setting x.unit x.proc); callees = map signature_of_proc x.unit.procs; may_call = true }

abbrev pub pre_scope_of_subject : Option Subject → Scope
pre_scope_of_subject None = []
pre_scope_of_subject (Some x) = pre_scope (unit_setting x.unit x.proc)

abbrev pub post_scope_of_subject : Option Subject → Scope
post_scope_of_subject None = []
post_scope_of_subject (Some x) = post_scope (unit_setting x.unit x.proc)

abbrev pub interface_of_module : Bundle → Option Module → Option Interface
interface_of_module b m = option_and_then (λ x. find_interface b x.interface) m

-- the globals that the coupling sees on this side
abbrev pub globals_of_side : Option Interface → Option Module → Scope
globals_of_side i None = []
globals_of_side i (Some m) = globals_of (init_in_module i m)

-- what the body of a module can name; a body that isn't there names nothing
abbrev pub code_in_module : Option Interface → Option Setting → Code
code_in_module i None = record { scope = []; callees = signatures_of i; may_call = false }
code_in_module i (Some g) = record { scope = body_scope g; callees = signatures_of i; may_call = false }

abbrev pub init_of_side : Option Interface → Option Module → Code
init_of_side i m = code_in_module i (option_map (init_in_module i) m)

abbrev pub method_of_side : Option Interface → Option Module → Word → Code
method_of_side i m x =
    code_in_module i (option_and_then (λ n. option_map (λ d. method_in_module i n (x, d)) (find_body x n.methods)) m)

-- the two modules are there, and their interfaces differ
abbrev pub differ_in_interface : Option Module → Option Module → Bool
differ_in_interface (Some m) (Some n) = not (bytes_eq m.interface n.interface)
differ_in_interface _ _ = false

abbrev pub fields_of_item : Item → List Word
fields_of_item (OfClass c) = declared_names c.fields
fields_of_item _ = []

module _ (b : Bundle) (pass : Pass) where
  abbrev pub judgement_fault : Flaws → Option Subject → Option Subject → Judgement → Option Fault
  judgement_fault more l r j =
      first_of (fault_at pass j.at (either more (unknown_where (is_none l || is_none r))))
      (first_of (rel_clause_fault (tables_of b) pass false (pre_scope_of_subject l) (pre_scope_of_subject r) j.needs)
      (first_of (rel_clause_fault (tables_of b) pass true (post_scope_of_subject l) (post_scope_of_subject r) j.gives)
      (align_fault (tables_of b) pass (record {
        left = code_of_subject l;
        right = code_of_subject r;
        judgements = judgements_of b.items;
        units = Some (j.left.0, j.right.0);
      }) j.align)))

  abbrev pub module_sides : Code → Code → Sides
  module_sides l r = record { left = l; right = r; judgements = judgements_of b.items; units = None }

  -- with the interface of the left module
  abbrev pub pair_fault : Flaws → Option Module → Option Module → Option Interface → ModulePair → Option Fault
  pair_fault more m n i p =
      first_of (fault_at pass p.at (either more (record flawless {
        unknown = is_none m || is_none n;
        missing = differ_in_interface m n || misses_methods i (map (λ a. a.1) p.methods);
      })))
      (first_of (rel_clause_fault (tables_of b) pass false (globals_of_side i m) (globals_of_side i n) p.coupling)
      (first_of (align_fault (tables_of b) pass (module_sides (init_of_side i m) (init_of_side i n)) p.init.1)
      (first_in (λ a. align_fault (tables_of b) pass (module_sides (method_of_side i m a.1) (method_of_side i n a.1)) a.2) p.methods)))

  -- ---- bundles

  -- the names of the items that stand before, and of the fields
  abbrev pub item_fault : List Word → List Word → Item → Option Fault
  item_fault seen fields (OfClass c) = class_fault (tables_of b) pass fields (twice_where (is_among c.name seen)) c
  item_fault seen fields (OfInterface i) = interface_fault (tables_of b) pass (twice_where (is_among i.name seen)) i
  item_fault seen fields (OfModule m) = module_fault (tables_of b) pass (twice_where (is_among m.name seen)) (find_interface b m.interface) m
  item_fault seen fields (OfUnit u) = unit_fault (tables_of b) pass (twice_where (is_among u.name seen)) u
  item_fault seen fields (OfClient c) = client_fault (tables_of b) pass (twice_where (is_among c.name seen)) (find_interface b c.interface) c
  item_fault seen fields (OfJudgement j) = judgement_fault (twice_where (is_among j.name seen)) (subject_of b j.left) (subject_of b j.right) j
  item_fault seen fields (OfPair p) =
      let m = find_module b p.left in
      pair_fault (twice_where (is_among p.name seen)) m (find_module b p.right) (interface_of_module b m) p

  abbrev pub items_fault : List Word → List Word → List Item → Option Fault
  items_fault seen fields [] = None
  items_fault seen fields (i ∷ is) = first_of (item_fault seen fields i) (items_fault (item_name i ∷ seen) (fields_of_item i ++ fields) is)

-- the first name that is declared twice, else the first other fault
abbrev pub first_fault : Bundle → Option Fault
first_fault b = first_of (items_fault b ForTwice [] [] b.items) (items_fault b ForOthers [] [] b.items)
