-- Items have the same faults where the tables know the same classes and fields.
use Rattle.std.proofs.Common.{◌≡◌, Bool, true, false, not, ◌||◌, List, [], ◌∷◌, ◌++◌, map, Option, refl, ap, ap₂}
use Rattle.std.specs.Prelude.{is_none}
use Rattle.rel_lang.specs.Syntax.{Word, Ty, Int, Rgn, Class, Decl, Place, Effect, Global, Locations, Clause, RelClause, Spec, Body, Proc, Sig, ClassItem, Interface, Module, UnitItem, Client}
use Rattle.rel_lang.specs.State.{Tables, Scope}
use Rattle.rel_lang.specs.Scope.{Setting, interface_globals, globals_of, pre_scope, post_scope, body_scope, unit_setting, signature_setting}
use Rattle.rel_lang.specs.Lookup.{find_main}
use Rattle.rel_lang.specs.Typed.{Signature, signature_of_proc}
use Rattle.rel_flaws.specs.Flaws.{Flaws, flawless, either, Pass, Fault, fault_at, first_of}
use Rattle.rel_flaws.specs.Inference.{is_among, names_unknown_class, have_unknown_types}
use Rattle.rel_flaws.specs.Code.{unknown_where}
use Rattle.rel_types.specs.Items.{repeats, declared_names, seen_by_members, twice_where, first_named, globals_of_interface, signatures_of, misses_methods, init_in_module, method_in_module, clashes_in_module, setting_in_client, callees_in_client, flaws_of_client_proc, flaws_of_place, flaws_of_effect, flaws_of_all, flaws_of_globals, flaws_of_head, clause_fault, rel_clause_fault, clauses_fault, proc_fault, module_body_fault, class_fault, sig_fault, method_fault, interface_fault, unit_fault, module_fault, client_fault}
use Rattle.rel_types.specs.Lookups.{SameTables}
use Rattle.rel_types.proofs.Knowledge.{first_in_same}
use Rattle.rel_types.proofs.SameTables.{field_with, formula_with, rel_with, region_with, block_with}

-- members that agree, whatever stands before them, have the same first fault
pub first_named_same : {X : Type 0} (name : X → Word) (f g : List Word → X → Option Fault) → ((seen : List Word) (x : X) → f seen x ≡ g seen x)
    → (seen : List Word) (xs : List X) → first_named name f seen xs ≡ first_named name g seen xs
first_named_same name f g h seen [] = refl
first_named_same name f g h seen (x ∷ xs) = ap₂ first_of (h seen x) (first_named_same name f g h (name x ∷ seen) xs)

module _ (t u : Tables) (k : SameTables t u) where
  -- ---- declarations and effects

  pub type_with : (y : Ty) → names_unknown_class t y ≡ names_unknown_class u y
  type_with Int = refl
  type_with Rgn = refl
  type_with (Class c) = ap not (k.classes c)

  pub types_with : (ds : List Decl) → have_unknown_types t ds ≡ have_unknown_types u ds
  types_with [] = refl
  types_with (d ∷ ds) = ap₂ (λ x y. x || y) (type_with d.ty) (types_with ds)

  pub place_with : (sc : Scope) (p : Place) → flaws_of_place t sc p ≡ flaws_of_place u sc p
  place_with sc p = ap₂ (λ b f. either (unknown_where (not b)) f) (field_with t u k p.field) (region_with t u k sc p.region)

  pub effect_with : (globals sc : Scope) (e : Effect) → flaws_of_effect t globals sc e ≡ flaws_of_effect u globals sc e
  effect_with globals sc (Global x) = refl
  effect_with globals sc (Locations p) = place_with sc p

  -- flaws that agree on each member agree on all
  pub all_with : {X : Type 0} (f g : X → Flaws) → ((x : X) → f x ≡ g x) → (xs : List X) → flaws_of_all t f xs ≡ flaws_of_all u g xs
  all_with f g h [] = refl
  all_with f g h (x ∷ xs) = ap₂ either (h x) (all_with f g h xs)

  pub globals_with : (before : Scope) (ds : List Decl) → flaws_of_globals t before ds ≡ flaws_of_globals u before ds
  globals_with before ds =
      ap {A = Bool} {B = Flaws} (λ b. record flawless { twice = repeats (seen_by_members before) (declared_names ds); unknown = b }) (types_with ds)

  pub head_with : (g : Setting) (writes : List Effect) (result : Ty) → flaws_of_head t g writes result ≡ flaws_of_head u g writes result
  head_with g writes result =
      ap₂ either
      (ap {A = Bool} {B = Flaws} (λ b. record flawless { twice = repeats (seen_by_members (globals_of g)) (declared_names (g.parameters ++ g.locals)); unknown = b })
      (ap₂ (λ x y. x || y) (types_with (g.parameters ++ g.locals)) (type_with result)))
      (all_with (flaws_of_effect t (globals_of g) (pre_scope g)) (flaws_of_effect u (globals_of g) (pre_scope g)) (effect_with (globals_of g) (pre_scope g)) writes)

  -- ---- clauses

  pub clause_with : (pass : Pass) (old : Bool) (sc : Scope) (c : Clause) → clause_fault t pass old sc c ≡ clause_fault u pass old sc c
  clause_with pass old sc c = ap (fault_at pass c.at) (formula_with t u k old sc c.formula)

  pub rel_clause_with : (pass : Pass) (old : Bool) (l r : Scope) (c : RelClause) → rel_clause_fault t pass old l r c ≡ rel_clause_fault u pass old l r c
  rel_clause_with pass old l r c = ap (fault_at pass c.at) (rel_with t u k old l r c.formula)

  pub clauses_with : (pass : Pass) (g : Setting) (s : Spec) → clauses_fault t pass g s ≡ clauses_fault u pass g s
  clauses_with pass g s = ap₂ first_of (clause_with pass false (pre_scope g) s.needs) (clause_with pass true (post_scope g) s.gives)

  -- ---- procedures and methods

  pub proc_with : (pass : Pass) (g : Setting) (callees : List Signature) (more : Flaws) (q : Proc) → proc_fault t pass g callees more q ≡ proc_fault u pass g callees more q
  proc_with pass g callees more q =
      ap₂ first_of (ap (λ f. fault_at pass q.at (either more f)) (head_with g q.spec.writes q.result))
      (ap₂ first_of (clauses_with pass g q.spec) (block_with t u k pass (record { scope = body_scope g; callees = callees; may_call = true }) q.body.commands))

  pub module_body_with : (pass : Pass) (g : Setting) (callees : List Signature) (b : Body) → module_body_fault t pass g callees b ≡ module_body_fault u pass g callees b
  module_body_with pass g callees b =
      ap₂ first_of
      (ap {A = Bool} (λ x. fault_at pass b.at (record flawless { twice = clashes_in_module g; unknown = x })) (types_with g.locals))
      (block_with t u k pass (record { scope = body_scope g; callees = callees; may_call = false }) b.commands)

  -- ---- classes, interfaces and units

  pub class_with : (pass : Pass) (seen : List Word) (more : Flaws) (c : ClassItem) → class_fault t pass seen more c ≡ class_fault u pass seen more c
  class_with pass seen more c =
      ap {A = Bool} (λ b. fault_at pass c.at (either more (record flawless { twice = repeats seen (declared_names c.fields); unknown = b }))) (types_with c.fields)

  pub sig_with : (pass : Pass) (g : Setting) (more : Flaws) (q : Sig) → sig_fault t pass g more q ≡ sig_fault u pass g more q
  sig_with pass g more q =
      ap₂ first_of (ap (λ f. fault_at pass q.at (either more f)) (head_with g q.spec.writes q.result)) (clauses_with pass g q.spec)

  pub method_with : (pass : Pass) (i : Interface) (seen : List Word) (q : Sig) → method_fault t pass i seen q ≡ method_fault u pass i seen q
  method_with pass i seen q = sig_with pass (signature_setting i q) (twice_where (is_among q.name seen)) q

  pub interface_with : (pass : Pass) (more : Flaws) (i : Interface) → interface_fault t pass more i ≡ interface_fault u pass more i
  interface_with pass more i =
      let sc = interface_globals i in
      ap₂ first_of
      (ap (λ f. fault_at pass i.at (either more f)) (ap₂ either (globals_with [] i.globals)
      (ap₂ either (all_with (flaws_of_place t sc) (flaws_of_place u sc) (place_with sc) i.boundary)
      (all_with (flaws_of_effect t sc sc) (flaws_of_effect u sc sc) (effect_with sc sc) i.init_writes))))
      (ap₂ first_of (clause_with pass true sc i.init_ensures)
      (first_named_same (λ q. q.name) (method_fault t pass i) (method_fault u pass i) (method_with pass i) [] i.methods))

  pub unit_with : (pass : Pass) (more : Flaws) (x : UnitItem) → unit_fault t pass more x ≡ unit_fault u pass more x
  unit_with pass more x =
      ap₂ first_of (ap (λ f. fault_at pass x.at (either more f)) (globals_with [] x.globals))
      (first_named_same (λ q. q.name) (λ seen q. proc_fault t pass (unit_setting x q) (map signature_of_proc x.procs) (twice_where (is_among q.name seen)) q)
      (λ seen q. proc_fault u pass (unit_setting x q) (map signature_of_proc x.procs) (twice_where (is_among q.name seen)) q)
      (λ seen q. proc_with pass (unit_setting x q) (map signature_of_proc x.procs) (twice_where (is_among q.name seen)) q) [] x.procs)

  -- ---- modules and clients

  pub module_with : (pass : Pass) (more : Flaws) (i : Option Interface) (m : Module) → module_fault t pass more i m ≡ module_fault u pass more i m
  module_with pass more i m =
      ap₂ first_of
      (ap (λ f. fault_at pass m.at (either more (either f (record flawless { unknown = is_none i; missing = misses_methods i (map (λ b. b.0) m.methods) }))))
      (globals_with (globals_of_interface i) m.globals))
      (ap₂ first_of (clause_with pass false (globals_of (init_in_module i m)) m.invariant)
      (ap₂ first_of (module_body_with pass (init_in_module i m) (signatures_of i) m.init)
      (first_in_same (λ b. module_body_fault t pass (method_in_module i m b) (signatures_of i) b.1) (λ b. module_body_fault u pass (method_in_module i m b) (signatures_of i) b.1)
      (λ b. module_body_with pass (method_in_module i m b) (signatures_of i) b.1) m.methods)))

  pub client_with : (pass : Pass) (more : Flaws) (i : Option Interface) (c : Client) → client_fault t pass more i c ≡ client_fault u pass more i c
  client_with pass more i c =
      ap₂ first_of
      (ap (λ f. fault_at pass c.at (either more (either f (record flawless { unknown = is_none i; no_main = is_none (find_main c) }))))
      (globals_with (globals_of_interface i) c.globals))
      (first_named_same (λ q. q.name) (λ seen q. proc_fault t pass (setting_in_client i c q) (callees_in_client i c) (flaws_of_client_proc i seen q) q)
      (λ seen q. proc_fault u pass (setting_in_client i c q) (callees_in_client i c) (flaws_of_client_proc i seen q) q)
      (λ seen q. proc_with pass (setting_in_client i c q) (callees_in_client i c) (flaws_of_client_proc i seen q) q) [] c.procs)
