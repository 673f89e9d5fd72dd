-- Procedures, methods and bodies have the same faults in settings that see the same.
use Rattle.std.proofs.Common.{◌≡◌, Bool, true, false, ◌||◌, List, [], ◌∷◌, ◌++◌, map, Option, Some, None, refl, ap, ap₂, ◌∙◌, subst}
use Rattle.std.specs.Prelude.{bytes_eq}
use Rattle.std.specs.List.{list_any}
use Rattle.rel_lang.specs.Syntax.{Word, Ty, Decl, Effect, Spec, Body, Proc, Sig, Interface, UnitItem}
use Rattle.rel_lang.specs.State.{Tables, Scope, ByCall}
use Rattle.rel_lang.specs.Scope.{Setting, result_name, declared, result_variable, globals_of, parameters_of, own_variables, pre_scope, post_scope, body_scope, interface_globals, unit_globals, unit_setting, signature_setting}
use Rattle.rel_lang.specs.Typed.{Signature, signature_of_proc}
use Rattle.rel_flaws.specs.Flaws.{Flaws, flawless, either, Pass, Fault, fault_at, first_of}
use Rattle.rel_flaws.specs.Inference.{is_among, is_in_scope, names_unknown_class, have_unknown_types}
use Rattle.rel_types.specs.Items.{repeats, declared_names, seen_by_members, flaws_of_effect, flaws_of_globals, flaws_of_head, clashes_in_module, clauses_fault, proc_fault, module_body_fault, sig_fault, method_fault, first_named, twice_where}
use Rattle.rel_types.specs.Lookups.{SameLookups, SameNames, SameCode, SameSettings}
use Rattle.rel_types.specs.Called.{SameCallees}
use Rattle.rel_types.proofs.Lookups.{same_after}
use Rattle.rel_types.proofs.Declaring.{same_self}
use Rattle.rel_types.proofs.Repeats.{same_names_of, same_names_after, repeats_same}
use Rattle.rel_types.proofs.Clashes.{declared_same}
use Rattle.rel_types.proofs.Settings.{clause_same, effect_same, all_same}
use Rattle.rel_types.proofs.Knowledge.{block_same}
use Rattle.rel_types.proofs.Named.{told}

-- ---- scopes

pub members_same : (sc sd : Scope) → SameLookups sc sd → SameNames (seen_by_members sc) (seen_by_members sd)
members_same sc sd h x = ap (λ b. bytes_eq x result_name || b) (same_names_of sc sd h x)

-- equal declarations
same_equal : (b : Bool) (ds es : List Decl) → ds ≡ es → SameLookups (declared ByCall b ds) (declared ByCall b es)
same_equal b ds es e = subst (λ l. SameLookups (declared ByCall b ds) (declared ByCall b l)) e (same_self (declared ByCall b ds))

same_result : (o p : Option Ty) → o ≡ p → SameLookups (result_variable o) (result_variable p)
same_result o p e = subst (λ q. SameLookups (result_variable o) (result_variable q)) e (same_self (result_variable o))

module _ (g h : Setting) (k : SameSettings g h) where
  pub same_globals : SameLookups (globals_of g) (globals_of h)
  same_globals = same_after g.interface g.own h.interface h.own k.interface k.own

  pub same_pre : SameLookups (pre_scope g) (pre_scope h)
  same_pre = same_after (globals_of g) (parameters_of g) (globals_of h) (parameters_of h) same_globals (same_equal false g.parameters h.parameters k.parameters)

  pub same_post : SameLookups (post_scope g) (post_scope h)
  same_post = same_after (pre_scope g) (result_variable g.result) (pre_scope h) (result_variable h.result) same_pre (same_result g.result h.result k.result)

  pub same_body : SameLookups (body_scope g) (body_scope h)
  same_body =
      same_after (pre_scope g) (own_variables g) (pre_scope h) (own_variables h) same_pre
      (same_after (declared ByCall true g.locals) (result_variable g.result) (declared ByCall true h.locals) (result_variable h.result)
      (same_equal true g.locals h.locals k.locals) (same_result g.result h.result k.result))

  pub same_code : (cs ds : List Signature) (may_call : Bool) → SameCallees cs ds
      → SameCode (record { scope = body_scope g; callees = cs; may_call = may_call }) (record { scope = body_scope h; callees = ds; may_call = may_call })
  same_code cs ds may_call l = record { scope = same_body; callees = l; may_call = λ i. may_call }

  -- ---- members

  own_names : repeats (seen_by_members (globals_of g)) (declared_names (g.parameters ++ g.locals)) ≡ repeats (seen_by_members (globals_of h)) (declared_names (h.parameters ++ h.locals))
  own_names =
      repeats_same (seen_by_members (globals_of g)) (seen_by_members (globals_of h)) (members_same (globals_of g) (globals_of h) same_globals) (declared_names (g.parameters ++ g.locals))
      ∙ ap₂ (λ ps ls. repeats (seen_by_members (globals_of h)) (declared_names (ps ++ ls))) k.parameters k.locals

  pub head_same : (tables : Tables) (writes : List Effect) (result : Ty) → flaws_of_head tables g writes result ≡ flaws_of_head tables h writes result
  head_same tables writes result =
      ap₂ either
      (ap₂ {C = Flaws} (λ t u. record flawless { twice = t; unknown = u || names_unknown_class tables result }) own_names
      (ap₂ (λ ps ls. have_unknown_types tables (ps ++ ls)) k.parameters k.locals))
      (all_same tables (flaws_of_effect tables (globals_of g) (pre_scope g)) (flaws_of_effect tables (globals_of h) (pre_scope h))
      (effect_same tables (globals_of g) (globals_of h) (pre_scope g) (pre_scope h) same_globals same_pre) writes)

  pub clauses_same : (tables : Tables) (pass : Pass) (s : Spec) → clauses_fault tables pass g s ≡ clauses_fault tables pass h s
  clauses_same tables pass s =
      ap₂ first_of (clause_same tables pass false (pre_scope g) (pre_scope h) same_pre s.needs) (clause_same tables pass true (post_scope g) (post_scope h) same_post s.gives)

  pub proc_same : (tables : Tables) (pass : Pass) (cs ds : List Signature) → SameCallees cs ds → (more : Flaws) (q : Proc)
      → proc_fault tables pass g cs more q ≡ proc_fault tables pass h ds more q
  proc_same tables pass cs ds l more q =
      ap₂ first_of (ap (λ f. fault_at pass q.at (either more f)) (head_same tables q.spec.writes q.result))
      (ap₂ first_of (clauses_same tables pass q.spec)
      (block_same tables pass (record { scope = body_scope g; callees = cs; may_call = true }) (record { scope = body_scope h; callees = ds; may_call = true })
      (same_code cs ds true l) q.body.commands))

  pub sig_same : (tables : Tables) (pass : Pass) (more : Flaws) (q : Sig) → sig_fault tables pass g more q ≡ sig_fault tables pass h more q
  sig_same tables pass more q =
      ap₂ first_of (ap (λ f. fault_at pass q.at (either more f)) (head_same tables q.spec.writes q.result)) (clauses_same tables pass q.spec)

  own_clashes : clashes_in_module g ≡ clashes_in_module h
  own_clashes =
      let names : List Word = declared_names h.parameters in
      ap₂ (λ a b. a || b)
      (declared_same g.own h.own k.own g.parameters ∙ ap (list_any (λ d. is_in_scope d.name h.own)) k.parameters)
      (ap₂ (λ ps ls. repeats (declared_names ps ++ seen_by_members (globals_of g)) (declared_names ls)) k.parameters k.locals
      ∙ repeats_same (names ++ seen_by_members (globals_of g)) (names ++ seen_by_members (globals_of h))
      (same_names_after names (seen_by_members (globals_of g)) names (seen_by_members (globals_of h)) (λ x. refl) (members_same (globals_of g) (globals_of h) same_globals))
      (declared_names h.locals))

  pub module_body_same : (tables : Tables) (pass : Pass) (cs ds : List Signature) → SameCallees cs ds → (b : Body)
      → module_body_fault tables pass g cs b ≡ module_body_fault tables pass h ds b
  module_body_same tables pass cs ds l b =
      ap₂ first_of
      (ap₂ {C = Option Fault} (λ t u. fault_at pass b.at (record flawless { twice = t; unknown = u })) own_clashes (ap (have_unknown_types tables) k.locals))
      (block_same tables pass (record { scope = body_scope g; callees = cs; may_call = false }) (record { scope = body_scope h; callees = ds; may_call = false })
      (same_code cs ds false l) b.commands)

-- ---- items

-- the variables of an item, behind globals that are the same
pub globals_same : (tables : Tables) (before after : Scope) → SameLookups before after → (ds : List Decl) → flaws_of_globals tables before ds ≡ flaws_of_globals tables after ds
globals_same tables before after h ds =
    ap (λ t. record flawless { twice = t; unknown = have_unknown_types tables ds })
    (repeats_same (seen_by_members before) (seen_by_members after) (members_same before after h) (declared_names ds))

-- two searches that agree on each member find the same
pub first_named_same : {X : Type 0} (name : X → Word) (f f' : List Word → X → Option Fault) → ((seen : List Word) (x : X) → f seen x ≡ f' seen x)
    → (seen : List Word) (xs : List X) → first_named name f seen xs ≡ first_named name f' seen xs
first_named_same name f f' h seen [] = λ i. None
first_named_same name f f' h seen (x ∷ xs) = ap₂ first_of (h seen x) (first_named_same name f f' h (name x ∷ seen) xs)

-- the procedures of a unit
abbrev pub proc_in : Scope → Scope → Proc → Setting
proc_in interface own q = record { interface = interface; own = own; parameters = q.params; locals = q.body.locals; result = Some q.result }

pub unit_same : (tables : Tables) (pass : Pass) (u : UnitItem) (none own : Scope) (callees : List Signature) → SameLookups none [] → SameLookups own (unit_globals u)
    → SameCallees callees (map signature_of_proc u.procs)
    → first_named (λ q. q.name) (told (λ q. q.name) (λ more q. proc_fault tables pass (proc_in none own q) callees more q)) [] u.procs
    ≡ first_named (λ q. q.name) (told (λ q. q.name) (λ more q. proc_fault tables pass (unit_setting u q) (map signature_of_proc u.procs) more q)) [] u.procs
unit_same tables pass u none own callees h k l =
    first_named_same (λ q. q.name) (told (λ q. q.name) (λ more q. proc_fault tables pass (proc_in none own q) callees more q))
    (told (λ q. q.name) (λ more q. proc_fault tables pass (unit_setting u q) (map signature_of_proc u.procs) more q))
    (λ seen q. proc_same (proc_in none own q) (unit_setting u q)
    (record { interface = h; own = k; parameters = λ i. q.params; locals = λ i. q.body.locals; result = λ i. Some q.result }) tables pass
    callees (map signature_of_proc u.procs) l (twice_where (is_among q.name seen)) q) [] u.procs

-- the methods of an interface
abbrev pub method_in : Scope → Scope → Sig → Setting
method_in interface own q = record { interface = interface; own = own; parameters = q.params; locals = []; result = Some q.result }

pub methods_same : (tables : Tables) (pass : Pass) (i : Interface) (globals none : Scope) → SameLookups globals (interface_globals i) → SameLookups none []
    → first_named (λ q. q.name) (told (λ q. q.name) (λ more q. sig_fault tables pass (method_in globals none q) more q)) [] i.methods
    ≡ first_named (λ q. q.name) (method_fault tables pass i) [] i.methods
methods_same tables pass i globals none h k =
    first_named_same (λ q. q.name) (told (λ q. q.name) (λ more q. sig_fault tables pass (method_in globals none q) more q)) (method_fault tables pass i)
    (λ seen q. sig_same (method_in globals none q) (signature_setting i q)
    (record { interface = h; own = k; parameters = λ j. q.params; locals = λ j. []; result = λ j. Some q.result }) tables pass (twice_where (is_among q.name seen)) q) [] i.methods
