-- Modules of a typed interface.
use Rattle.std.proofs.Common.{◌≡◌, ◌↔◌, Bool, true, false, List, [], ◌∷◌, ◌++◌, map, Some, None, IsSomeAnd, refl, sym, ap, ap₂, subst, ◌∙◌}
use Rattle.std.specs.Prelude.{is_none, option_map}
use Rattle.std.specs.List.{AllByRecursion}
use Rattle.std.proofs.lemmas.List.{append-nil}
use Rattle.rel_lang.specs.Syntax.{Word, Ty, Body, Sig, Interface, Module}
use Rattle.rel_lang.specs.State.{Tables, ByModule}
use Rattle.rel_lang.specs.Scope.{Setting, result_name, result_variable, interface_globals, module_globals, globals_of, body_scope, signature_setting, init_setting, method_setting}
use Rattle.rel_lang.specs.Lookup.{find_body}
use Rattle.rel_lang.specs.Typed.{AreDistinct, names_of, Signature, HaveTypes, IsTypedBlock, IsTypedBody, IsTypedMethod, IsTypedInterface, IsTypedModule}
use Rattle.rel_flaws.specs.Flaws.{Flaws, flawless, either, Pass, first_of, first_in}
use Rattle.rel_flaws.specs.Inference.{have_unknown_types}
use Rattle.rel_flaws.specs.Code.{block_fault}
use Rattle.rel_types.specs.Items.{repeats, declared_names, seen_by_members, flaws_of_globals, clause_fault, module_body_fault, setting_in_module, init_in_module, method_in_module, clashes_in_module, signatures_of, misses_methods, module_fault}
use Rattle.rel_types.proofs.Clean.{IsClean, HasNoFault, no_fault_in_both, no_fault_in_list, clean_both}
use Rattle.rel_types.proofs.Distinct.{same_names_are_same, distinct_append}
use Rattle.rel_types.proofs.Equivalences.{iff_same, iff_back, iff_then, iff_both, iff_along}
use Rattle.rel_types.proofs.Commands.{block_law}
use Rattle.rel_types.proofs.Procedures.{at_first, twice_unknown_clean, names_append, names_declared, body_names, body_with_result, types_law, clause_law}
use Rattle.rel_types.proofs.TypedUnits.{behind, globals_law}
use Rattle.rel_types.proofs.Matches.{matched}
use Rattle.rel_types.proofs.Clashes.{clashes_are_repeats}

pub unknown_missing_clean : (u m : Bool) → IsClean (record flawless { unknown = u; missing = m }) ↔ ((u ≡ false) × (m ≡ false))
unknown_missing_clean u m = (λ e. (ap (λ f. f.unknown) e, ap (λ f. f.missing) e), λ h. rw (h.0, h.1) refl)

-- the names of a body with no result
names_without_result : (g : Setting) → g.result ≡ None → names_of (body_scope g) ≡ names_of (globals_of g) ++ declared_names (g.parameters ++ g.locals)
names_without_result g none =
    body_names g ∙ ap (λ r. names_of (globals_of g) ++ (declared_names (g.parameters ++ g.locals) ++ names_of (result_variable r))) none
    ∙ ap (λ ns. names_of (globals_of g) ++ ns) (append-nil (declared_names (g.parameters ++ g.locals)))

-- the names of a module's globals behind those of its interface
pub module_names : (i : Interface) (m : Module) → names_of (interface_globals i ++ module_globals m) ≡ names_of (interface_globals i) ++ declared_names m.globals
module_names i m = names_append (interface_globals i) (module_globals m) ∙ ap (λ ns. names_of (interface_globals i) ++ ns) (names_declared (ByModule m.name) true m.globals)

module _ (tables : Tables) where
  body_law : (g : Setting) (callees : List Signature) (b : Body) → HasNoFault (λ pass. module_body_fault tables pass g callees b)
      ↔ (((clashes_in_module g ≡ false) × HaveTypes tables g.locals)
      × IsTypedBlock tables (record { scope = body_scope g; callees = [] }) b.commands)
  body_law g callees b =
      iff_then (at_first b.at (record flawless { twice = clashes_in_module g; unknown = have_unknown_types tables g.locals })
      (λ pass. block_fault tables pass (record { scope = body_scope g; callees = callees; may_call = false }) b.commands))
      (iff_both (iff_then (twice_unknown_clean (clashes_in_module g) (have_unknown_types tables g.locals)) (iff_both iff_same (iff_back (types_law tables g.locals))))
      (iff_back (block_law tables (record { scope = body_scope g; callees = callees; may_call = false }) b.commands)))

  -- the parameters of a method that is typed are right in the interface
  method_parameters : (i : Interface) → AreDistinct (result_name ∷ names_of (interface_globals i)) → (q : Sig) → IsTypedMethod tables i q
      → repeats (seen_by_members (interface_globals i)) (declared_names q.params) ≡ false
  method_parameters i distinct q typed =
      let g = signature_setting i q in
      let premise : AreDistinct (result_name ∷ names_of (globals_of g)) = subst (λ sc. AreDistinct (result_name ∷ names_of sc)) (sym (append-nil (interface_globals i))) distinct in
      sym (ap₂ (λ sc ds. repeats (seen_by_members sc) (declared_names ds)) (append-nil (interface_globals i)) (append-nil q.params))
      ∙ (body_with_result g q.result refl premise).0 typed.names

  -- a body with a result, whose parameters are right in the interface
  method_body_law : (g : Setting) (t : Ty) → g.result ≡ Some t → AreDistinct (result_name ∷ names_of (globals_of g))
      → repeats (seen_by_members g.interface) (declared_names g.parameters) ≡ false → (callees : List Signature) (b : Body)
      → IsTypedBody tables g [] b.commands ↔ HasNoFault (λ pass. module_body_fault tables pass g callees b)
  method_body_law g t is premise right callees b =
      let names = iff_then (body_with_result g t is premise) (iff_along (λ x. x ≡ false) _ _ (clashes_are_repeats g right)) in
      let body = body_law g callees b in (
        λ h. body.1 ((names.0 h.names, h.locals), h.commands),
        λ h. let p = body.0 h in record { names = names.1 p.0.0; locals = p.0.1; commands = p.1 },
      )

  methods_law : (i : Interface) (m : Module) → AreDistinct (result_name ∷ names_of (interface_globals i ++ module_globals m)) → IsTypedInterface tables i
      → map (λ b. b.0) m.methods ≡ map (λ q. q.name) i.methods
      → AllByRecursion (λ q. IsSomeAnd (find_body q.name m.methods) (λ b. IsTypedBody tables (method_setting i m q b) [] b.commands)) i.methods
      ↔ HasNoFault (λ pass. first_in (λ b. module_body_fault tables pass (method_in_module (Some i) m b) (signatures_of (Some i)) b.1) m.methods)
  methods_law i m premise typed listed =
      iff_then (matched (λ q. q.name) (λ (b : Word × Body). b.0)
      (λ q o. IsSomeAnd (option_map (λ (b : Word × Body). b.1) o) (λ d. IsTypedBody tables (method_setting i m q d) [] d.commands))
      (λ b o. HasNoFault (λ pass. module_body_fault tables pass (setting_in_module (Some i) m b.1.locals o) (signatures_of (Some i)) b.1))
      (IsTypedMethod tables i)
      (λ q b same h. method_body_law (method_setting i m q b.1) q.result refl premise (method_parameters i typed.names q h) (signatures_of (Some i)) b.1)
      i.methods m.methods (sym listed) typed.method_names typed.methods)
      (iff_back (no_fault_in_list (λ pass b. module_body_fault tables pass (method_in_module (Some i) m b) (signatures_of (Some i)) b.1) m.methods))

  pub module_law : (more : Flaws) (i : Interface) (m : Module) → IsTypedInterface tables i → m.interface ≡ i.name
      → HasNoFault (λ pass. module_fault tables pass more (Some i) m) ↔ (IsClean more × IsTypedModule tables i m)
  module_law more i m typed named =
      let g = init_setting i m in
      let sigs = signatures_of (Some i) in
      let lists = record flawless { unknown = is_none (Some i); missing = misses_methods (Some i) (map (λ b. b.0) m.methods) } in
      let init = λ (pass : Pass). module_body_fault tables pass (init_in_module (Some i) m) sigs m.init in
      let methods = λ (pass : Pass). first_in (λ b. module_body_fault tables pass (method_in_module (Some i) m b) sigs b.1) m.methods in
      let place = at_first m.at (either more (either (flaws_of_globals tables (interface_globals i) m.globals) lists))
      (λ pass. first_of (clause_fault tables pass false (globals_of (init_in_module (Some i) m)) m.invariant) (first_of (init pass) (methods pass))) in
      let rest = no_fault_in_both (λ pass. clause_fault tables pass false (globals_of (init_in_module (Some i) m)) m.invariant) (λ pass. first_of (init pass) (methods pass)) in
      let bodies = no_fault_in_both init methods in
      let flaws = clean_both more (either (flaws_of_globals tables (interface_globals i) m.globals) lists) in
      let own = clean_both (flaws_of_globals tables (interface_globals i) m.globals) lists in
      let globals = globals_law tables (interface_globals i) m.globals typed.names in
      let missing = unknown_missing_clean (is_none (Some i)) (misses_methods (Some i) (map (λ b. b.0) m.methods)) in
      let listed = same_names_are_same (map (λ b. b.0) m.methods) (map (λ q. q.name) i.methods) in
      let invariant = clause_law tables false (globals_of g) m.invariant in
      let body = body_law g sigs m.init in
      let sees = module_names i m in
      let seen = behind (result_name ∷ names_of (globals_of g)) (declared_names m.init.locals) in
      let whole = ap (λ ns. result_name ∷ ns) (names_without_result g refl) in (
        λ h.
            let p = place.0 h in
            let r = rest.0 p.1 in
            let b = bodies.0 r.1 in
            let f = flaws.0 p.0 in
            let o = own.0 f.1 in
            let n = globals.0 o.0 in
            let premise : AreDistinct (result_name ∷ names_of (globals_of g)) = subst (λ ns. AreDistinct (result_name ∷ ns)) (sym sees) n.0 in
            let l = listed.0 (missing.0 o.1).1 in
            let t = body.0 b.0 in
            let names : AreDistinct (result_name ∷ names_of (body_scope g)) = subst AreDistinct (sym whole) ((seen premise).0 t.0.0) in (
              f.0,
              record {
                interface = named;
                types = n.1;
                names = names;
                invariant = invariant.1 r.0;
                init = record { names = names.1; locals = t.0.1; commands = t.1 };
                listed = l;
                methods = (methods_law i m premise typed l).1 b.1;
              },
            ),
        λ h.
            let t = h.1 in
            let names : AreDistinct (result_name ∷ (names_of (globals_of g) ++ declared_names m.init.locals)) = subst AreDistinct whole t.names in
            let premise : AreDistinct (result_name ∷ names_of (globals_of g)) = ((distinct_append (result_name ∷ names_of (globals_of g)) (declared_names m.init.locals)).0 names).0 in
            place.1 (
              flaws.1 (h.0, own.1 (globals.1 (subst (λ ns. AreDistinct (result_name ∷ ns)) sees premise, t.types), missing.1 (refl, listed.1 t.listed))),
              rest.1 (
                invariant.0 t.invariant,
                bodies.1 (
                  body.1 (((seen premise).1 names, t.init.locals), t.init.commands),
                  (methods_law i m premise typed t.listed).0 t.methods,
                ),
              ),
            ),
      )
