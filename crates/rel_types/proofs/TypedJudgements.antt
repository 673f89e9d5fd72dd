-- Judgements, and pairs of typed modules.
use Rattle.std.proofs.Common.{◌≡◌, ◌↔◌, ℕ, true, false, ◌||◌, List, [], ◌∷◌, map, Option, Some, None, IsSomeAnd, refl, sym, subst, true≢false}
use Rattle.std.specs.Prelude.{bytes_eq, is_none, option_map}
use Rattle.std.specs.List.{AllByRecursion}
use Rattle.rel_lang.specs.Syntax.{Word, Body, Sig, Interface, Module, Judgement, ModulePair, Align, Bundle}
use Rattle.rel_lang.specs.State.{tables_of}
use Rattle.rel_lang.specs.Scope.{globals_of, init_setting, method_setting, unit_setting, pre_scope, post_scope}
use Rattle.rel_lang.specs.Lookup.{judgements_of, find_body, Subject}
use Rattle.rel_lang.specs.Typed.{IsTypedAlign, IsTypedInterface, IsTypedModule, IsTypedBody, IsTypedJudgement, module_sides as typed_module_sides, IsTypedAlignOf, IsTypedPair}
use Rattle.rel_flaws.specs.Flaws.{Flaws, flawless, either, Pass, ForTwice, Fault, first_of, first_in}
use Rattle.rel_flaws.specs.Code.{unknown_where}
use Rattle.rel_flaws.specs.Alignments.{Sides, align_fault}
use Rattle.rel_types.specs.Items.{rel_clause_fault, setting_in_module, code_of_subject, pre_scope_of_subject, post_scope_of_subject, globals_of_side, code_in_module, init_of_side, method_of_side, differ_in_interface, misses_methods, judgement_fault, module_sides, pair_fault}
use Rattle.rel_types.proofs.Clean.{IsClean, HasNoFault, or_false, no_fault_in_both, no_fault_in_list, clean_both}
use Rattle.rel_types.proofs.Distinct.{not_is_false, same_names_are_same, same_from_true, true_from_same}
use Rattle.rel_types.proofs.Equivalences.{iff_same, iff_back, iff_then, iff_both, some_weaker}
use Rattle.rel_types.proofs.AlignmentsTyped.{align_law}
use Rattle.rel_types.proofs.Procedures.{at_first, unknown_clean, rel_clause_law}
use Rattle.rel_types.proofs.TypedModules.{unknown_missing_clean}
use Rattle.rel_types.proofs.Matches.{matched}

module _ (b : Bundle) where
  -- ---- judgements

  abbrev sides_of : Option Subject → Option Subject → Judgement → Sides
  sides_of l r j = record { left = code_of_subject l; right = code_of_subject r; judgements = judgements_of b.items; units = Some (j.left.0, j.right.0) }

  abbrev gives_and_align : Option Subject → Option Subject → Judgement → Pass → Option Fault
  gives_and_align l r j pass =
      first_of (rel_clause_fault (tables_of b) pass true (post_scope_of_subject l) (post_scope_of_subject r) j.gives) (align_fault (tables_of b) pass (sides_of l r j) j.align)

  judgement_parts : (more : Flaws) (l r : Option Subject) (j : Judgement) → HasNoFault (λ pass. judgement_fault b pass more l r j)
      ↔ ((IsClean more × ((is_none l || is_none r) ≡ false))
      × (HasNoFault (λ pass. rel_clause_fault (tables_of b) pass false (pre_scope_of_subject l) (pre_scope_of_subject r) j.needs)
      × (HasNoFault (λ pass. rel_clause_fault (tables_of b) pass true (post_scope_of_subject l) (post_scope_of_subject r) j.gives)
      × HasNoFault (λ pass. align_fault (tables_of b) pass (sides_of l r j) j.align))))
  judgement_parts more l r j =
      iff_then (at_first j.at (either more (unknown_where (is_none l || is_none r)))
      (λ pass. first_of (rel_clause_fault (tables_of b) pass false (pre_scope_of_subject l) (pre_scope_of_subject r) j.needs) (gives_and_align l r j pass)))
      (iff_both (iff_then (clean_both more (unknown_where (is_none l || is_none r))) (iff_both iff_same (unknown_clean (is_none l || is_none r))))
      (iff_then (no_fault_in_both (λ pass. rel_clause_fault (tables_of b) pass false (pre_scope_of_subject l) (pre_scope_of_subject r) j.needs) (gives_and_align l r j))
      (iff_both iff_same (no_fault_in_both (λ pass. rel_clause_fault (tables_of b) pass true (post_scope_of_subject l) (post_scope_of_subject r) j.gives)
      (λ pass. align_fault (tables_of b) pass (sides_of l r j) j.align)))))

  pub judgement_law : (more : Flaws) (l r : Option Subject) (j : Judgement) → HasNoFault (λ pass. judgement_fault b pass more l r j)
      ↔ (IsClean more × IsSomeAnd l (λ x. IsSomeAnd r (λ y. IsTypedJudgement b j x y)))
  judgement_law more None r j = (λ h. absurd (true≢false ((judgement_parts more None r j).0 h).0.1), λ h. absurd h.1)
  judgement_law more (Some x) None j = (λ h. absurd (true≢false ((judgement_parts more (Some x) None j).0 h).0.1), λ h. absurd h.1)
  judgement_law more (Some x) (Some y) j =
      let parts = judgement_parts more (Some x) (Some y) j in
      let needs = rel_clause_law (tables_of b) false (pre_scope (unit_setting x.unit x.proc)) (pre_scope (unit_setting y.unit y.proc)) j.needs in
      let gives = rel_clause_law (tables_of b) true (post_scope (unit_setting x.unit x.proc)) (post_scope (unit_setting y.unit y.proc)) j.gives in
      let align = align_law (tables_of b) (sides_of (Some x) (Some y) j) j.align in (
        λ h. let p = parts.0 h in (p.0.0, record { needs = needs.1 p.1.0; gives = gives.1 p.1.1.0; align = align.1 p.1.1.1 }),
        λ h. let t = h.1 in parts.1 ((h.0, refl), (needs.0 t.needs, (gives.0 t.gives, align.0 t.align))),
      )

  -- ---- pairs

  interfaces_differ : (m n : Module) → (differ_in_interface (Some m) (Some n) ≡ false) ↔ (m.interface ≡ n.interface)
  interfaces_differ m n = iff_then (not_is_false (bytes_eq m.interface n.interface)) (λ e. same_from_true m.interface n.interface e, λ e. true_from_same m.interface n.interface e)

  abbrev IsHere : {A : Type 0} → Option A → Type 0
  IsHere o = IsSomeAnd o (λ a. Unit {0})

  module _ (i : Interface) (m n : Module) where
    -- the bodies of a method that both modules have
    abbrev method_sides : Pass → Option Body → Option Body → Option Sig → Sides
    method_sides pass d e q = module_sides b pass (code_in_module (Some i) (option_map (λ x. setting_in_module (Some i) m x.locals q) d))
        (code_in_module (Some i) (option_map (λ x. setting_in_module (Some i) n x.locals q) e))

    bodies_law : (q : Sig) (a : Align) (d e : Option Body) → IsHere d → IsHere e
        → IsSomeAnd d (λ x. IsSomeAnd e (λ y. IsTypedAlign (tables_of b) (typed_module_sides b (method_setting i m q x) (method_setting i n q y)) a))
        ↔ HasNoFault (λ pass. align_fault (tables_of b) pass (method_sides pass d e (Some q)) a)
    bodies_law q a None e h k = absurd h
    bodies_law q a (Some x) None h k = absurd k
    bodies_law q a (Some x) (Some y) h k = align_law (tables_of b) (method_sides ForTwice (Some x) (Some y) (Some q)) a

    abbrev HasBodies : Sig → Type 0
    HasBodies q = IsHere (find_body q.name m.methods) × IsHere (find_body q.name n.methods)

    have_bodies : IsTypedModule (tables_of b) i m → IsTypedModule (tables_of b) i n → (qs : List Sig)
        → AllByRecursion (λ q. IsSomeAnd (find_body q.name m.methods) (λ d. IsTypedBody (tables_of b) (method_setting i m q d) [] d.commands)) qs
        → AllByRecursion (λ q. IsSomeAnd (find_body q.name n.methods) (λ d. IsTypedBody (tables_of b) (method_setting i n q d) [] d.commands)) qs
        → AllByRecursion HasBodies qs
    have_bodies left right [] h k = tt
    have_bodies left right (q ∷ qs) h k = ((some_weaker _ _ (λ d t. tt) (find_body q.name m.methods) h.0, some_weaker _ _ (λ d t. tt) (find_body q.name n.methods) k.0), have_bodies left right qs h.1 k.1)

    aligned_law : (p : ModulePair) → IsTypedInterface (tables_of b) i → IsTypedModule (tables_of b) i m → IsTypedModule (tables_of b) i n
        → map (λ a. a.1) p.methods ≡ map (λ q. q.name) i.methods
        → AllByRecursion (IsTypedAlignOf b p i m n) i.methods
        ↔ HasNoFault (λ pass. first_in (λ a. align_fault (tables_of b) pass (module_sides b pass (method_of_side (Some i) (Some m) a.1) (method_of_side (Some i) (Some n) a.1)) a.2) p.methods)
    aligned_law p typed left right listed =
        iff_then (matched (λ q. q.name) (λ (a : ℕ × Word × Align). a.1)
        (λ q o. IsSomeAnd (elim o as (λ x. Option Align) [ None ↦ None | Some x ↦ Some x.2 ]) (λ a. IsSomeAnd (find_body q.name m.methods) (λ d. IsSomeAnd (find_body q.name n.methods)
        (λ e. IsTypedAlign (tables_of b) (typed_module_sides b (method_setting i m q d) (method_setting i n q e)) a))))
        (λ a o. HasNoFault (λ pass. align_fault (tables_of b) pass (method_sides pass (find_body a.1 m.methods) (find_body a.1 n.methods) o) a.2))
        HasBodies
        (λ q a same h. subst (λ x. IsSomeAnd (find_body q.name m.methods) (λ d. IsSomeAnd (find_body q.name n.methods)
        (λ e. IsTypedAlign (tables_of b) (typed_module_sides b (method_setting i m q d) (method_setting i n q e)) a.2))
        ↔ HasNoFault (λ pass. align_fault (tables_of b) pass (method_sides pass (find_body x m.methods) (find_body x n.methods) (Some q)) a.2)) same
        (bodies_law q a.2 (find_body q.name m.methods) (find_body q.name n.methods) h.0 h.1))
        i.methods p.methods (sym listed) typed.method_names (have_bodies left right i.methods left.methods right.methods))
        (iff_back (no_fault_in_list (λ pass a. align_fault (tables_of b) pass (module_sides b pass (method_of_side (Some i) (Some m) a.1) (method_of_side (Some i) (Some n) a.1)) a.2) p.methods))

    -- The right module is known to be typed where its interface is that of the left.
    pub pair_law : (more : Flaws) (p : ModulePair) → IsTypedInterface (tables_of b) i → IsTypedModule (tables_of b) i m → (m.interface ≡ n.interface → IsTypedModule (tables_of b) i n)
        → HasNoFault (λ pass. pair_fault b pass more (Some m) (Some n) (Some i) p) ↔ (IsClean more × IsTypedPair b p i m n)
    pair_law more p typed left right =
        let coupling_fault = λ (pass : Pass). rel_clause_fault (tables_of b) pass false (globals_of_side (Some i) (Some m)) (globals_of_side (Some i) (Some n)) p.coupling in
        let init_fault = λ (pass : Pass). align_fault (tables_of b) pass (module_sides b pass (init_of_side (Some i) (Some m)) (init_of_side (Some i) (Some n))) p.init.1 in
        let method_faults = λ (pass : Pass). first_in (λ a. align_fault (tables_of b) pass (module_sides b pass (method_of_side (Some i) (Some m) a.1) (method_of_side (Some i) (Some n) a.1)) a.2) p.methods in
        let unknown = is_none (Some m) || is_none (Some n) in
        let missing = differ_in_interface (Some m) (Some n) || misses_methods (Some i) (map (λ a. a.1) p.methods) in
        let own = record flawless { unknown = unknown; missing = missing } in
        let place = at_first p.at (either more own) (λ pass. first_of (coupling_fault pass) (first_of (init_fault pass) (method_faults pass))) in
        let flaws = clean_both more own in
        let two = unknown_missing_clean unknown missing in
        let split = or_false (differ_in_interface (Some m) (Some n)) (misses_methods (Some i) (map (λ a. a.1) p.methods)) in
        let differ = interfaces_differ m n in
        let listed = same_names_are_same (map (λ a. a.1) p.methods) (map (λ q. q.name) i.methods) in
        let rest = no_fault_in_both coupling_fault (λ pass. first_of (init_fault pass) (method_faults pass)) in
        let aligns = no_fault_in_both init_fault method_faults in
        let coupling = rel_clause_law (tables_of b) false (globals_of (init_setting i m)) (globals_of (init_setting i n)) p.coupling in
        let init = align_law (tables_of b) (module_sides b ForTwice (init_of_side (Some i) (Some m)) (init_of_side (Some i) (Some n))) p.init.1 in (
          λ h.
              let x = place.0 h in
              let r = rest.0 x.1 in
              let a = aligns.0 r.1 in
              let f = flaws.0 x.0 in
              let s = split.0 (two.0 f.1).1 in
              let same = differ.0 s.0 in
              let l = listed.0 s.1 in
              (f.0, record { same = same; coupling = coupling.1 r.0; init = init.1 a.0; listed = l; methods = (aligned_law p typed left (right same) l).1 a.1 }),
          λ h.
              let t = h.1 in
              place.1 (
                flaws.1 (h.0, two.1 (refl, split.1 (differ.1 t.same, listed.1 t.listed))),
                rest.1 (coupling.0 t.coupling, aligns.1 (init.0 t.init, (aligned_law p typed left (right t.same) t.listed).0 t.methods)),
              ),
        )

pub trial_point : true ≡ true
trial_point = refl
