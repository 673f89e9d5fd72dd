-- The parts of items: types, effects, clauses and procedures.
use Rattle.std.proofs.Common.{◌≡◌, ◌↔◌, ℕ, Bool, true, false, not, ◌||◌, List, [], ◌∷◌, ◌++◌, Option, Some, refl, ap, subst, ◌∙◌, append_assoc}
use Rattle.std.specs.List.{AllByRecursion}
use Rattle.std.proofs.lemmas.List.{map-append}
use Rattle.rel_lang.specs.Syntax.{Word, Ty, Int, Rgn, Class, Decl, Place, Effect, Global, Locations, Clause, RelClause, Spec, Proc}
use Rattle.rel_lang.specs.State.{Tables, Owner, Scope, find_variable, find_field, ByCall}
use Rattle.rel_lang.specs.Scope.{declared, Setting, result_name, result_variable, globals_of, pre_scope, post_scope, body_scope}
use Rattle.rel_lang.specs.Typed.{AreDistinct, names_of, Signature, IsDeclaredType, HaveTypes, IsTypedFormula, IsTypedRel, IsTypedPlace, IsTypedEffect, AreTypedWrites, IsTypedProc}
use Rattle.rel_flaws.specs.Flaws.{Flaws, flawless, either, Pass, Fault, fault_at, first_of}
use Rattle.rel_flaws.specs.Inference.{is_field, is_class, names_unknown_class, have_unknown_types, flaws_of_region}
use Rattle.rel_flaws.specs.Code.{unknown_where, block_fault}
use Rattle.rel_types.specs.Items.{repeats, declared_names, seen_by_members, flaws_of_place, flaws_of_effect, flaws_of_all, clause_fault, rel_clause_fault, clauses_fault, flaws_of_head, proc_fault}
use Rattle.rel_types.proofs.Clean.{IsClean, HasNoFault, or_false, no_fault_in_both, no_fault_at, clean_both}
use Rattle.rel_types.proofs.Distinct.{AreApart, not_is_false, repeats_is_false, distinct_append, apart_cons, apart_of_append}
use Rattle.rel_types.proofs.Equivalences.{iff_same, iff_back, iff_then, iff_both, iff_all, all_of_append, some_is_tested}
use Rattle.rel_types.proofs.Expressions.{among_law}
use Rattle.rel_types.proofs.Formulas.{formula_law, region_law}
use Rattle.rel_types.proofs.Relations.{rel_law}
use Rattle.rel_types.proofs.Commands.{block_law}

-- ---- faults at a place that come before others

pub at_first : (at : ℕ) (f : Flaws) (rest : Pass → Option Fault) → HasNoFault (λ pass. first_of (fault_at pass at f) (rest pass)) ↔ (IsClean f × HasNoFault rest)
at_first at f rest = iff_then (no_fault_in_both (λ pass. fault_at pass at f) rest) (iff_both (no_fault_at at f) iff_same)

-- ---- flaws of one or two kinds

pub unknown_clean : (u : Bool) → IsClean (unknown_where u) ↔ (u ≡ false)
unknown_clean u = (λ e. ap (λ f. f.unknown) e, λ e. rw e refl)

pub twice_unknown_clean : (t u : Bool) → IsClean (record flawless { twice = t; unknown = u }) ↔ ((t ≡ false) × (u ≡ false))
twice_unknown_clean t u = (λ e. (ap (λ f. f.twice) e, ap (λ f. f.unknown) e), λ h. rw (h.0, h.1) refl)

pub clean_all : {X : Type 0} (tables : Tables) (flaws : X → Flaws) (xs : List X) → IsClean (flaws_of_all tables flaws xs) ↔ AllByRecursion (λ x. IsClean (flaws x)) xs
clean_all tables flaws [] = (λ e. tt, λ h. refl)
clean_all tables flaws (x ∷ xs) = iff_then (clean_both (flaws x) (flaws_of_all tables flaws xs)) (iff_both iff_same (clean_all tables flaws xs))

-- ---- names in scope

pub names_append : (vs ws : Scope) → names_of (vs ++ ws) ≡ names_of vs ++ names_of ws
names_append vs ws = map-append (λ v. v.name) vs ws

pub names_declared : (o : Owner) (a : Bool) (ds : List Decl) → names_of (declared o a ds) ≡ declared_names ds
names_declared o a [] = refl
names_declared o a (d ∷ ds) = ap (λ ns. d.name ∷ ns) (names_declared o a ds)

-- the names that a body sees
pub body_names : (g : Setting) → names_of (body_scope g) ≡ names_of (globals_of g) ++ (declared_names (g.parameters ++ g.locals) ++ names_of (result_variable g.result))
body_names g =
    names_append (globals_of g ++ declared ByCall false g.parameters) (declared ByCall true g.locals ++ result_variable g.result)
    ∙ rw (
      names_append (globals_of g) (declared ByCall false g.parameters),
      names_append (declared ByCall true g.locals) (result_variable g.result),
      names_declared ByCall false g.parameters,
      names_declared ByCall true g.locals,
      map-append (λ (d : Decl). d.name) g.parameters g.locals,
    )
    (associated (names_of (globals_of g)) (declared_names g.parameters) (declared_names g.locals) (names_of (result_variable g.result)))
  where
    associated : (a b c d : List Word) → (a ++ b) ++ (c ++ d) ≡ a ++ ((b ++ c) ++ d)
    associated a b c d = simp append_assoc

-- the names of a body with a result, where no two globals have one name and none is `result`
with_result : (r : Word) (before own : List Word) → AreDistinct (r ∷ before) → AreDistinct (before ++ (own ++ r ∷ [])) ↔ (AreDistinct own × AreApart (r ∷ before) own)
with_result r before own premise =
    let whole = distinct_append before (own ++ r ∷ []) in
    let inner = distinct_append own (r ∷ []) in
    let split = apart_of_append before own (r ∷ []) in
    let seen = apart_cons r before own in (
      λ h. let w = whole.0 h in let i = inner.0 w.1 in let s = split.0 w.2 in (i.0, seen.1 (i.2.0, s.0)),
      λ h. let s = seen.0 h.1 in whole.1 (premise.1, inner.1 (h.0, (λ i. i, tt), (s.0, tt)), split.1 (s.1, (premise.0, tt))),
    )

-- a body with a result, behind globals of different names
pub body_with_result : (g : Setting) (t : Ty) → g.result ≡ Some t → AreDistinct (result_name ∷ names_of (globals_of g))
    → AreDistinct (names_of (body_scope g)) ↔ (repeats (seen_by_members (globals_of g)) (declared_names (g.parameters ++ g.locals)) ≡ false)
body_with_result g t is premise =
    iff_then (subst (λ ns. AreDistinct (names_of (body_scope g)) ↔ AreDistinct ns) (body_names g ∙ ap (λ r. names_of (globals_of g) ++ (declared_names (g.parameters ++ g.locals) ++ names_of (result_variable r))) is) iff_same)
    (iff_then (with_result result_name (names_of (globals_of g)) (declared_names (g.parameters ++ g.locals)) premise)
    (iff_back (repeats_is_false (seen_by_members (globals_of g)) (declared_names (g.parameters ++ g.locals)))))

module _ (tables : Tables) where
  -- ---- types

  pub type_law : (t : Ty) → IsDeclaredType tables t ↔ (names_unknown_class tables t ≡ false)
  type_law Int = (λ h. refl, λ e. tt)
  type_law Rgn = (λ h. refl, λ e. tt)
  type_law (Class c) = iff_then (among_law c tables.classes) (iff_back (not_is_false (is_class tables c)))

  pub types_law : (ds : List Decl) → HaveTypes tables ds ↔ (have_unknown_types tables ds ≡ false)
  types_law [] = (λ h. refl, λ e. tt)
  types_law (d ∷ ds) = iff_back (iff_then (or_false (names_unknown_class tables d.ty) (have_unknown_types tables ds)) (iff_both (iff_back (type_law d.ty)) (iff_back (types_law ds))))

  types_append : (ds es : List Decl) → (HaveTypes tables ds × HaveTypes tables es) ↔ (have_unknown_types tables (ds ++ es) ≡ false)
  types_append ds es = iff_then (iff_back (all_of_append (λ d. IsDeclaredType tables d.ty) ds es)) (types_law (ds ++ es))

  -- ---- effects

  pub place_law : (sc : Scope) (p : Place) → IsTypedPlace tables sc p ↔ IsClean (flaws_of_place tables sc p)
  place_law sc p =
      let field = iff_then (some_is_tested (find_field tables p.field)) (iff_back (unknown_clean (not (is_field tables p.field)))) in
      let region = region_law tables sc p.region in
      let both = clean_both (unknown_where (not (is_field tables p.field))) (flaws_of_region tables sc p.region) in
      (λ h. both.1 (field.0 h.1, region.0 h.0), λ c. let b = both.0 c in (region.1 b.1, field.1 b.0))

  pub effect_law : (globals sc : Scope) (e : Effect) → IsTypedEffect tables globals sc e ↔ IsClean (flaws_of_effect tables globals sc e)
  effect_law globals sc (Global x) = iff_then (some_is_tested (find_variable x globals)) (iff_back (unknown_clean _))
  effect_law globals sc (Locations p) = place_law sc p

  pub effects_law : (globals sc : Scope) (es : List Effect) → AllByRecursion (IsTypedEffect tables globals sc) es ↔ IsClean (flaws_of_all tables (flaws_of_effect tables globals sc) es)
  effects_law globals sc es = iff_then (iff_all (IsTypedEffect tables globals sc) _ (effect_law globals sc) es) (iff_back (clean_all tables (flaws_of_effect tables globals sc) es))

  pub places_law : (sc : Scope) (ps : List Place) → AllByRecursion (IsTypedPlace tables sc) ps ↔ IsClean (flaws_of_all tables (flaws_of_place tables sc) ps)
  places_law sc ps = iff_then (iff_all (IsTypedPlace tables sc) _ (place_law sc) ps) (iff_back (clean_all tables (flaws_of_place tables sc) ps))

  -- ---- clauses

  pub clause_law : (old : Bool) (sc : Scope) (c : Clause) → IsTypedFormula tables old sc c.formula ↔ HasNoFault (λ pass. clause_fault tables pass old sc c)
  clause_law old sc c = iff_then (formula_law tables old sc c.formula) (iff_back (no_fault_at c.at _))

  pub rel_clause_law : (old : Bool) (l r : Scope) (c : RelClause) → IsTypedRel tables old l r c.formula ↔ HasNoFault (λ pass. rel_clause_fault tables pass old l r c)
  rel_clause_law old l r c = iff_then (rel_law tables old l r c.formula) (iff_back (no_fault_at c.at _))

  pub clauses_law : (g : Setting) (s : Spec)
      → (IsTypedFormula tables false (pre_scope g) s.needs.formula × IsTypedFormula tables true (post_scope g) s.gives.formula) ↔ HasNoFault (λ pass. clauses_fault tables pass g s)
  clauses_law g s = iff_then (iff_both (clause_law false (pre_scope g) s.needs) (clause_law true (post_scope g) s.gives))
      (iff_back (no_fault_in_both (λ pass. clause_fault tables pass false (pre_scope g) s.needs) (λ pass. clause_fault tables pass true (post_scope g) s.gives)))

  -- ---- heads

  pub record IsTypedHead (g : Setting) (es : List Effect) (t : Ty) : Type 0 where
    pub names : repeats (seen_by_members (globals_of g)) (declared_names (g.parameters ++ g.locals)) ≡ false
    pub params : HaveTypes tables g.parameters
    pub locals : HaveTypes tables g.locals
    pub result : IsDeclaredType tables t
    pub writes : AreTypedWrites tables g es

  pub head_law : (g : Setting) (writes : List Effect) (result : Ty) → IsTypedHead g writes result ↔ IsClean (flaws_of_head tables g writes result)
  head_law g writes result =
      let both = clean_both (record flawless {
        twice = repeats (seen_by_members (globals_of g)) (declared_names (g.parameters ++ g.locals));
        unknown = have_unknown_types tables (g.parameters ++ g.locals) || names_unknown_class tables result;
      }) (flaws_of_all tables (flaws_of_effect tables (globals_of g) (pre_scope g)) writes) in
      let two = twice_unknown_clean (repeats (seen_by_members (globals_of g)) (declared_names (g.parameters ++ g.locals))) (have_unknown_types tables (g.parameters ++ g.locals) || names_unknown_class tables result) in
      let types = or_false (have_unknown_types tables (g.parameters ++ g.locals)) (names_unknown_class tables result) in
      let declared = types_append g.parameters g.locals in
      let given = type_law result in
      let written = effects_law (globals_of g) (pre_scope g) writes in (
        λ h. both.1 (two.1 (h.names, types.1 (declared.0 (h.params, h.locals), given.0 h.result)), written.0 h.writes),
        λ c.
            let b = both.0 c in
            let t = two.0 b.0 in
            let u = types.0 t.1 in
            let d = declared.1 u.0 in
            record { names = t.0; params = d.0; locals = d.1; result = given.1 u.1; writes = written.1 b.1 },
      )

  -- ---- procedures

  abbrev pub setting_of_proc : Scope → Scope → Proc → Setting
  setting_of_proc interface own q = record { interface = interface; own = own; parameters = q.params; locals = q.body.locals; result = Some q.result }

  pub proc_law : (interface own : Scope) (callees : List Signature) (more : Flaws) (q : Proc) → AreDistinct (result_name ∷ names_of (interface ++ own))
      → HasNoFault (λ pass. proc_fault tables pass (setting_of_proc interface own q) callees more q) ↔ (IsClean more × IsTypedProc tables (setting_of_proc interface own q) callees q)
  proc_law interface own callees more q premise =
      let g = setting_of_proc interface own q in
      let names = body_with_result g q.result refl premise in
      let place = at_first q.at (either more (flaws_of_head tables g q.spec.writes q.result))
      (λ pass. first_of (clauses_fault tables pass g q.spec) (block_fault tables pass (record { scope = body_scope g; callees = callees; may_call = true }) q.body.commands)) in
      let rest = no_fault_in_both (λ pass. clauses_fault tables pass g q.spec) (λ pass. block_fault tables pass (record { scope = body_scope g; callees = callees; may_call = true }) q.body.commands) in
      let flaws = clean_both more (flaws_of_head tables g q.spec.writes q.result) in
      let head = head_law g q.spec.writes q.result in
      let clauses = clauses_law g q.spec in
      let commands = block_law tables (record { scope = body_scope g; callees = callees; may_call = true }) q.body.commands in (
        λ h.
            let p = place.0 h in
            let r = rest.0 p.1 in
            let f = flaws.0 p.0 in
            let t = head.1 f.1 in
            let c = clauses.1 r.0 in (
              f.0,
              record {
                params = t.params;
                result = t.result;
                spec = record { needs = c.0; gives = c.1; writes = t.writes };
                body = record { names = names.1 t.names; locals = t.locals; commands = commands.1 r.1 };
              },
            ),
        λ h.
            let t = h.1 in
            place.1 (
              flaws.1 (h.0, head.0 (record { names = names.0 t.body.names; params = t.params; locals = t.body.locals; result = t.result; writes = t.spec.writes })),
              rest.1 (clauses.0 (t.spec.needs, t.spec.gives), commands.0 t.body.commands),
            ),
      )
