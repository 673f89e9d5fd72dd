-- Classes, interfaces and units.
use Rattle.std.proofs.Common.{◌≡◌, ◌↔◌, Bool, true, false, List, [], ◌∷◌, ◌++◌, map, Option, refl, sym, ap, subst}
use Rattle.std.specs.List.{AllByRecursion}
use Rattle.std.proofs.lemmas.List.{append-nil}
use Rattle.rel_lang.specs.Syntax.{Word, Decl, Proc, Sig, ClassItem, Interface, UnitItem}
use Rattle.rel_lang.specs.State.{Tables, Scope, ByInterface, ByUnit}
use Rattle.rel_lang.specs.Scope.{result_name, interface_globals, unit_globals, globals_of, unit_setting, signature_setting}
use Rattle.rel_lang.specs.Typed.{AreDistinct, names_of, signature_of_proc, HaveTypes, IsTypedMethod, IsTypedInterface, IsTypedUnit, IsTypedProc}
use Rattle.rel_flaws.specs.Flaws.{Flaws, flawless, either, Pass, Fault, first_of}
use Rattle.rel_flaws.specs.Inference.{is_among, have_unknown_types}
use Rattle.rel_types.specs.Items.{repeats, declared_names, seen_by_members, twice_where, first_named, flaws_of_place, flaws_of_effect, flaws_of_all, flaws_of_globals, clause_fault, clauses_fault, flaws_of_head, proc_fault, class_fault, method_fault, interface_fault, unit_fault}
use Rattle.rel_types.proofs.Clean.{IsClean, HasNoFault, no_fault_in_both, no_fault_at, clean_both}
use Rattle.rel_types.proofs.Distinct.{AreApart, apart_from_nothing, apart_cons, among_is_false, repeats_is_false, distinct_append}
use Rattle.rel_types.proofs.Equivalences.{iff_same, iff_back, iff_then, iff_both}
use Rattle.rel_types.proofs.Procedures.{at_first, twice_unknown_clean, names_declared, body_with_result, types_law, places_law, effects_law, clause_law, clauses_law, head_law, proc_law}

pub twice_clean : (t : Bool) → IsClean (twice_where t) ↔ (t ≡ false)
twice_clean t = (λ e. ap (λ f. f.twice) e, λ e. rw e refl)

-- ---- members

-- Members have no fault where their names are distinct, none of them was seen, and each is otherwise right.
pub named_law : {X : Type 0} (name : X → Word) (fault : Pass → List Word → X → Option Fault) (P : X → Type 0)
    → ((seen : List Word) (x : X) → HasNoFault (λ pass. fault pass seen x) ↔ ((is_among (name x) seen ≡ false) × P x)) → (seen : List Word) (xs : List X)
    → HasNoFault (λ pass. first_named name (fault pass) seen xs) ↔ ((AreDistinct (map name xs) × AreApart seen (map name xs)) × AllByRecursion P xs)
named_law name fault P each seen [] = (λ h. ((tt, tt), tt), λ h. (refl, refl))
named_law name fault P each seen (x ∷ xs) =
    let both = no_fault_in_both (λ pass. fault pass seen x) (λ pass. first_named name (fault pass) (name x ∷ seen) xs) in
    let here = each seen x in
    let rest = named_law name fault P each (name x ∷ seen) xs in
    let among = among_is_false (name x) seen in
    let split = apart_cons (name x) seen (map name xs) in (
      λ h.
          let b = both.0 h in
          let e = here.0 b.0 in
          let r = rest.0 b.1 in
          let s = split.0 r.0.1 in
          (((s.0, r.0.0), (among.0 e.0, s.1)), (e.1, r.1)),
      λ h. both.1 (here.1 (among.1 h.0.1.0, h.1.0), rest.1 ((h.0.0.1, split.1 (h.0.0.0, h.0.1.1)), h.1.1)),
    )

-- names behind others that are distinct
pub behind : (before own : List Word) → AreDistinct before → (repeats before own ≡ false) ↔ AreDistinct (before ++ own)
behind before own premise =
    iff_then (repeats_is_false before own) (iff_back (iff_then (distinct_append before own) (λ h. (h.1, h.2), λ h. (premise, h.0, h.1))))

module _ (tables : Tables) where
  -- ---- classes

  pub class_law : (seen : List Word) (more : Flaws) (c : ClassItem)
      → HasNoFault (λ pass. class_fault tables pass seen more c) ↔ (IsClean more × ((repeats seen (declared_names c.fields) ≡ false) × HaveTypes tables c.fields))
  class_law seen more c =
      iff_then (no_fault_at c.at (either more (record flawless { twice = repeats seen (declared_names c.fields); unknown = have_unknown_types tables c.fields })))
      (iff_then (clean_both more (record flawless { twice = repeats seen (declared_names c.fields); unknown = have_unknown_types tables c.fields }))
      (iff_both iff_same (iff_then (twice_unknown_clean (repeats seen (declared_names c.fields)) (have_unknown_types tables c.fields)) (iff_both iff_same (iff_back (types_law tables c.fields))))))

  -- ---- globals

  pub globals_law : (before : Scope) (ds : List Decl) → AreDistinct (result_name ∷ names_of before)
      → IsClean (flaws_of_globals tables before ds) ↔ (AreDistinct (result_name ∷ (names_of before ++ declared_names ds)) × HaveTypes tables ds)
  globals_law before ds premise =
      iff_then (twice_unknown_clean (repeats (seen_by_members before) (declared_names ds)) (have_unknown_types tables ds))
      (iff_both (behind (seen_by_members before) (declared_names ds) premise) (iff_back (types_law tables ds)))

  -- ---- interfaces

  method_law : (i : Interface) → AreDistinct (result_name ∷ names_of (interface_globals i)) → (seen : List Word) (q : Sig)
      → HasNoFault (λ pass. method_fault tables pass i seen q) ↔ ((is_among q.name seen ≡ false) × IsTypedMethod tables i q)
  method_law i distinct seen q =
      let g = signature_setting i q in
      let premise : AreDistinct (result_name ∷ names_of (globals_of g)) = subst (λ sc. AreDistinct (result_name ∷ names_of sc)) (sym (append-nil (interface_globals i))) distinct in
      let names = body_with_result g q.result refl premise in
      let place = at_first q.at (either (twice_where (is_among q.name seen)) (flaws_of_head tables g q.spec.writes q.result)) (λ pass. clauses_fault tables pass g q.spec) in
      let flaws = clean_both (twice_where (is_among q.name seen)) (flaws_of_head tables g q.spec.writes q.result) in
      let twice = twice_clean (is_among q.name seen) in
      let head = head_law tables g q.spec.writes q.result in
      let clauses = clauses_law tables g q.spec in (
        λ h.
            let p = place.0 h in
            let f = flaws.0 p.0 in
            let t = head.1 f.1 in
            let c = clauses.1 p.1 in
            (twice.0 f.0, record { params = t.params; result = t.result; names = names.1 t.names; spec = record { needs = c.0; gives = c.1; writes = t.writes } }),
        λ h.
            let t = h.1 in
            place.1 (
              flaws.1 (twice.1 h.0, head.0 (record { names = names.0 t.names; params = t.params; locals = tt; result = t.result; writes = t.spec.writes })),
              clauses.0 (t.spec.needs, t.spec.gives),
            ),
      )

  pub interface_law : (more : Flaws) (i : Interface) → HasNoFault (λ pass. interface_fault tables pass more i) ↔ (IsClean more × IsTypedInterface tables i)
  interface_law more i =
      let sc = interface_globals i in
      let place = at_first i.at (either more (either (flaws_of_globals tables [] i.globals)
      (either (flaws_of_all tables (flaws_of_place tables sc) i.boundary) (flaws_of_all tables (flaws_of_effect tables sc sc) i.init_writes))))
      (λ pass. first_of (clause_fault tables pass true sc i.init_ensures) (first_named (λ (q : Sig). q.name) (method_fault tables pass i) [] i.methods)) in
      let rest = no_fault_in_both (λ pass. clause_fault tables pass true sc i.init_ensures) (λ pass. first_named (λ (q : Sig). q.name) (method_fault tables pass i) [] i.methods) in
      let flaws = clean_both more (either (flaws_of_globals tables [] i.globals)
      (either (flaws_of_all tables (flaws_of_place tables sc) i.boundary) (flaws_of_all tables (flaws_of_effect tables sc sc) i.init_writes))) in
      let own = clean_both (flaws_of_globals tables [] i.globals) (either (flaws_of_all tables (flaws_of_place tables sc) i.boundary) (flaws_of_all tables (flaws_of_effect tables sc sc) i.init_writes)) in
      let lists = clean_both (flaws_of_all tables (flaws_of_place tables sc) i.boundary) (flaws_of_all tables (flaws_of_effect tables sc sc) i.init_writes) in
      let globals = globals_law [] i.globals (λ e. e, tt) in
      let ensures = clause_law tables true sc i.init_ensures in
      let members = λ (distinct : AreDistinct (result_name ∷ names_of (interface_globals i))).
      named_law (λ q. q.name) (λ pass. method_fault tables pass i) (IsTypedMethod tables i) (method_law i distinct) [] i.methods in
      let named = names_declared (ByInterface i.name) true i.globals in (
        λ h.
            let p = place.0 h in
            let r = rest.0 p.1 in
            let f = flaws.0 p.0 in
            let o = own.0 f.1 in
            let l = lists.0 o.1 in
            let g = globals.0 o.0 in
            let names : AreDistinct (result_name ∷ names_of (interface_globals i)) = subst (λ ns. AreDistinct (result_name ∷ ns)) (sym named) g.0 in
            let m = (members names).0 r.1 in (
              f.0,
              record {
                types = g.1;
                names = names;
                boundary = (places_law tables sc i.boundary).1 l.0;
                init_ensures = ensures.1 r.0;
                init_writes = (effects_law tables sc sc i.init_writes).1 l.1;
                method_names = m.0.0;
                methods = m.1;
              },
            ),
        λ h.
            let t = h.1 in
            place.1 (
              flaws.1 (
                h.0,
                own.1 (
                  globals.1 (subst (λ ns. AreDistinct (result_name ∷ ns)) named t.names, t.types),
                  lists.1 ((places_law tables sc i.boundary).0 t.boundary, (effects_law tables sc sc i.init_writes).0 t.init_writes),
                ),
              ),
              rest.1 (ensures.0 t.init_ensures, (members t.names).1 ((t.method_names, apart_from_nothing (map (λ q. q.name) i.methods)), t.methods)),
            ),
      )

  -- ---- units

  pub unit_law : (more : Flaws) (u : UnitItem) → HasNoFault (λ pass. unit_fault tables pass more u) ↔ (IsClean more × IsTypedUnit tables u)
  unit_law more u =
      let callees = map signature_of_proc u.procs in
      let fault = λ (pass : Pass) (seen : List Word) (q : Proc). proc_fault tables pass (unit_setting u q) (map signature_of_proc u.procs) (twice_where (is_among q.name seen)) q in
      let place = at_first u.at (either more (flaws_of_globals tables [] u.globals)) (λ pass. first_named (λ (q : Proc). q.name) (fault pass) [] u.procs) in
      let flaws = clean_both more (flaws_of_globals tables [] u.globals) in
      let globals = globals_law [] u.globals (λ e. e, tt) in
      let named = names_declared (ByUnit u.name) true u.globals in
      let members = λ (distinct : AreDistinct (result_name ∷ names_of (unit_globals u))).
      named_law (λ q. q.name) fault (λ q. IsTypedProc tables (unit_setting u q) callees q)
      (λ seen q. iff_then (proc_law tables [] (unit_globals u) callees (twice_where (is_among q.name seen)) q distinct) (iff_both (twice_clean (is_among q.name seen)) iff_same)) [] u.procs in (
        λ h.
            let p = place.0 h in
            let f = flaws.0 p.0 in
            let g = globals.0 f.1 in
            let m = (members (subst (λ ns. AreDistinct (result_name ∷ ns)) (sym named) g.0)).0 p.1 in
            (f.0, record { types = g.1; names = g.0; proc_names = m.0.0; procs = m.1 }),
        λ h.
            let t = h.1 in
            place.1 (
              flaws.1 (h.0, globals.1 (t.names, t.types)),
              (members (subst (λ ns. AreDistinct (result_name ∷ ns)) (sym named) t.names)).1 ((t.proc_names, apart_from_nothing (map (λ q. q.name) u.procs)), t.procs),
            ),
      )
