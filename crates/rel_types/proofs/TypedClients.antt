-- Clients of a typed interface.
use Rattle.std.proofs.Common.{◌≡◌, ◌↔◌, Bool, true, false, not, ◌||◌, ◌&&◌, if◌then◌else◌, List, [], ◌∷◌, ◌++◌, map, Some, IsSomeAnd, refl, sym, ap, subst, ◌∙◌, inl, inr, true≢false}
use Rattle.std.specs.Prelude.{bytes_eq, is_none}
use Rattle.std.specs.List.{AllByRecursion}
use Rattle.std.proofs.lemmas.Simd.{map-map}
use Rattle.std.proofs.lemmas.List.{map-append}
use Rattle.rel_lang.specs.Syntax.{Word, Decl, Proc, Sig, Interface, Client}
use Rattle.rel_lang.specs.State.{Tables, ByClient, find_named}
use Rattle.rel_lang.specs.Scope.{result_name, interface_globals, client_globals, client_setting}
use Rattle.rel_lang.specs.Lookup.{main_name, find_main}
use Rattle.rel_lang.specs.Typed.{IsAmong, AreDistinct, names_of, Signature, signature_of_proc, signature_of_method, IsTypedProc, IsTypedInterface, client_callees, IsTypedClient}
use Rattle.rel_flaws.specs.Flaws.{Flaws, flawless, either, Pass}
use Rattle.rel_flaws.specs.Inference.{is_among}
use Rattle.rel_types.specs.Items.{declared_names, first_named, flaws_of_globals, proc_fault, is_empty, flaws_of_client_proc, setting_in_client, callees_in_client, client_fault}
use Rattle.rel_types.proofs.Clean.{IsClean, HasNoFault, or_false, clean_both}
use Rattle.rel_types.proofs.Distinct.{apart_from_nothing, apart_turned, apart_is_false, among_is_false, same_from_true, true_from_same, distinct_append}
use Rattle.rel_types.proofs.Equivalences.{all_both, all_mapped}
use Rattle.rel_types.proofs.Procedures.{at_first, names_append, names_declared, proc_law}
use Rattle.rel_types.proofs.TypedUnits.{named_law, globals_law}

unknown_main_clean : (u m : Bool) → IsClean (record flawless { unknown = u; no_main = m }) ↔ ((u ≡ false) × (m ≡ false))
unknown_main_clean u m = (λ e. (ap (λ f. f.unknown) e, ap (λ f. f.no_main) e), λ h. rw (h.0, h.1) refl)

twice_main_clean : (t m : Bool) → IsClean (record flawless { twice = t; no_main = m }) ↔ ((t ≡ false) × (m ≡ false))
twice_main_clean t m = (λ e. (ap (λ f. f.twice) e, ap (λ f. f.no_main) e), λ h. rw (h.0, h.1) refl)

-- ---- the procedure `main`

empty_is_tested : (ds : List Decl) → (not (is_empty ds) ≡ false) ↔ (ds ≡ [])
empty_is_tested [] = (λ e. refl, λ e. refl)
empty_is_tested (d ∷ ds) = (λ e. absurd (true≢false e), λ e. absurd (cc))

-- a procedure of this name has no parameters
abbrev HasNoParameters : Word → Proc → Type 0
HasNoParameters x q = (bytes_eq q.name x && not (is_empty q.params)) ≡ false

not_this : (x : Word) (q : Proc) → ¬ (q.name ≡ x) → HasNoParameters x q
not_this x q differs = rw ((apart_is_false q.name x).1 differs) refl

and_false : (a b : Bool) → b ≡ false → (a && b) ≡ false
and_false true b e = e
and_false false b e = refl

none_of_this_name : (x : Word) (qs : List Proc) → ¬ (IsAmong x (map (λ q. q.name) qs)) → AllByRecursion (HasNoParameters x) qs
none_of_this_name x [] absent = tt
none_of_this_name x (q ∷ qs) absent = (not_this x q (λ same. absent (inl (sym same))), none_of_this_name x qs (λ later. absent (inr later)))

main_to : (x : Word) (qs : List Proc) → AreDistinct (map (λ q. q.name) qs) → IsSomeAnd (find_named (λ q. q.name) x qs) (λ q. q.params ≡ [])
    → (is_none (find_named (λ q. q.name) x qs) ≡ false) × AllByRecursion (HasNoParameters x) qs
main_to x [] distinct h = absurd h
main_to x (q ∷ qs) distinct h = by_name (bytes_eq x q.name) refl (main_to x qs distinct.1) h
  where
    by_name : (b : Bool) → bytes_eq x q.name ≡ b
        → (IsSomeAnd (find_named (λ r. r.name) x qs) (λ r. r.params ≡ []) → (is_none (find_named (λ r. r.name) x qs) ≡ false) × AllByRecursion (HasNoParameters x) qs)
        → IsSomeAnd (if b then Some q else find_named (λ r. r.name) x qs) (λ r. r.params ≡ [])
        → (is_none (if b then Some q else find_named (λ r. r.name) x qs) ≡ false) × (HasNoParameters x q × AllByRecursion (HasNoParameters x) qs)
    by_name true same later h = (
      refl,
      (
        and_false (bytes_eq q.name x) (not (is_empty q.params)) ((empty_is_tested q.params).1 h),
        none_of_this_name x qs (subst (λ n. ¬ (IsAmong n (map (λ r. r.name) qs))) (sym (same_from_true x q.name same)) distinct.0),
      ),
    )
    by_name false other later h = let l = later h in (l.0, (not_this x q (λ same. (apart_is_false x q.name).0 other (sym same)), l.1))

main_from : (x : Word) (qs : List Proc) → is_none (find_named (λ q. q.name) x qs) ≡ false → AllByRecursion (HasNoParameters x) qs
    → IsSomeAnd (find_named (λ q. q.name) x qs) (λ q. q.params ≡ [])
main_from x [] there all = absurd (true≢false there)
main_from x (q ∷ qs) there all = by_name (bytes_eq x q.name) refl (λ t. main_from x qs t all.1) there
  where
    by_name : (b : Bool) → bytes_eq x q.name ≡ b → (is_none (find_named (λ r. r.name) x qs) ≡ false → IsSomeAnd (find_named (λ r. r.name) x qs) (λ r. r.params ≡ []))
        → is_none (if b then Some q else find_named (λ r. r.name) x qs) ≡ false → IsSomeAnd (if b then Some q else find_named (λ r. r.name) x qs) (λ r. r.params ≡ [])
    by_name true same later t =
        let turn : bytes_eq q.name x ≡ true = true_from_same q.name x (sym (same_from_true x q.name same)) in
        (empty_is_tested q.params).0 (subst (λ b. (b && not (is_empty q.params)) ≡ false) turn all.0)
    by_name false other later t = later t

-- ---- names

callee_names : (i : Interface) (c : Client) (tables : Tables) → map (λ (q : Signature). q.name) (client_callees tables i c) ≡ map (λ (q : Proc). q.name) c.procs ++ map (λ (q : Sig). q.name) i.methods
callee_names i c tables =
    map-append (λ (q : Signature). q.name) (map signature_of_proc c.procs) (map signature_of_method i.methods)
    ∙ rw (map-map (λ (q : Signature). q.name) signature_of_proc c.procs, map-map (λ (q : Signature). q.name) signature_of_method i.methods) refl

client_names : (i : Interface) (c : Client) → names_of (interface_globals i ++ client_globals c) ≡ names_of (interface_globals i) ++ declared_names c.globals
client_names i c = names_append (interface_globals i) (client_globals c) ∙ ap (λ ns. names_of (interface_globals i) ++ ns) (names_declared (ByClient c.name) true c.globals)

-- a client's procedure that isn't named as a method, and is without parameters where it is `main`
abbrev IsRight : Tables → Interface → Client → Proc → Type 0
IsRight tables i c q =
    (¬ (IsAmong q.name (map (λ (m : Sig). m.name) i.methods)) × HasNoParameters main_name q) × IsTypedProc tables (client_setting i c q) (client_callees tables i c) q

module _ (tables : Tables) where
  client_proc_law : (i : Interface) (c : Client) → AreDistinct (result_name ∷ names_of (interface_globals i ++ client_globals c)) → (seen : List Word) (q : Proc)
      → HasNoFault (λ pass. proc_fault tables pass (setting_in_client (Some i) c q) (callees_in_client (Some i) c) (flaws_of_client_proc (Some i) seen q) q)
      ↔ ((is_among q.name seen ≡ false) × IsRight tables i c q)
  client_proc_law i c premise seen q =
      let proc = proc_law tables (interface_globals i) (client_globals c) (client_callees tables i c) (flaws_of_client_proc (Some i) seen q) q premise in
      let flaws = twice_main_clean (is_among q.name seen || is_among q.name (map (λ (m : Sig). m.name) i.methods)) (bytes_eq q.name main_name && not (is_empty q.params)) in
      let twice = or_false (is_among q.name seen) (is_among q.name (map (λ (m : Sig). m.name) i.methods)) in
      let method = among_is_false q.name (map (λ (m : Sig). m.name) i.methods) in (
        λ h.
            let p = proc.0 h in
            let f = flaws.0 p.0 in
            let t = twice.0 f.0 in
            (t.0, ((method.0 t.1, f.1), p.1)),
        λ h. proc.1 (flaws.1 (twice.1 (h.0, method.1 h.1.0.0), h.1.0.1), h.1.1),
      )

  pub client_law : (more : Flaws) (i : Interface) (c : Client) → IsTypedInterface tables i → c.interface ≡ i.name
      → HasNoFault (λ pass. client_fault tables pass more (Some i) c) ↔ (IsClean more × IsTypedClient tables i c)
  client_law more i c typed named =
      let parts = record flawless { unknown = is_none (Some i); no_main = is_none (find_main c) } in
      let members = λ (pass : Pass). first_named (λ (q : Proc). q.name)
      (λ seen q. proc_fault tables pass (setting_in_client (Some i) c q) (callees_in_client (Some i) c) (flaws_of_client_proc (Some i) seen q) q) [] c.procs in
      let place = at_first c.at (either more (either (flaws_of_globals tables (interface_globals i) c.globals) parts)) members in
      let flaws = clean_both more (either (flaws_of_globals tables (interface_globals i) c.globals) parts) in
      let own = clean_both (flaws_of_globals tables (interface_globals i) c.globals) parts in
      let globals = globals_law tables (interface_globals i) c.globals typed.names in
      let main = unknown_main_clean (is_none (Some i)) (is_none (find_main c)) in
      let sees = client_names i c in
      let names = λ (premise : AreDistinct (result_name ∷ names_of (interface_globals i ++ client_globals c))).
      named_law (λ q. q.name) (λ pass seen q. proc_fault tables pass (setting_in_client (Some i) c q) (callees_in_client (Some i) c) (flaws_of_client_proc (Some i) seen q) q)
      (IsRight tables i c) (client_proc_law i c premise) [] c.procs in
      let split = all_both (λ q. ¬ (IsAmong q.name (map (λ (m : Sig). m.name) i.methods)) × HasNoParameters main_name q)
      (λ q. IsTypedProc tables (client_setting i c q) (client_callees tables i c) q) c.procs in
      let tests = all_both (λ q. ¬ (IsAmong q.name (map (λ (m : Sig). m.name) i.methods))) (HasNoParameters main_name) c.procs in
      let apart = all_mapped (λ x. ¬ (IsAmong x (map (λ (m : Sig). m.name) i.methods))) (λ (q : Proc). q.name) c.procs in
      let callees = distinct_append (map (λ (q : Proc). q.name) c.procs) (map (λ (q : Sig). q.name) i.methods) in (
        λ h.
            let p = place.0 h in
            let f = flaws.0 p.0 in
            let o = own.0 f.1 in
            let g = globals.0 o.0 in
            let premise : AreDistinct (result_name ∷ names_of (interface_globals i ++ client_globals c)) = subst (λ ns. AreDistinct (result_name ∷ ns)) (sym sees) g.0 in
            let m = (names premise).0 p.1 in
            let s = split.0 m.1 in
            let t = tests.0 s.0 in (
              f.0,
              record {
                interface = named;
                types = g.1;
                names = premise;
                proc_names = subst AreDistinct (sym (callee_names i c tables)) (callees.1 (m.0.0, typed.method_names, apart_turned (map (λ q. q.name) i.methods) (map (λ q. q.name) c.procs) (apart.0 t.0)));
                main = main_from main_name c.procs (main.0 o.1).1 t.1;
                procs = s.1;
              },
            ),
        λ h.
            let t = h.1 in
            let d = callees.0 (subst AreDistinct (callee_names i c tables) t.proc_names) in
            let e = main_to main_name c.procs d.0 t.main in
            place.1 (
              flaws.1 (h.0, own.1 (globals.1 (subst (λ ns. AreDistinct (result_name ∷ ns)) sees t.names, t.types), main.1 (refl, e.0))),
              (names t.names).1 (
                (d.0, apart_from_nothing (map (λ q. q.name) c.procs)),
                split.1 (tests.1 (apart.1 (apart_turned (map (λ q. q.name) c.procs) (map (λ q. q.name) i.methods) d.2), e.1), t.procs),
              ),
            ),
      )

pub trial_point : true ≡ true
trial_point = refl
