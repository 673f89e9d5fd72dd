-- The programs of typed items are typed.
use Rattle.std.proofs.Common.{◌≡◌, Bool, true, false, ◌&&◌, if◌then◌else◌, IsTrue, IsFalse, IfSome, IsSomeAnd, List, [], ◌∷◌, ◌++◌, map, Option, Some, None, refl, sym, ap, subst, ⊎_elim, inl, inr, true≢false}
use Rattle.std.specs.Prelude.{bytes_eq, option_map}
use Rattle.std.specs.List.{AllByRecursion, filter_map, cons_option}
use Rattle.rel_lang.specs.Syntax.{Word, Decl, Body, Proc, Sig, Interface, Module, UnitItem, Client}
use Rattle.rel_lang.specs.State.{find_named, Tables, Owner, ByInterface, ByModule, ByUnit, ByClient, ByCall, same_owner, Variable, Scope}
use Rattle.rel_lang.specs.Scope.{declared, interface_globals, module_globals, unit_globals, client_globals, own_variables, unit_setting, client_setting, method_setting, init_setting}
use Rattle.rel_lang.specs.Lookup.{find_body}
use Rattle.rel_lang.specs.Typed.{IsAmong, AreDistinct, names_of, signature_of_proc, signature_of_method, IsTypedBody, IsTypedModule, IsTypedUnit, IsTypedClient, client_callees}
use Rattle.rel_lang.specs.Run.{Callee, Watch, Program, find_callee, unit_program, module_program}
use Rattle.rel_lang.specs.Meets.{invariant_scope}
use Rattle.rel_lang.specs.Linked.{client_callee, method_callee, method_callees, linked_program}
use Rattle.rel_lang.specs.Laws.{IsOneOf, Agree, AreGlobals, IsCalleeFor, IsTypedIn, UnitProgramsAreTyped, LinkedProgramsAreTyped, ModuleProgramsAreTyped}
use Rattle.rel_lang.proofs.Writes.{AgreeAll, all_append, all_weaker, distinct_agree}

-- ---- scopes

declared_names : (o : Owner) (a : Bool) (ds : List Decl) → names_of (declared o a ds) ≡ map (λ d. d.name) ds
declared_names o a [] = refl
declared_names o a (d ∷ ds) = ap (λ ns. d.name ∷ ns) (declared_names o a ds)

-- variables of items aren't a call's
declared_items : (o : Owner) (a : Bool) → same_owner o ByCall ≡ false → (ds : List Decl) → AllByRecursion (λ v. IsFalse (same_owner v.owner ByCall)) (declared o a ds)
declared_items o a is [] = tt
declared_items o a is (d ∷ ds) = (is, declared_items o a is ds)

-- variables of owners that differ are two
declared_apart : (o r : Owner) (a b : Bool) → same_owner r o ≡ false → (ds es : List Decl) → AgreeAll (declared o a ds) (declared r b es)
declared_apart o r a b other [] es = tt
declared_apart o r a b other (d ∷ ds) es = (from es, declared_apart o r a b other ds es)
  where
    first : (u v : Bool) → u ≡ false → IsTrue (u && v) → ⊥
    first true v e h = true≢false e
    first false v e h = true≢false (sym h)

    from : (es : List Decl) → AllByRecursion (Agree (record { name = d.name; owner = o; ty = d.ty; is_assignable = a })) (declared r b es)
    from [] = tt
    from (e ∷ es) = (λ same. absurd (first _ _ other same), from es)

agree_both : (vs us ws : Scope) → AgreeAll vs us → AgreeAll vs ws → AgreeAll vs (us ++ ws)
agree_both [] us ws h i = tt
agree_both (v ∷ vs) us ws h i = (all_append (Agree v) us ws h.0 i.0, agree_both vs us ws h.1 i.1)

distinct_left : (xs ys : List Word) → AreDistinct (xs ++ ys) → AreDistinct xs
distinct_left [] ys h = tt
distinct_left (x ∷ xs) ys h = (λ e. h.0 (among xs e), distinct_left xs ys h.1)
  where
    among : (zs : List Word) → IsAmong x zs → IsAmong x (zs ++ ys)
    among [] e = absurd e
    among (z ∷ zs) e = ⊎_elim (λ here. inl here) (λ later. inr (among zs later)) e

distinct_right : (xs ys : List Word) → AreDistinct (xs ++ ys) → AreDistinct ys
distinct_right [] ys h = h
distinct_right (x ∷ xs) ys h = distinct_right xs ys h.1

names_append : (vs ws : Scope) → names_of (vs ++ ws) ≡ names_of vs ++ names_of ws
names_append [] ws = refl
names_append (v ∷ vs) ws = ap (λ ns. v.name ∷ ns) (names_append vs ws)

agree_in_left : (vs ws : Scope) → AreDistinct (names_of (vs ++ ws)) → AgreeAll vs vs
agree_in_left vs ws h = distinct_agree vs (distinct_left (names_of vs) (names_of ws) (subst AreDistinct (names_append vs ws) h))

agree_in_right : (vs ws : Scope) → AreDistinct (names_of (vs ++ ws)) → AgreeAll ws ws
agree_in_right vs ws h = distinct_agree ws (distinct_right (names_of vs) (names_of ws) (subst AreDistinct (names_append vs ws) h))

one_left : (v : Variable) (vs ws : Scope) → IsOneOf v vs → IsOneOf v (vs ++ ws)
one_left v [] ws e = absurd e
one_left v (u ∷ vs) ws e = ⊎_elim (λ here. inl here) (λ later. inr (one_left v vs ws later)) e

one_right : (v : Variable) (vs ws : Scope) → IsOneOf v ws → IsOneOf v (vs ++ ws)
one_right v [] ws e = e
one_right v (u ∷ vs) ws e = inr (one_right v vs ws e)

part_of_itself : (vs : Scope) → AllByRecursion (λ v. IsOneOf v vs) vs
part_of_itself [] = tt
part_of_itself (v ∷ vs) = (inl refl, all_weaker (λ u. IsOneOf u vs) (λ u. IsOneOf u (v ∷ vs)) (λ u e. inr e) vs (part_of_itself vs))

part_left : (vs ws : Scope) → AllByRecursion (λ v. IsOneOf v (vs ++ ws)) vs
part_left vs ws = all_weaker (λ v. IsOneOf v vs) (λ v. IsOneOf v (vs ++ ws)) (λ v e. one_left v vs ws e) vs (part_of_itself vs)

part_right : (us vs ws : Scope) → AllByRecursion (λ v. IsOneOf v ws) us → AllByRecursion (λ v. IsOneOf v (vs ++ ws)) us
part_right us vs ws h = all_weaker (λ v. IsOneOf v ws) (λ v. IsOneOf v (vs ++ ws)) (λ v e. one_right v vs ws e) us h

all_map : {A B : Type 0} (P : B → Type 0) (f : A → B) (xs : List A) → AllByRecursion (λ a. P (f a)) xs → AllByRecursion P (map f xs)
all_map P f [] h = tt
all_map P f (x ∷ xs) h = (h.0, all_map P f xs h.1)

-- ---- units

module _ (tables : Tables) (u : UnitItem) (typed : IsTypedUnit tables u) where
  unit_are : AreGlobals (unit_globals u)
  unit_are = record {
    of_items = declared_items (ByUnit u.name) true refl u.globals;
    agree = distinct_agree (unit_globals u) (subst AreDistinct (sym (declared_names (ByUnit u.name) true u.globals)) typed.names.1);
  }

  unit_answered : (qs : List Proc) (x : Word)
      → IfSome (find_named (λ q. q.name) x (map signature_of_proc qs)) (λ q. IsSomeAnd (find_callee x (map (λ r. record { name = r.name; setting = unit_setting u r; commands = r.body.commands; is_watched = false }) qs)) (IsCalleeFor q))
  unit_answered [] x = tt
  unit_answered (q ∷ qs) x =
      elim (bytes_eq x q.name) as (λ b. IfSome (if b then Some (signature_of_proc q) else find_named (λ r. r.name) x (map signature_of_proc qs))
      (λ r. IsSomeAnd (if b then Some (record { name = q.name; setting = unit_setting u q; commands = q.body.commands; is_watched = false })
      else find_callee x (map (λ r. record { name = r.name; setting = unit_setting u r; commands = r.body.commands; is_watched = false }) qs)) (IsCalleeFor r))) [
        | true ↦ (refl, refl)
        | false ↦ unit_answered qs x
      ]

  unit_bodies : AllByRecursion (λ q. IsTypedIn (unit_program tables u) (unit_globals u) (unit_setting u q) q.body.commands) u.procs
  unit_bodies = all_weaker _ _ (λ q h. record { callees = map signature_of_proc u.procs; typed = h.body; sees = part_of_itself (unit_globals u); answered = unit_answered u.procs }) u.procs typed.procs

pub units : UnitProgramsAreTyped
units tables u typed = (record { are_globals = unit_are tables u typed; bodies = all_map _ _ u.procs (unit_bodies tables u typed) }, unit_bodies tables u typed)

-- ---- modules

module _ (tables : Tables) (i : Interface) (m : Module) (typed : IsTypedModule tables i m) where
  inside_names : AreDistinct (names_of (invariant_scope i m))
  inside_names =
      distinct_left (names_of (invariant_scope i m)) (names_of ([] ++ own_variables (init_setting i m)))
      (subst AreDistinct (names_append (invariant_scope i m) ([] ++ own_variables (init_setting i m))) (subst (λ sc. AreDistinct (names_of sc)) (append_nothing (invariant_scope i m) (own_variables (init_setting i m))) typed.names.1))
    where
      append_nothing : (vs ws : Scope) → (vs ++ []) ++ ws ≡ vs ++ ([] ++ ws)
      append_nothing [] ws = refl
      append_nothing (v ∷ vs) ws = ap (λ r. v ∷ r) (append_nothing vs ws)

  module_are : AreGlobals (invariant_scope i m)
  module_are = record {
    of_items = all_append _ (interface_globals i) (module_globals m) (declared_items (ByInterface i.name) true refl i.globals) (declared_items (ByModule m.name) true refl m.globals);
    agree = distinct_agree (invariant_scope i m) inside_names;
  }

pub modules : ModuleProgramsAreTyped
modules tables i m typed = (
  record { are_globals = module_are tables i m typed; bodies = tt },
  record { callees = []; typed = typed.init; sees = part_of_itself (invariant_scope i m); answered = λ x. tt },
  all_weaker _ _ (λ q h. method_body q (find_body q.name m.methods) h) i.methods typed.methods,
)
  where
    method_body : (q : Sig) (o : Option Body) → IsSomeAnd o (λ b. IsTypedBody tables (method_setting i m q b) [] b.commands)
        → IsSomeAnd o (λ b. IsTypedIn (module_program tables) (invariant_scope i m) (method_setting i m q b) b.commands)
    method_body q None h = absurd h
    method_body q (Some b) h = record { callees = []; typed = h; sees = part_of_itself (invariant_scope i m); answered = λ x. tt }

-- ---- a client with a module

module _ (tables : Tables) (i : Interface) (m : Module) (c : Client) (inside : IsTypedModule tables i m) (outside : IsTypedClient tables i c) where
  abbrev all_globals : Scope
  all_globals = interface_globals i ++ (module_globals m ++ client_globals c)

  client_names : AreDistinct (names_of (interface_globals i ++ client_globals c))
  client_names = outside.names.1

  module_names : AreDistinct (names_of (interface_globals i ++ module_globals m))
  module_names = inside_names tables i m inside

  interface_agrees : AgreeAll (interface_globals i) all_globals
  interface_agrees = agree_both (interface_globals i) (interface_globals i) (module_globals m ++ client_globals c) (agree_in_left (interface_globals i) (client_globals c) client_names)
      (agree_both (interface_globals i) (module_globals m) (client_globals c) (declared_apart (ByInterface i.name) (ByModule m.name) true true refl i.globals m.globals)
      (declared_apart (ByInterface i.name) (ByClient c.name) true true refl i.globals c.globals))

  module_agrees : AgreeAll (module_globals m) all_globals
  module_agrees = agree_both (module_globals m) (interface_globals i) (module_globals m ++ client_globals c) (declared_apart (ByModule m.name) (ByInterface i.name) true true refl m.globals i.globals)
      (agree_both (module_globals m) (module_globals m) (client_globals c) (agree_in_right (interface_globals i) (module_globals m) module_names)
      (declared_apart (ByModule m.name) (ByClient c.name) true true refl m.globals c.globals))

  client_agrees : AgreeAll (client_globals c) all_globals
  client_agrees = agree_both (client_globals c) (interface_globals i) (module_globals m ++ client_globals c) (declared_apart (ByClient c.name) (ByInterface i.name) true true refl c.globals i.globals)
      (agree_both (client_globals c) (module_globals m) (client_globals c) (declared_apart (ByClient c.name) (ByModule m.name) true true refl c.globals m.globals)
      (agree_in_right (interface_globals i) (client_globals c) client_names))

  linked_are : AreGlobals all_globals
  linked_are = record {
    of_items = all_append _ (interface_globals i) (module_globals m ++ client_globals c) (declared_items (ByInterface i.name) true refl i.globals)
        (all_append _ (module_globals m) (client_globals c) (declared_items (ByModule m.name) true refl m.globals) (declared_items (ByClient c.name) true refl c.globals));
    agree = all_append _ (interface_globals i) (module_globals m ++ client_globals c) interface_agrees (all_append _ (module_globals m) (client_globals c) module_agrees client_agrees);
  }

  -- what the module's bodies see, and the client's
  module_sees : AllByRecursion (λ v. IsOneOf v all_globals) (interface_globals i ++ module_globals m)
  module_sees = all_append _ (interface_globals i) (module_globals m) (part_left (interface_globals i) (module_globals m ++ client_globals c))
      (part_right (module_globals m) (interface_globals i) (module_globals m ++ client_globals c) (part_left (module_globals m) (client_globals c)))

  client_sees : AllByRecursion (λ v. IsOneOf v all_globals) (interface_globals i ++ client_globals c)
  client_sees = all_append _ (interface_globals i) (client_globals c) (part_left (interface_globals i) (module_globals m ++ client_globals c))
      (part_right (client_globals c) (interface_globals i) (module_globals m ++ client_globals c) (part_right (client_globals c) (module_globals m) (client_globals c) (part_of_itself (client_globals c))))

  abbrev body_or_none : Sig → Option Callee
  body_or_none q = option_map (method_callee i m q) (find_body q.name m.methods)

  abbrev HasBody : Sig → Type 0
  HasBody q = IsSomeAnd (find_body q.name m.methods) (λ b. IsTypedBody tables (method_setting i m q b) [] b.commands)

  -- a method that is called has a body
  method_answered : (qs : List Sig) → AllByRecursion HasBody qs → (x : Word)
      → IfSome (find_named (λ q. q.name) x (map signature_of_method qs)) (λ q. IsSomeAnd (find_callee x (filter_map body_or_none qs)) (IsCalleeFor q))
  method_answered [] h x = tt
  method_answered (q ∷ qs) h x = with_body (find_body q.name m.methods) h.0 (method_answered qs h.1 x)
    where
      with_body : (o : Option Body) → IsSomeAnd o (λ b. IsTypedBody tables (method_setting i m q b) [] b.commands)
          → IfSome (find_named (λ r. r.name) x (map signature_of_method qs)) (λ r. IsSomeAnd (find_callee x (filter_map body_or_none qs)) (IsCalleeFor r))
          → IfSome (find_named (λ r. r.name) x (map signature_of_method (q ∷ qs)))
          (λ r. IsSomeAnd (find_callee x (cons_option (option_map (method_callee i m q) o) (filter_map body_or_none qs))) (IsCalleeFor r))
      with_body None h rest = absurd h
      with_body (Some b) h rest =
          elim (bytes_eq x q.name) as (λ e. IfSome (if e then Some (signature_of_method q) else find_named (λ r. r.name) x (map signature_of_method qs))
          (λ r. IsSomeAnd (if e then Some (method_callee i m q b) else find_callee x (filter_map body_or_none qs)) (IsCalleeFor r))) [
            | true ↦ (refl, refl)
            | false ↦ rest
          ]

  client_answered : (ps : List Proc) (x : Word)
      → IfSome (find_named (λ q. q.name) x (map signature_of_proc ps ++ map signature_of_method i.methods))
      (λ q. IsSomeAnd (find_callee x (map (client_callee i c) ps ++ method_callees i m)) (IsCalleeFor q))
  client_answered [] x = method_answered i.methods inside.methods x
  client_answered (p ∷ ps) x =
      elim (bytes_eq x p.name) as (λ e. IfSome (if e then Some (signature_of_proc p) else find_named (λ r. r.name) x (map signature_of_proc ps ++ map signature_of_method i.methods))
      (λ r. IsSomeAnd (if e then Some (client_callee i c p) else find_callee x (map (client_callee i c) ps ++ method_callees i m)) (IsCalleeFor r))) [
        | true ↦ (refl, refl)
        | false ↦ client_answered ps x
      ]

  module _ (w : Watch) where
    abbrev whole : Program
    whole = linked_program tables i m c w

    client_bodies : AllByRecursion (λ q. IsTypedIn whole all_globals (client_setting i c q) q.body.commands) c.procs
    client_bodies = all_weaker _ _ (λ q h. record { callees = client_callees tables i c; typed = h.body; sees = client_sees; answered = client_answered c.procs }) c.procs outside.procs

    method_bodies : (qs : List Sig) → AllByRecursion HasBody qs → AllByRecursion (λ d. IsTypedIn whole all_globals d.setting d.commands) (filter_map body_or_none qs)
    method_bodies [] h = tt
    method_bodies (q ∷ qs) h = with_body (find_body q.name m.methods) h.0 (method_bodies qs h.1)
      where
        with_body : (o : Option Body) → IsSomeAnd o (λ b. IsTypedBody tables (method_setting i m q b) [] b.commands)
            → AllByRecursion (λ d. IsTypedIn whole all_globals d.setting d.commands) (filter_map body_or_none qs)
            → AllByRecursion (λ d. IsTypedIn whole all_globals d.setting d.commands) (cons_option (option_map (method_callee i m q) o) (filter_map body_or_none qs))
        with_body None h rest = absurd h
        with_body (Some b) h rest = (record { callees = []; typed = h; sees = module_sees; answered = λ x. tt }, rest)

pub linked_programs : LinkedProgramsAreTyped
linked_programs tables i m c w inside outside = (
  record {
    are_globals = linked_are tables i m c inside outside;
    bodies = all_append _ (map (client_callee i c) c.procs) (method_callees i m) (all_map _ (client_callee i c) c.procs (client_bodies tables i m c inside outside w))
        (method_bodies tables i m c inside outside w i.methods inside.methods);
  },
  client_bodies tables i m c inside outside w,
)
