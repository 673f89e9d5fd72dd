-- A bundle is typed exactly where it has no fault.
use Rattle.std.proofs.Common.{◌≡◌, ◌↔◌, ℕ, Bool, true, false, ◌||◌, if◌then◌else◌, List, [], ◌∷◌, ◌++◌, map, Option, Some, None, IsSomeAnd, IfSome, refl, sym, ap, subst, ◌∙◌, true≢false}
use Rattle.std.specs.Prelude.{bytes_eq, is_none}
use Rattle.std.specs.List.{AllByRecursion}
use Rattle.std.proofs.lemmas.Simd.{map-map}
use Rattle.std.proofs.lemmas.List.{map-append}
use Rattle.rel_lang.specs.Syntax.{Word, Decl, Proc, Interface, Module, Client, ModulePair, Item, OfClass, OfInterface, OfModule, OfUnit, OfClient, OfJudgement, OfPair, Bundle}
use Rattle.rel_lang.specs.State.{ClassField, tables_of, class_items, fields_of, find_named}
use Rattle.rel_lang.specs.Scope.{globals_of}
use Rattle.rel_lang.specs.Lookup.{interfaces_of, modules_of, find_interface, find_module, find_main, subject_of}
use Rattle.rel_lang.specs.Typed.{AreDistinct, item_name, IsTypedInterface, IsTypedModule, IsTypedClient, IsTypedPair, IsTypedItem}
use Rattle.rel_flaws.specs.Flaws.{Flaws, flawless, either, Pass, ForTwice, ForOthers, Fault, fault_at, first_of, first_in}
use Rattle.rel_flaws.specs.Inference.{is_among, have_unknown_types}
use Rattle.rel_flaws.specs.Alignments.{align_fault}
use Rattle.rel_types.specs.Items.{repeats, declared_names, twice_where, globals_of_interface, flaws_of_globals, clause_fault, rel_clause_fault, proc_fault, first_named, misses_methods, init_in_module, method_in_module, signatures_of, module_body_fault, module_fault, setting_in_client, callees_in_client, flaws_of_client_proc, client_fault, interface_of_module, differ_in_interface, globals_of_side, init_of_side, method_of_side, module_sides, pair_fault, item_fault, fields_of_item, items_fault}
use Rattle.rel_types.specs.Laws.{TypedHaveNoFault}
use Rattle.rel_types.proofs.Clean.{IsClean, HasNoFault, or_false, first_none, no_fault_in_both, clean_both}
use Rattle.rel_types.proofs.Distinct.{AreApart, apart_from_nothing, apart_cons, apart_append, apart_of_append, among_is_false, same_from_true, distinct_append, repeats_is_false}
use Rattle.rel_types.proofs.Equivalences.{iff_same, iff_then, iff_both, iff_all}
use Rattle.rel_types.proofs.Procedures.{at_first}
use Rattle.rel_types.proofs.TypedUnits.{twice_clean, class_law, interface_law, unit_law}
use Rattle.rel_types.proofs.TypedModules.{module_law}
use Rattle.rel_types.proofs.TypedClients.{client_law}
use Rattle.rel_types.proofs.TypedJudgements.{judgement_law, pair_law}

-- ---- what is found by name

pub found_named : {A : Type 0} (P : A → Type 0) (name : A → Word) (x : Word) (xs : List A) → AllByRecursion P xs → IfSome (find_named name x xs) (λ a. P a × (x ≡ name a))
found_named P name x [] all = tt
found_named P name x (a ∷ xs) all = by_name (bytes_eq x (name a)) refl (found_named P name x xs all.1)
  where
    by_name : (b : Bool) → bytes_eq x (name a) ≡ b → IfSome (find_named name x xs) (λ y. P y × (x ≡ name y))
        → IfSome (if b then Some a else find_named name x xs) (λ y. P y × (x ≡ name y))
    by_name true same later = (all.0, same_from_true x (name a) same)
    by_name false other later = later

interfaces_all : (P : Item → Type 0) (Q : Interface → Type 0) → ((i : Interface) → P (OfInterface i) → Q i) → (is : List Item) → AllByRecursion P is → AllByRecursion Q (interfaces_of is)
interfaces_all P Q each [] all = tt
interfaces_all P Q each (OfClass c ∷ is) all = interfaces_all P Q each is all.1
interfaces_all P Q each (OfInterface i ∷ is) all = (each i all.0, interfaces_all P Q each is all.1)
interfaces_all P Q each (OfModule m ∷ is) all = interfaces_all P Q each is all.1
interfaces_all P Q each (OfUnit u ∷ is) all = interfaces_all P Q each is all.1
interfaces_all P Q each (OfClient c ∷ is) all = interfaces_all P Q each is all.1
interfaces_all P Q each (OfJudgement j ∷ is) all = interfaces_all P Q each is all.1
interfaces_all P Q each (OfPair p ∷ is) all = interfaces_all P Q each is all.1

modules_all : (P : Item → Type 0) (Q : Module → Type 0) → ((m : Module) → P (OfModule m) → Q m) → (is : List Item) → AllByRecursion P is → AllByRecursion Q (modules_of is)
modules_all P Q each [] all = tt
modules_all P Q each (OfClass c ∷ is) all = modules_all P Q each is all.1
modules_all P Q each (OfInterface i ∷ is) all = modules_all P Q each is all.1
modules_all P Q each (OfModule m ∷ is) all = (each m all.0, modules_all P Q each is all.1)
modules_all P Q each (OfUnit u ∷ is) all = modules_all P Q each is all.1
modules_all P Q each (OfClient c ∷ is) all = modules_all P Q each is all.1
modules_all P Q each (OfJudgement j ∷ is) all = modules_all P Q each is all.1
modules_all P Q each (OfPair p ∷ is) all = modules_all P Q each is all.1

-- ---- fields

-- the fields that an item declares, and those of a list of items
abbrev fields_in : List Item → List Word
fields_in [] = []
fields_in (i ∷ is) = fields_of_item i ++ fields_in is

field_names : (is : List Item) → map (λ (d : ClassField). d.name) (fields_of (class_items is)) ≡ fields_in is
field_names [] = refl
field_names (OfClass c ∷ is) =
    map-append (λ (d : ClassField). d.name) (map (λ (d : Decl). record { name = d.name; class = c.name; ty = d.ty }) c.fields) (fields_of (class_items is))
    ∙ ap (λ ns. ns ++ map (λ (d : ClassField). d.name) (fields_of (class_items is))) (map-map (λ (d : ClassField). d.name) (λ (d : Decl). record { name = d.name; class = c.name; ty = d.ty }) c.fields)
    ∙ ap (λ ns. declared_names c.fields ++ ns) (field_names is)
field_names (OfInterface i ∷ is) = field_names is
field_names (OfModule m ∷ is) = field_names is
field_names (OfUnit u ∷ is) = field_names is
field_names (OfClient c ∷ is) = field_names is
field_names (OfJudgement j ∷ is) = field_names is
field_names (OfPair p ∷ is) = field_names is

-- ---- items

split_more : (at : ℕ) (more f : Flaws) (rest : Pass → Option Fault)
    → HasNoFault (λ pass. first_of (fault_at pass at (either more f)) (rest pass)) ↔ (IsClean more × HasNoFault (λ pass. first_of (fault_at pass at f) (rest pass)))
split_more at more f rest =
    let whole = at_first at (either more f) rest in
    let flaws = clean_both more f in
    let part = at_first at f rest in
    (λ h. let w = whole.0 h in let x = flaws.0 w.0 in (x.0, part.1 (x.1, w.1)), λ h. let p = part.0 h.1 in whole.1 (flaws.1 (h.0, p.0), p.1))

-- What an item is without regard to the items before it: typed, or without fault where its type rests on an interface that may be wrong.
abbrev IsFine : Bundle → Item → Type 0
IsFine b (OfClass c) = IsTypedItem b (OfClass c)
IsFine b (OfInterface i) = IsTypedItem b (OfInterface i)
IsFine b (OfModule m) = HasNoFault (λ pass. module_fault (tables_of b) pass flawless (find_interface b m.interface) m)
IsFine b (OfUnit u) = IsTypedItem b (OfUnit u)
IsFine b (OfClient c) = HasNoFault (λ pass. client_fault (tables_of b) pass flawless (find_interface b c.interface) c)
IsFine b (OfJudgement j) = IsTypedItem b (OfJudgement j)
IsFine b (OfPair p) = HasNoFault (λ pass. pair_fault b pass flawless (find_module b p.left) (find_module b p.right) (interface_of_module b (find_module b p.left)) p)

-- The flaws of an item with regard to what stands before it, and the faults of its parts.
module _ (b : Bundle) where
  abbrev module_flaws : Option Interface → Module → Flaws
  module_flaws o m =
      either (flaws_of_globals (tables_of b) (globals_of_interface o) m.globals) (record flawless { unknown = is_none o; missing = misses_methods o (map (λ x. x.0) m.methods) })

  abbrev module_rest : Option Interface → Module → Pass → Option Fault
  module_rest o m pass =
      first_of (clause_fault (tables_of b) pass false (globals_of (init_in_module o m)) m.invariant)
      (first_of (module_body_fault (tables_of b) pass (init_in_module o m) (signatures_of o) m.init)
      (first_in (λ x. module_body_fault (tables_of b) pass (method_in_module o m x) (signatures_of o) x.1) m.methods))

  abbrev client_flaws : Option Interface → Client → Flaws
  client_flaws o c = either (flaws_of_globals (tables_of b) (globals_of_interface o) c.globals) (record flawless { unknown = is_none o; no_main = is_none (find_main c) })

  abbrev client_rest : Option Interface → Client → Pass → Option Fault
  client_rest o c pass =
      first_named (λ (q : Proc). q.name) (λ seen q. proc_fault (tables_of b) pass (setting_in_client o c q) (callees_in_client o c) (flaws_of_client_proc o seen q) q) [] c.procs

  abbrev pair_flaws : Option Module → Option Module → Option Interface → ModulePair → Flaws
  pair_flaws l r o p = record flawless { unknown = is_none l || is_none r; missing = differ_in_interface l r || misses_methods o (map (λ a. a.1) p.methods) }

  abbrev pair_rest : Option Module → Option Module → Option Interface → ModulePair → Pass → Option Fault
  pair_rest l r o p pass =
      first_of (rel_clause_fault (tables_of b) pass false (globals_of_side o l) (globals_of_side o r) p.coupling)
      (first_of (align_fault (tables_of b) pass (module_sides b pass (init_of_side o l) (init_of_side o r)) p.init.1)
      (first_in (λ a. align_fault (tables_of b) pass (module_sides b pass (method_of_side o l a.1) (method_of_side o r a.1)) a.2) p.methods))

  split_module : (more : Flaws) (o : Option Interface) (m : Module)
      → HasNoFault (λ pass. module_fault (tables_of b) pass more o m) ↔ (IsClean more × HasNoFault (λ pass. module_fault (tables_of b) pass flawless o m))
  split_module more o m = split_more m.at more (module_flaws o m) (module_rest o m)

  split_client : (more : Flaws) (o : Option Interface) (c : Client)
      → HasNoFault (λ pass. client_fault (tables_of b) pass more o c) ↔ (IsClean more × HasNoFault (λ pass. client_fault (tables_of b) pass flawless o c))
  split_client more o c = split_more c.at more (client_flaws o c) (client_rest o c)

  split_pair : (more : Flaws) (l r : Option Module) (o : Option Interface) (p : ModulePair)
      → HasNoFault (λ pass. pair_fault b pass more l r o p) ↔ (IsClean more × HasNoFault (λ pass. pair_fault b pass flawless l r o p))
  split_pair more l r o p = split_more p.at more (pair_flaws l r o p) (pair_rest l r o p)

module _ (b : Bundle) where
  no_fields : (seen : List Word) (x : Word) (P : Type 0) → (IsClean (twice_where (is_among x seen)) × P) ↔ ((is_among x seen ≡ false) × ((false ≡ false) × P))
  no_fields seen x P = iff_both (twice_clean (is_among x seen)) (λ h. (refl, h), λ h. h.1)

  item_law : (seen fields : List Word) (i : Item) → HasNoFault (λ pass. item_fault b pass seen fields i)
      ↔ ((is_among (item_name i) seen ≡ false) × ((repeats fields (fields_of_item i) ≡ false) × IsFine b i))
  item_law seen fields (OfClass c) =
      iff_then (class_law (tables_of b) fields (twice_where (is_among c.name seen)) c) (iff_both (twice_clean (is_among c.name seen)) iff_same)
  item_law seen fields (OfInterface i) = iff_then (interface_law (tables_of b) (twice_where (is_among i.name seen)) i) (no_fields seen i.name (IsFine b (OfInterface i)))
  item_law seen fields (OfModule m) = iff_then (split_module b (twice_where (is_among m.name seen)) (find_interface b m.interface) m) (no_fields seen m.name (IsFine b (OfModule m)))
  item_law seen fields (OfUnit u) = iff_then (unit_law (tables_of b) (twice_where (is_among u.name seen)) u) (no_fields seen u.name (IsFine b (OfUnit u)))
  item_law seen fields (OfClient c) = iff_then (split_client b (twice_where (is_among c.name seen)) (find_interface b c.interface) c) (no_fields seen c.name (IsFine b (OfClient c)))
  item_law seen fields (OfJudgement j) =
      iff_then (judgement_law b (twice_where (is_among j.name seen)) (subject_of b j.left) (subject_of b j.right) j) (no_fields seen j.name (IsFine b (OfJudgement j)))
  item_law seen fields (OfPair p) =
      iff_then (split_pair b (twice_where (is_among p.name seen)) (find_module b p.left) (find_module b p.right) (interface_of_module b (find_module b p.left)) p) (no_fields seen p.name (IsFine b (OfPair p)))

  items_law : (seen fields : List Word) (is : List Item) → HasNoFault (λ pass. items_fault b pass seen fields is)
      ↔ ((AreDistinct (map item_name is) × AreApart seen (map item_name is)) × ((AreDistinct (fields_in is) × AreApart fields (fields_in is)) × AllByRecursion (IsFine b) is))
  items_law seen fields [] = (λ h. ((tt, tt), ((tt, tt), tt)), λ h. (refl, refl))
  items_law seen fields (i ∷ is) =
      let whole = no_fault_in_both (λ pass. item_fault b pass seen fields i) (λ pass. items_fault b pass (item_name i ∷ seen) (fields_of_item i ++ fields) is) in
      let here = item_law seen fields i in
      let rest = items_law (item_name i ∷ seen) (fields_of_item i ++ fields) is in
      let among = among_is_false (item_name i) seen in
      let names = apart_cons (item_name i) seen (map item_name is) in
      let own = repeats_is_false fields (fields_of_item i) in
      let all = distinct_append (fields_of_item i) (fields_in is) in
      let before = apart_append (fields_of_item i) fields (fields_in is) in
      let later = apart_of_append fields (fields_of_item i) (fields_in is) in (
        λ h.
            let w = whole.0 h in
            let e = here.0 w.0 in
            let r = rest.0 w.1 in
            let n = names.0 r.0.1 in
            let o = own.0 e.1.0 in
            let x = before.0 r.1.0.1 in
            (((n.0, r.0.0), (among.0 e.0, n.1)), ((all.1 (o.0, r.1.0.0, x.0), later.1 (o.1, x.1)), (e.1.1, r.1.1))),
        λ h.
            let a = all.0 h.1.0.0 in
            let l = later.0 h.1.0.1 in
            whole.1 (
              here.1 (among.1 h.0.1.0, (own.1 (a.0, l.0), h.1.1.0)),
              rest.1 ((h.0.0.1, names.1 (h.0.0.0, h.0.1.1)), ((a.1, before.1 (a.2, l.1)), h.1.1.1)),
            ),
      )

  -- ---- from fine to typed

  -- an interface that is found has the name that was sought, and is typed
  abbrev GivesTyped : Word → Option Interface → Type 0
  GivesTyped x o = IfSome o (λ i. IsTypedInterface (tables_of b) i × (x ≡ i.name))

  module_item : (m : Module) (o : Option Interface) → GivesTyped m.interface o
      → HasNoFault (λ pass. module_fault (tables_of b) pass flawless o m) ↔ IsSomeAnd o (λ i. IsTypedModule (tables_of b) i m)
  module_item m None typed =
      (λ h. absurd (true≢false ((or_false (have_unknown_types (tables_of b) m.globals) true).0 (ap (λ f. f.unknown) ((at_first m.at (module_flaws b None m) (module_rest b None m)).0 h).0)).1), λ t. absurd t)
  module_item m (Some i) typed = let law = module_law (tables_of b) flawless i m typed.0 typed.1 in (λ h. (law.0 h).1, λ t. law.1 (refl, t))

  client_item : (c : Client) (o : Option Interface) → GivesTyped c.interface o
      → HasNoFault (λ pass. client_fault (tables_of b) pass flawless o c) ↔ IsSomeAnd o (λ i. IsTypedClient (tables_of b) i c)
  client_item c None typed =
      (λ h. absurd (true≢false ((or_false (have_unknown_types (tables_of b) c.globals) true).0 (ap (λ f. f.unknown) ((at_first c.at (client_flaws b None c) (client_rest b None c)).0 h).0)).1), λ t. absurd t)
  client_item c (Some i) typed = let law = client_law (tables_of b) flawless i c typed.0 typed.1 in (λ h. (law.0 h).1, λ t. law.1 (refl, t))

  -- a module that is found is typed in its interface
  abbrev IsTypedHere : Module → Type 0
  IsTypedHere m = IsSomeAnd (find_interface b m.interface) (λ i. IsTypedModule (tables_of b) i m)

  pair_unknown : (l r : Option Module) (o : Option Interface) (p : ModulePair) → (is_none l || is_none r) ≡ true → HasNoFault (λ pass. pair_fault b pass flawless l r o p) → ⊥
  pair_unknown l r o p absent h = true≢false (sym absent ∙ ap (λ f. f.unknown) ((at_first p.at (pair_flaws b l r o p) (pair_rest b l r o p)).0 h).0)

  pair_of_modules : (p : ModulePair) (m n : Module) (o : Option Interface) → GivesTyped m.interface o
      → IsSomeAnd o (λ i. IsTypedModule (tables_of b) i m) → (m.interface ≡ n.interface → IsSomeAnd o (λ i. IsTypedModule (tables_of b) i n))
      → HasNoFault (λ pass. pair_fault b pass flawless (Some m) (Some n) o p) ↔ IsSomeAnd o (λ i. IsTypedPair b p i m n)
  pair_of_modules p m n None typed left right = absurd left
  pair_of_modules p m n (Some i) typed left right = let law = pair_law b i m n flawless p typed.0 left right in (λ h. (law.0 h).1, λ t. law.1 (refl, t))

  pair_item : (interfaces : (x : Word) → GivesTyped x (find_interface b x)) (p : ModulePair) (l r : Option Module)
      → IfSome l IsTypedHere → IfSome r IsTypedHere
      → HasNoFault (λ pass. pair_fault b pass flawless l r (interface_of_module b l) p)
      ↔ IsSomeAnd l (λ m. IsSomeAnd r (λ n. IsSomeAnd (find_interface b m.interface) (λ i. IsTypedPair b p i m n)))
  pair_item interfaces p None r left right = (λ h. absurd (pair_unknown None r (interface_of_module b None) p refl h), λ t. absurd t)
  pair_item interfaces p (Some m) None left right = (λ h. absurd (pair_unknown (Some m) None (interface_of_module b (Some m)) p refl h), λ t. absurd t)
  pair_item interfaces p (Some m) (Some n) left right =
      pair_of_modules p m n (find_interface b m.interface) (interfaces m.interface) left
      (λ same. subst (λ x. IsSomeAnd (find_interface b x) (λ i. IsTypedModule (tables_of b) i n)) (sym same) right)

  typed_law : (interfaces : (x : Word) → GivesTyped x (find_interface b x)) (modules : (x : Word) → IfSome (find_module b x) IsTypedHere) (i : Item) → IsFine b i ↔ IsTypedItem b i
  typed_law interfaces modules (OfClass c) = iff_same
  typed_law interfaces modules (OfInterface i) = iff_same
  typed_law interfaces modules (OfModule m) = module_item m (find_interface b m.interface) (interfaces m.interface)
  typed_law interfaces modules (OfUnit u) = iff_same
  typed_law interfaces modules (OfClient c) = client_item c (find_interface b c.interface) (interfaces c.interface)
  typed_law interfaces modules (OfJudgement j) = iff_same
  typed_law interfaces modules (OfPair p) = pair_item interfaces p (find_module b p.left) (find_module b p.right) (modules p.left) (modules p.right)

  -- what is found among items that are typed, and among items that are fine
  interfaces_typed : (P : Item → Type 0) → ((i : Interface) → P (OfInterface i) → IsTypedInterface (tables_of b) i) → AllByRecursion P b.items
      → (x : Word) → GivesTyped x (find_interface b x)
  interfaces_typed P each all x = found_named (IsTypedInterface (tables_of b)) (λ i. i.name) x (interfaces_of b.items) (interfaces_all P (IsTypedInterface (tables_of b)) each b.items all)

  modules_typed : (P : Item → Type 0) → ((m : Module) → P (OfModule m) → IsTypedHere m) → AllByRecursion P b.items → (x : Word) → IfSome (find_module b x) IsTypedHere
  modules_typed P each all x = weaker (find_module b x) (found_named IsTypedHere (λ m. m.name) x (modules_of b.items) (modules_all P IsTypedHere each b.items all))
    where
      weaker : (o : Option Module) → IfSome o (λ m. IsTypedHere m × (x ≡ m.name)) → IfSome o IsTypedHere
      weaker None h = tt
      weaker (Some m) h = h.0

  all_typed : AllByRecursion (IsFine b) b.items ↔ AllByRecursion (IsTypedItem b) b.items
  all_typed = (
    λ h.
        let interfaces = interfaces_typed (IsFine b) (λ i t. t) h in
        let modules = modules_typed (IsFine b) (λ m f. (module_item m (find_interface b m.interface) (interfaces m.interface)).0 f) h in
        (iff_all (IsFine b) (IsTypedItem b) (typed_law interfaces modules) b.items).0 h,
    λ h. (iff_all (IsFine b) (IsTypedItem b) (typed_law (interfaces_typed (IsTypedItem b) (λ i t. t) h) (modules_typed (IsTypedItem b) (λ m t. t) h)) b.items).1 h,
  )

pub bundle_law : TypedHaveNoFault
bundle_law b =
    let items = items_law b [] [] b.items in
    let passes = first_none (items_fault b ForTwice [] [] b.items) (items_fault b ForOthers [] [] b.items) in
    let typed = all_typed b in (
      λ t. passes.1 (items.1 (
        (t.names, apart_from_nothing (map item_name b.items)),
        ((subst AreDistinct (field_names b.items) t.fields, apart_from_nothing (fields_in b.items)), typed.1 t.items),
      )),
      λ e. let h = items.0 (passes.0 e) in record { names = h.0.0; fields = subst AreDistinct (sym (field_names b.items)) h.1.0.0; items = typed.0 h.1.1 },
    )
