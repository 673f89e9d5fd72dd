-- The first fault of each kind of item, and of a list of items.
use Rattle.std.proofs.Common.{◌≡◌, ℕ, ◌+◌, ◌<◌, ◌≤◌, Bool, List, [], ◌∷◌, ◌++◌, map, suc, drop, get_or, length, Option, Some, None, refl, sym, ap, ap₂, subst, ◌∙◌, arith}
use Rattle.std.specs.Prelude.{bytes_eq, ◌||◌}
use Rattle.std.proofs.Math.Seq.{drop-cons}
use Rattle.std.proofs.lemmas.List.{drop_all}
use Rattle.rel_lang.specs.Syntax.{Word, Interface, Item, OfClass, OfInterface, OfModule, OfUnit, OfClient, OfJudgement, OfPair, Bundle}
use Rattle.rel_lang.specs.State.{tables_of}
use Rattle.rel_lang.specs.Lookup.{find_interface, find_module, subject_of}
use Rattle.rel_lang.specs.Typed.{item_name}
use Rattle.rel_lang.specs.View.{class_of, interface_of, module_of, unit_of, client_of, item_of}
use Rattle.rel_lang.specs.declared.bundle.Class as C
use Rattle.rel_lang.specs.declared.bundle.Interface as N
use Rattle.rel_lang.specs.declared.bundle.Module as M
use Rattle.rel_lang.specs.declared.bundle.UnitItem as U
use Rattle.rel_lang.specs.declared.bundle.Client as V
use Rattle.rel_lang.specs.declared.bundle.Item as I
use Rattle.rel_lang.specs.declared.bundle.Item.TheVariants as IV
use Rattle.rel_flaws.specs.Entries.{find_entry}
use Rattle.rel_flaws.specs.Flaws.{Flaws, flawless, either, Pass, Fault, fault_at, first_of}
use Rattle.rel_flaws.specs.Inference.{is_among, have_unknown_types}
use Rattle.rel_flaws.specs.View.{tables_seen}
use Rattle.rel_types.specs.Items.{declared_names, twice_where, class_fault, interface_fault, module_fault, unit_fault, client_fault, judgement_fault, pair_fault, interface_of_module, fields_of_item, item_fault, items_fault}
use Rattle.rel_types.specs.Known.{BothAre, IsInterfaceSeen, IsKnown}
use Rattle.rel_types.specs.Lookups.{SameNames}
use Rattle.rel_types.specs.declared.known.InterfaceSeen as S
use Rattle.rel_types.specs.declared.known.Known as K
use Rattle.rel_types.proofs.Repeats.{same_names_after, repeats_same}
use Rattle.rel_types.proofs.SameItems.{class_with, interface_with, module_with, unit_with, client_with}

-- ---- one item

module _ (b : Bundle) (known : K.Known) (k : IsKnown b known) (pass : Pass) (seen fields : List Word) (item : I.Item) (more : Flaws)
    (again : more ≡ twice_where (is_among (item_name (item_of item)) seen)) (f : Option Fault) where
  abbrev Goal : Type 0
  Goal = f ≡ item_fault b pass seen fields (item_of item)

  pub of_class : (c : C.Class) → item ≡ IV.Class c → f ≡ class_fault (tables_seen known.tables) pass fields more (class_of c) → Goal
  of_class c is e =
      e ∙ class_with (tables_seen known.tables) (tables_of b) k.tables pass fields more (class_of c)
      ∙ ap (λ m. class_fault (tables_of b) pass fields m (class_of c)) (again ∙ ap (λ i. twice_where (is_among (item_name (item_of i)) seen)) is)
      ∙ sym (ap (λ i. item_fault b pass seen fields (item_of i)) is)

  pub of_interface : (x : N.Interface) → item ≡ IV.Interface x → f ≡ interface_fault (tables_seen known.tables) pass more (interface_of x) → Goal
  of_interface x is e =
      e ∙ interface_with (tables_seen known.tables) (tables_of b) k.tables pass more (interface_of x)
      ∙ ap (λ m. interface_fault (tables_of b) pass m (interface_of x)) (again ∙ ap (λ i. twice_where (is_among (item_name (item_of i)) seen)) is)
      ∙ sym (ap (λ i. item_fault b pass seen fields (item_of i)) is)

  pub of_unit : (u : U.UnitItem) → item ≡ IV.UnitItem u → f ≡ unit_fault (tables_seen known.tables) pass more (unit_of u) → Goal
  of_unit u is e =
      e ∙ unit_with (tables_seen known.tables) (tables_of b) k.tables pass more (unit_of u)
      ∙ ap (λ m. unit_fault (tables_of b) pass m (unit_of u)) (again ∙ ap (λ i. twice_where (is_among (item_name (item_of i)) seen)) is)
      ∙ sym (ap (λ i. item_fault b pass seen fields (item_of i)) is)

  -- what is known of an interface by its name
  interface_found : (x y : Word) (o : Option S.InterfaceSeen) → x ≡ y → o ≡ find_entry x known.interfaces → BothAre IsInterfaceSeen (find_interface b y) o
  interface_found x y o named found =
      subst (BothAre IsInterfaceSeen (find_interface b y)) (sym (found ∙ ap (λ z. find_entry z known.interfaces) named)) (k.interfaces y)

  pub of_module : (m : M.Module) (x : Word) (o : Option S.InterfaceSeen) → item ≡ IV.Module m → x ≡ m.interface → o ≡ find_entry x known.interfaces
      → ((i : Option Interface) → BothAre IsInterfaceSeen i o → f ≡ module_fault (tables_seen known.tables) pass more i (module_of m)) → Goal
  of_module m x o is named found e =
      let i = find_interface b m.interface in
      e i (interface_found x m.interface o named found)
      ∙ module_with (tables_seen known.tables) (tables_of b) k.tables pass more i (module_of m)
      ∙ ap (λ w. module_fault (tables_of b) pass w i (module_of m)) (again ∙ ap (λ j. twice_where (is_among (item_name (item_of j)) seen)) is)
      ∙ sym (ap (λ j. item_fault b pass seen fields (item_of j)) is)

  pub of_client : (c : V.Client) (x : Word) (o : Option S.InterfaceSeen) → item ≡ IV.Client c → x ≡ c.interface → o ≡ find_entry x known.interfaces
      → ((i : Option Interface) → BothAre IsInterfaceSeen i o → f ≡ client_fault (tables_seen known.tables) pass more i (client_of c)) → Goal
  of_client c x o is named found e =
      let i = find_interface b c.interface in
      e i (interface_found x c.interface o named found)
      ∙ client_with (tables_seen known.tables) (tables_of b) k.tables pass more i (client_of c)
      ∙ ap (λ w. client_fault (tables_of b) pass w i (client_of c)) (again ∙ ap (λ j. twice_where (is_among (item_name (item_of j)) seen)) is)
      ∙ sym (ap (λ j. item_fault b pass seen fields (item_of j)) is)

-- ---- a list of items

module _ (b : Bundle) (pass : Pass) where
  item_same : (s t f g : List Word) → SameNames s t → SameNames f g → (i : Item) → item_fault b pass s f i ≡ item_fault b pass t g i
  item_same s t f g h k (OfClass c) =
      ap (λ m. class_fault (tables_of b) pass f (twice_where m) c) (h c.name)
      ∙ ap {A = Bool} (λ r. fault_at pass c.at (either (twice_where (is_among c.name t)) (record flawless { twice = r; unknown = have_unknown_types (tables_of b) c.fields })))
      (repeats_same f g k (declared_names c.fields))
  item_same s t f g h k (OfInterface i) = ap (λ m. interface_fault (tables_of b) pass (twice_where m) i) (h i.name)
  item_same s t f g h k (OfModule m) = ap (λ w. module_fault (tables_of b) pass (twice_where w) (find_interface b m.interface) m) (h m.name)
  item_same s t f g h k (OfUnit u) = ap (λ m. unit_fault (tables_of b) pass (twice_where m) u) (h u.name)
  item_same s t f g h k (OfClient c) = ap (λ w. client_fault (tables_of b) pass (twice_where w) (find_interface b c.interface) c) (h c.name)
  item_same s t f g h k (OfJudgement j) = ap (λ w. judgement_fault b pass (twice_where w) (subject_of b j.left) (subject_of b j.right) j) (h j.name)
  item_same s t f g h k (OfPair p) =
      let m = find_module b p.left in
      ap (λ w. pair_fault b pass (twice_where w) m (find_module b p.right) (interface_of_module b m) p) (h p.name)

  pub items_same : (s t f g : List Word) → SameNames s t → SameNames f g → (is : List Item) → items_fault b pass s f is ≡ items_fault b pass t g is
  items_same s t f g h k [] = refl
  items_same s t f g h k (i ∷ is) =
      ap₂ first_of (item_same s t f g h k i)
      (items_same (item_name i ∷ s) (item_name i ∷ t) (fields_of_item i ++ f) (fields_of_item i ++ g)
      (λ y. ap (λ c. bytes_eq y (item_name i) || c) (h y))
      (same_names_after (fields_of_item i) f (fields_of_item i) g (λ y. refl) k) is)

  -- what is left of the items is told by those that stand before
  module _ (items list : List I.Item) (i : ℕ) (d : I.Item) (same : items ≡ list) (within : i < length items) (at : d ≡ get_or items i d) where
    left : map item_of (drop i list) ≡ item_of d ∷ map item_of (drop (i + 1) list)
    left =
        ap (λ l. map item_of (drop i l)) (sym same) ∙ ap (map item_of) (drop-cons items i d within)
        ∙ ap₂ (λ x l. item_of x ∷ map item_of (drop (suc i) l)) (sym at) same ∙ ap (λ n. item_of d ∷ map item_of (drop n list)) (one_more i)
      where
        one_more : (n : ℕ) → suc n ≡ n + 1
        one_more n = omega arith

    pub item_here : (whole : Option Fault) (s f : List Word) (found : Fault) → whole ≡ items_fault b pass s f (map item_of (drop i list))
        → Some found ≡ item_fault b pass s f (item_of d) → Some found ≡ whole
    item_here whole s f found rest here =
        ap (λ o. first_of o (items_fault b pass (item_name (item_of d) ∷ s) (fields_of_item (item_of d) ++ f) (map item_of (drop (i + 1) list)))) here
        ∙ sym (rest ∙ ap (items_fault b pass s f) left)

    pub item_passed : (whole : Option Fault) (s f t g : List Word) (name : Word) → whole ≡ items_fault b pass s f (map item_of (drop i list))
        → None ≡ item_fault b pass s f (item_of d) → name ≡ item_name (item_of d) → SameNames t (name ∷ s) → SameNames g (fields_of_item (item_of d) ++ f)
        → whole ≡ items_fault b pass t g (map item_of (drop (i + 1) list))
    item_passed whole s f t g name rest none named more_seen more_fields =
        let rest_of : List Item = map item_of (drop (i + 1) list) in
        rest ∙ ap (items_fault b pass s f) left
        ∙ ap (λ o. first_of o (items_fault b pass (item_name (item_of d) ∷ s) (fields_of_item (item_of d) ++ f) rest_of)) (sym none)
        ∙ sym (items_same t (item_name (item_of d) ∷ s) g (fields_of_item (item_of d) ++ f)
        (λ y. more_seen y ∙ ap (λ n. bytes_eq y n || is_among y s) named) more_fields rest_of)

  pub none_left : (whole : Option Fault) (s f : List Word) (items list : List I.Item) (i : ℕ) → items ≡ list → length items ≤ i
      → whole ≡ items_fault b pass s f (map item_of (drop i list)) → None ≡ whole
  none_left whole s f items list i same past rest =
      sym (rest ∙ ap (λ l. items_fault b pass s f (map item_of (drop i l))) (sym same) ∙ ap (λ l. items_fault b pass s f (map item_of l)) (drop_all i items past))
