-- The classes and the fields of a list of items, one item after the other.
use Rattle.std.proofs.Common.{◌≡◌, ℕ, suc, ◌+◌, ◌<◌, ◌≤◌, Bool, true, false, ◌||◌, List, [], ◌∷◌, ◌++◌, map, take, drop, get_or, length, None, refl, sym, ap, ap₂, ◌∙◌, append_assoc, append-nil}
use Rattle.std.specs.Prelude.{is_some}
use Rattle.std.proofs.Math.Seq.{drop-cons}
use Rattle.std.proofs.lemmas.List.{take_more, take_all, map-append, take-append-drop}
use Rattle.std.proofs.lemmas.Slice.Eq.{bytes_eq-Decides}
use Rattle.rel_lang.specs.Syntax.{Word, Decl, ClassItem, Item, OfClass, OfInterface, OfModule, OfUnit, OfClient, OfJudgement, OfPair, Bundle}
use Rattle.rel_lang.specs.State.{Tables, tables_of, ClassField, class_items, fields_of, class_number}
use Rattle.rel_lang.specs.View.{class_of, decl_of, item_of}
use Rattle.rel_lang.specs.declared.bundle.Class as C
use Rattle.rel_lang.specs.declared.bundle.Decl as D
use Rattle.rel_lang.specs.declared.bundle.Item as I
use Rattle.rel_lang.specs.declared.bundle.Item.TheVariants as IV
use Rattle.rel_lang.specs.declared.typed.FieldInfo as F
use Rattle.rel_flaws.specs.Entries.{find_entry}
use Rattle.rel_flaws.specs.Inference.{is_among, is_class}
use Rattle.rel_flaws.proofs.Indexes.{is_listed}
use Rattle.rel_types.specs.Known.{IsKnown}
use Rattle.rel_types.specs.Numbers.{NumberedField, field_infos, infos_of_class, numbered}
use Rattle.rel_types.specs.declared.known.Known as K
use Rattle.rel_types.proofs.Repeats.{among_both}

-- ---- a number

-- a class of the bundle is known
pub is_known : (b : Bundle) (known : K.Known) (c : Word) → IsKnown b known → is_class (tables_of b) c ≡ true → find_entry c known.tables.classes ≡ None → ⊥
is_known b known c k listed none =
    let some : is_some (find_entry c known.tables.classes) ≡ true = is_listed c known.tables.classes ∙ k.tables.classes c ∙ listed in
    absurd (nothing (sym (ap is_some none) ∙ some))
  where
    nothing : false ≡ true → ⊥
    nothing e = cc

-- ---- lists of items

abbrev class_names : List Item → List Word
class_names is = map (λ c. c.name) (class_items is)

classes_both : (xs ys : List Item) → class_items (xs ++ ys) ≡ class_items xs ++ class_items ys
classes_both [] ys = refl
classes_both (OfClass c ∷ xs) ys = ap (λ l. c ∷ l) (classes_both xs ys)
classes_both (OfInterface i ∷ xs) ys = classes_both xs ys
classes_both (OfModule m ∷ xs) ys = classes_both xs ys
classes_both (OfUnit u ∷ xs) ys = classes_both xs ys
classes_both (OfClient c ∷ xs) ys = classes_both xs ys
classes_both (OfJudgement j ∷ xs) ys = classes_both xs ys
classes_both (OfPair p ∷ xs) ys = classes_both xs ys

fields_both : (xs ys : List ClassItem) → fields_of (xs ++ ys) ≡ fields_of xs ++ fields_of ys
fields_both [] ys = refl
fields_both (c ∷ xs) ys =
    let own : List ClassField = map (λ d. record { name = d.name; class = c.name; ty = d.ty }) c.fields in
    ap (λ l. own ++ l) (fields_both xs ys) ∙ sym (append_assoc own (fields_of xs) (fields_of ys))

of_one_class : (t : Tables) (c : ClassItem) (ds : List Decl)
    → map (numbered t) (map (λ d. record { name = d.name; class = c.name; ty = d.ty }) ds) ≡ infos_of_class (class_number t c.name) ds
of_one_class t c [] = refl
of_one_class t c (d ∷ ds) = ap (λ l. record { name = d.name; class = class_number t c.name; ty = d.ty } ∷ l) (of_one_class t c ds)

-- the numbered fields of some items
abbrev pub numbered_in : Tables → List Item → List NumberedField
numbered_in t is = map (numbered t) (fields_of (class_items is))

numbered_both : (t : Tables) (xs ys : List Item) → numbered_in t (xs ++ ys) ≡ numbered_in t xs ++ numbered_in t ys
numbered_both t xs ys =
    ap (λ l. map (numbered t) (fields_of l)) (classes_both xs ys) ∙ ap (map (numbered t)) (fields_both (class_items xs) (class_items ys))
    ∙ map-append (numbered t) (fields_of (class_items xs)) (fields_of (class_items ys))

numbered_class : (t : Tables) (c : ClassItem) → numbered_in t (OfClass c ∷ []) ≡ infos_of_class (class_number t c.name) c.fields
numbered_class t c =
    ap (map (numbered t)) (append-nil (map (λ d. record { name = d.name; class = c.name; ty = d.ty }) c.fields)) ∙ of_one_class t c c.fields

-- what a loop over items has gathered after so many
pub record AreGathered (t : Tables) (names : List Word) (fields : List F.FieldInfo) (items : List I.Item) (i : ℕ) : Type 0 where
  pub classes : names ≡ class_names (map item_of (take i items))
  pub numbers : field_infos fields ≡ numbered_in t (map item_of (take i items))

module _ (t : Tables) (items list : List I.Item) (i : ℕ) (d : I.Item) (same : items ≡ list) (within : i < length items) (at : d ≡ get_or items i d) where
  more_items : map item_of (take (i + 1) list) ≡ map item_of (take i list) ++ item_of d ∷ []
  more_items =
      ap (λ l. map item_of (take (i + 1) l)) (sym same) ∙ ap (map item_of) (take_more items i d within)
      ∙ map-append item_of (take i items) (get_or items i d ∷ []) ∙ ap₂ (λ l x. map item_of (take i l) ++ item_of x ∷ []) same (sym at)

  -- a class
  pub gathered_class : (c : C.Class) (names names' : List Word) (fields fields' : List F.FieldInfo) (n : ℕ) (name : Word) → d ≡ IV.Class c
      → AreGathered t names fields list i → name ≡ c.name → names' ≡ names ++ name ∷ [] → n ≡ class_number t c.name
      → field_infos fields' ≡ field_infos fields ++ infos_of_class n (map decl_of c.fields) → AreGathered t names' fields' list (i + 1)
  gathered_class c names names' fields fields' n name is before named more number more_fields =
      let next : map item_of (take (i + 1) list) ≡ map item_of (take i list) ++ OfClass (class_of c) ∷ [] =
      more_items ∙ ap (λ x. map item_of (take i list) ++ item_of x ∷ []) is in record {
        classes =
            more ∙ ap₂ (λ l x. l ++ x ∷ []) before.classes named
            ∙ sym (ap class_names next ∙ ap (map (λ x. x.name)) (classes_both (map item_of (take i list)) (OfClass (class_of c) ∷ []))
            ∙ map-append (λ x. x.name) (class_items (map item_of (take i list))) (class_of c ∷ []));
        numbers =
            more_fields ∙ ap₂ (λ l m. l ++ infos_of_class m (map decl_of c.fields)) before.numbers number
            ∙ ap (λ l. numbered_in t (map item_of (take i list)) ++ l) (sym (numbered_class t (class_of c)))
            ∙ sym (ap (numbered_in t) next ∙ numbered_both t (map item_of (take i list)) (OfClass (class_of c) ∷ []));
      }

  -- another item
  pub gathered_other : (names : List Word) (fields : List F.FieldInfo) → class_items (item_of d ∷ []) ≡ [] → AreGathered t names fields list i → AreGathered t names fields list (i + 1)
  gathered_other names fields none before =
      let both : class_items (map item_of (take (i + 1) list)) ≡ class_items (map item_of (take i list)) =
      ap class_items more_items ∙ classes_both (map item_of (take i list)) (item_of d ∷ []) ∙ ap (λ l. class_items (map item_of (take i list)) ++ l) none ∙ append-nil _ in record {
        classes = before.classes ∙ sym (ap (map (λ x. x.name)) both);
        numbers = before.numbers ∙ sym (ap (λ l. map (numbered t) (fields_of l)) both);
      }

-- ---- a class is among those of its bundle

or_true : (b : Bool) → (b || true) ≡ true
or_true true = refl
or_true false = refl

among_front : (x : Word) (xs ys : List Word) → is_among x (xs ++ x ∷ ys) ≡ true
among_front x xs ys =
    among_both x xs (x ∷ ys) ∙ ap (λ b. is_among x xs || (b || is_among x ys)) ((bytes_eq-Decides x x).1 refl) ∙ or_true (is_among x xs)

pub listed_at : (items list : List I.Item) (i : ℕ) (d : I.Item) (c : C.Class) → items ≡ list → i < length items → d ≡ get_or items i d → d ≡ IV.Class c
    → is_class (tables_of (record { items = map item_of list })) c.name ≡ true
listed_at items list i d c same within at is =
    ap (is_among c.name) (ap (λ l. class_names (map item_of l)) (sym same ∙ sym (take-append-drop i items) ∙ ap (λ l. take i items ++ l) (drop-cons items i d within)
    ∙ ap (λ x. take i items ++ x ∷ drop (suc i) items) (sym at ∙ is))
    ∙ ap class_names (map-append item_of (take i items) (IV.Class c ∷ drop (suc i) items))
    ∙ ap (map (λ x. x.name)) (classes_both (map item_of (take i items)) (OfClass (class_of c) ∷ map item_of (drop (suc i) items)))
    ∙ map-append (λ x. x.name) (class_items (map item_of (take i items))) (class_of c ∷ class_items (map item_of (drop (suc i) items))))
    ∙ among_front c.name (class_names (map item_of (take i items))) (class_names (map item_of (drop (suc i) items)))

-- ---- the end of the loop

pub gathered_all : (t : Tables) (names : List Word) (fields : List F.FieldInfo) (items list : List I.Item) (i : ℕ) → items ≡ list → length items ≤ i → AreGathered t names fields list i
    → (names ≡ class_names (map item_of list)) × (field_infos fields ≡ numbered_in t (map item_of list))
gathered_all t names fields items list i same past h =
    let whole : take i list ≡ list = ap (take i) (sym same) ∙ take_all i items past ∙ same in
    (h.classes ∙ ap (λ l. class_names (map item_of l)) whole, h.numbers ∙ ap (λ l. numbered_in t (map item_of l)) whole)

-- ---- the fields of one class

pub more_infos : (n : ℕ) (before after : List F.FieldInfo) (first : List NumberedField) (f : F.FieldInfo) (ds : List D.Decl) (i : ℕ) (d : D.Decl) → i < length ds → d ≡ get_or ds i d
    → field_infos before ≡ first ++ infos_of_class n (map decl_of (take i ds)) → after ≡ before ++ f ∷ []
    → field_infos (f ∷ []) ≡ infos_of_class n (decl_of d ∷ [])
    → field_infos after ≡ first ++ infos_of_class n (map decl_of (take (i + 1) ds))
more_infos n before after first f ds i d within at old new one =
    ap field_infos new ∙ map-append _ before (f ∷ []) ∙ ap₂ (λ a b. a ++ b) old one
    ∙ append_assoc first (infos_of_class n (map decl_of (take i ds))) (infos_of_class n (decl_of d ∷ []))
    ∙ ap (λ l. first ++ l) (sym (map-append _ (map decl_of (take i ds)) (decl_of d ∷ []))
    ∙ ap (infos_of_class n) (sym (map-append decl_of (take i ds) (d ∷ [])) ∙ ap (λ x. map decl_of (take i ds ++ x ∷ [])) at ∙ ap (map decl_of) (sym (take_more ds i d within))))
