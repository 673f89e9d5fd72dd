-- A term has its expression's value.
use Rattle.std.proofs.Common.{◌≡◌, Bool, false, ◌+ℤ◌, ◌-ℤ◌, ◌*ℤ◌, List, refl, sym, ap, subst, ◌∙◌}
use Rattle.std.specs.FinSet as set
use Rattle.rel_list.specs.References.{just, of_class}
use Rattle.rel_lang.specs.Syntax.{Word, Ty, Int, Rgn, Class, Expression, Var, Num, Null, Empty, Alloc, Add, Sub, Mul, Field, Single, Union, Meet, Minus, Image, Filter, Old, Decl}
use Rattle.rel_lang.specs.State as state
use Rattle.rel_lang.specs.State.{Tables, class_number, find_field, Value, as_reference, as_region, State, Scope}
use Rattle.rel_lang.specs.Typed.{HasType}
use Rattle.rel_lang.specs.Value.{value_of}
use Rattle.rel_logic.specs.Truth.{Elem, number, rgn, as_number, as_ref, as_rgn, selected, image, Valuation, value}
use Rattle.rel_encode.specs.Numbers.{Numbers, numbered, declarations_of}
use Rattle.rel_encode.specs.Terms.{Store, term_of}
use Rattle.rel_encode.specs.Meaning.{elem_of, HasTypedHeap, StandsFor}
use Rattle.rel_encode.specs.Laws.{IsExactTerm}
use Rattle.rel_encode.proofs.Named.{variable_value, map_value}
use Rattle.rel_encode.proofs.OfKind.{same_number, same_reference, same_objects, selected_value, image_value, is_there}

pub number_value : (e : Elem) (v : Value) → e ≡ elem_of v → as_number e ≡ state.as_number v
number_value e v is = ap as_number is ∙ same_number v

pub reference_value : (e : Elem) (v : Value) → e ≡ elem_of v → as_ref e ≡ as_reference v
reference_value e v is = ap as_ref is ∙ same_reference v

pub region_value : (e : Elem) (v : Value) → e ≡ elem_of v → as_rgn e ≡ as_region v
region_value e v is = ap as_rgn is ∙ same_objects v

module _ (tables : Tables) (sc : Scope) (r : Valuation) (bs : List Elem) where
  -- the term and the expression's value, where the first store stands for `before` and the second one for s
  abbrev HasValue : Expression → Store → Store → State → State → Type 0
  HasValue e entry now before s = value r bs (term_of (numbered tables) (declarations_of sc) e entry now) ≡ elem_of (value_of tables sc e before s)

  field_value : (a : Expression) (f : Word) (t : Ty) (old : Bool) (entry now : Store) (before s : State) → HasTypedHeap tables s → StandsFor tables sc r bs now s
      → ((u : Ty) → HasType tables old sc a u → HasValue a entry now before s) → HasType tables old sc (Field a f) t → HasValue (Field a f) entry now before s
  field_value a f t old entry now before s heap stands part typed =
      let d = is_there (find_field tables f) typed in
      let maps = map_value tables r bs sc f d.0 now s d.1 stands in
      let at = reference_value _ _ (part (Class (d.0).class) (d.2).0) in
      (λ i. selected (maps i) (at i)) ∙ selected_value tables f d.0 s d.1 heap _

  objects_value : (a : Expression) (f : Word) (t : Ty) (old : Bool) (entry now : Store) (before s : State) → HasTypedHeap tables s → StandsFor tables sc r bs now s
      → ((u : Ty) → HasType tables old sc a u → HasValue a entry now before s) → HasType tables old sc (Image a f) t → HasValue (Image a f) entry now before s
  objects_value a f t old entry now before s heap stands part typed =
      let d = is_there (find_field tables f) typed in
      let maps = map_value tables r bs sc f d.0 now s d.1 stands in
      let at = region_value _ _ (part Rgn (d.2).0) in
      ap rgn ((λ i. image (maps i) (at i)) ∙ image_value tables f d.0 s d.1 heap _ (d.2).1)

  pub term_value : (e : Expression) (t : Ty) (old : Bool) (entry now : Store) (before s : State) → HasTypedHeap tables before → HasTypedHeap tables s
      → StandsFor tables sc r bs entry before → StandsFor tables sc r bs now s → HasType tables old sc e t → HasValue e entry now before s
  term_value (Var x) t old entry now before s h k b n typed = variable_value tables r bs sc x now s n
  term_value (Num m) t old entry now before s h k b n typed = refl
  term_value Null t old entry now before s h k b n typed = refl
  term_value Empty t old entry now before s h k b n typed = refl
  term_value Alloc t old entry now before s h k b n typed = n.alloc
  term_value (Add c d) t old entry now before s h k b n typed =
      let v = number_value _ _ (term_value c Int old entry now before s h k b n typed.0) in
      let w = number_value _ _ (term_value d Int old entry now before s h k b n typed.1) in
      λ i. number (v i +ℤ w i)
  term_value (Sub c d) t old entry now before s h k b n typed =
      let v = number_value _ _ (term_value c Int old entry now before s h k b n typed.0) in
      let w = number_value _ _ (term_value d Int old entry now before s h k b n typed.1) in
      λ i. number (v i -ℤ w i)
  term_value (Mul m c) t old entry now before s h k b n typed =
      let v = number_value _ _ (term_value c Int old entry now before s h k b n typed.0) in
      λ i. number (m *ℤ v i)
  term_value (Field c f) t old entry now before s h k b n typed = field_value c f t old entry now before s k n (λ u. term_value c u old entry now before s h k b n) typed
  term_value (Single c) t old entry now before s h k b n typed =
      let v = reference_value _ _ (term_value c (Class typed.0) old entry now before s h k b n typed.1) in
      λ i. rgn (just (v i))
  term_value (Union c d) t old entry now before s h k b n typed =
      let v = region_value _ _ (term_value c Rgn old entry now before s h k b n typed.0) in
      let w = region_value _ _ (term_value d Rgn old entry now before s h k b n typed.1) in
      λ i. rgn (set.union (v i) (w i))
  term_value (Meet c d) t old entry now before s h k b n typed =
      let v = region_value _ _ (term_value c Rgn old entry now before s h k b n typed.0) in
      let w = region_value _ _ (term_value d Rgn old entry now before s h k b n typed.1) in
      λ i. rgn (set.intersection (v i) (w i))
  term_value (Minus c d) t old entry now before s h k b n typed =
      let v = region_value _ _ (term_value c Rgn old entry now before s h k b n typed.0) in
      let w = region_value _ _ (term_value d Rgn old entry now before s h k b n typed.1) in
      λ i. rgn (set.difference (v i) (w i))
  term_value (Image c f) t old entry now before s h k b n typed = objects_value c f t old entry now before s k n (λ u. term_value c u old entry now before s h k b n) typed
  term_value (Filter c x) t old entry now before s h k b n typed =
      let v = region_value _ _ (term_value c Rgn old entry now before s h k b n typed.0) in
      λ i. rgn (of_class (class_number tables x) (v i))
  term_value (Old c) t old entry now before s h k b n typed = term_value c t false entry entry before before h h b b typed.1

pub exact_term : (numbers : Numbers) (ds : List Decl) (e : Expression) (entry now : Store) → IsExactTerm numbers ds e entry now (term_of numbers ds e entry now)
exact_term numbers ds e entry now tables sc old t is_n is_d typed r bs before s h k b n =
    subst (λ m. value r bs (term_of m ds e entry now) ≡ elem_of (value_of tables sc e before s)) (sym is_n)
    (subst (λ d. value r bs (term_of (numbered tables) d e entry now) ≡ elem_of (value_of tables sc e before s)) (sym is_d)
    (term_value tables sc r bs e t old entry now before s h k b n typed))
