-- When terms have related values, and when regions agree on a field.
use Rattle.std.proofs.Common.{◌≡◌, ◌↔◌, ◌==◌, Bool, ◌&&◌, IsTrue, List, ◌∷◌, Some, None, refl, sym, ap, ◌∙◌}
use Rattle.std.specs.List.{list_any}
use Rattle.std.specs.FinSet as set
use Rattle.std.proofs.lemmas.Bool.Decides.{Decides-eqb}
use Rattle.rel_list.specs.References.{Obj, Ref, Region, is_in}
use Rattle.rel_list.specs.Regions.{are_matched}
use Rattle.rel_list.specs.Pairs.{Pairs, has}
use Rattle.rel_list.proofs.Sets.{and_both}
use Rattle.rel_list.proofs.Regions.{retained, any_item, item_any, matched_is_each}
use Rattle.rel_lang.specs.Syntax.{Word, Ty, Int, Rgn, Class}
use Rattle.rel_lang.specs.State.{ClassField, Tables, class_number, find_field, is_of_field, has_field, Value, Number, Reference, Objects, State}
use Rattle.rel_lang.specs.Relation.{related, related_regions, objects_with, agree_image}
use Rattle.rel_logic.specs.Syntax.{ref_sort, Trm, bound, null, sel, Fml, eq, member, paired, and, or, some}
use Rattle.rel_logic.specs.Truth.{Elem, ref, bij, as_ref, as_rgn, as_pairs, null_elem, selected, Valuation, value, ArePartners, IsTrueAt}
use Rattle.rel_encode.specs.Numbers.{numbered_field, numbered}
use Rattle.rel_encode.specs.Terms.{lifted}
use Rattle.rel_encode.specs.Relations.{sort_of_type, left_members_paired, right_members_paired, related_terms, left_agrees, right_agrees, agree_on}
use Rattle.rel_encode.specs.Meaning.{elem_of, field_map, HasTypedHeap}
use Rattle.rel_encode.proofs.Small.{under_two}
use Rattle.rel_encode.proofs.OfKind.{IsOfKind, heap_kind, selected_value}
use Rattle.rel_encode.proofs.Regions.{along, both_ways, parts, some_reference, each_of_region, each_member_true}
use Rattle.rel_encode.proofs.ExactFormulas.{equal_elems, is_true, never, and_is}

-- ---- members with partners

partner : (p : Obj → Bool) (h : Region) → ¬ ((m : Obj) → ¬ (IsTrue (p m) × IsTrue (is_in m h))) → (m : Obj) × IsTrue (is_in m h) × IsTrue (p m)
partner p h one =
    let e = is_true (list_any p (set.items h)) (λ none. one (λ m x. none (item_any p (set.items h) m (sym (set.contains-items h m) ∙ x.1) x.0))) in
    let m = any_item p (set.items h) e in
    (m.0, set.contains-items h m.0 ∙ m.1, m.2)

matched : (p : Obj → Obj → Bool) (g h : Region)
    → ((o : Obj) → IsTrue (is_in o g) → ¬ ((m : Obj) → ¬ (IsTrue (p o m) × IsTrue (is_in m h)))) ↔ IsTrue (are_matched p g h)
matched p g h = (
  λ each. (matched_is_each p g h).1 (λ o within. partner (p o) h (each o within)),
  λ e o within none. let m = (matched_is_each p g h).0 e o within in none m.0 (m.2, m.1),
)

-- One reference, o, is bound outside of another. `pair` says that the two are partners.
module _ (r : Valuation) (bs : List Elem) (o : Obj) (pair : Fml) (p : Obj → Bool)
    (null_has_none : ¬ (IsTrueAt r (ref None ∷ ref (Some o) ∷ bs) pair))
    (is_pair : (m : Obj) → IsTrueAt r (ref (Some m) ∷ ref (Some o) ∷ bs) pair ↔ IsTrue (p m))
    (t : Trm) (h : Region) (is_h : as_rgn (value r bs t) ≡ h) where
  is_member : (m : Obj) → IsTrueAt r (ref (Some m) ∷ ref (Some o) ∷ bs) (member (bound 0) (lifted 2 t)) ↔ IsTrue (is_in m h)
  is_member m =
      let e : as_rgn (value r (ref (Some m) ∷ ref (Some o) ∷ bs) (lifted 2 t)) ≡ h = ap as_rgn (under_two r bs (ref (Some m)) (ref (Some o)) t) ∙ is_h in
      along (λ i. IsTrue (is_in m (e i)))

  some_partner : IsTrueAt r (ref (Some o) ∷ bs) (some ref_sort (and pair (member (bound 0) (lifted 2 t)))) ↔ ¬ ((m : Obj) → ¬ (IsTrue (p m) × IsTrue (is_in m h)))
  some_partner = some_reference r (ref (Some o) ∷ bs) (and pair (member (bound 0) (lifted 2 t))) (λ m. IsTrue (p m) × IsTrue (is_in m h)) (λ x. null_has_none x.0) (λ m. parts (is_pair m) (is_member m))

  -- and f is true of them
  some_partner_with : (f : Fml) (q : Obj → Bool) → ((m : Obj) → IsTrueAt r (ref (Some m) ∷ ref (Some o) ∷ bs) f ↔ IsTrue (q m))
      → IsTrueAt r (ref (Some o) ∷ bs) (some ref_sort (and pair (and (member (bound 0) (lifted 2 t)) f))) ↔ ¬ ((m : Obj) → ¬ (IsTrue (p m && q m) × IsTrue (is_in m h)))
  some_partner_with f q is_f =
      some_reference r (ref (Some o) ∷ bs) (and pair (and (member (bound 0) (lifted 2 t)) f)) (λ m. IsTrue (p m && q m) × IsTrue (is_in m h)) (λ x. null_has_none x.0) (λ m. (
        λ x. ((and_is (p m) (q m) (is_pair m) (is_f m)).0 (x.0, x.1.1), (is_member m).0 x.1.0),
        λ x. let both = (and_is (p m) (q m) (is_pair m) (is_f m)).1 x.0 in (both.0, ((is_member m).1 x.1, both.1)),
      ))

-- ---- the bijection under two quantifiers

-- the innermost reference is the partner of the other one, on the right or on the left
abbrev on_right : Trm → Fml
on_right t = paired (lifted 2 t) (bound 1) (bound 0)

abbrev on_left : Trm → Fml
on_left t = paired (lifted 2 t) (bound 0) (bound 1)

module _ (r : Valuation) (bs : List Elem) (t : Trm) (q : Pairs) (is : value r bs t ≡ bij q) where
  pairs_inside : (x y : Elem) → value r (x ∷ y ∷ bs) (lifted 2 t) ≡ bij q
  pairs_inside x y = under_two r bs x y t ∙ is

  left_pair : (o m : Obj) → IsTrueAt r (ref (Some m) ∷ ref (Some o) ∷ bs) (on_right t) ↔ IsTrue (has q o m)
  left_pair o m = let e = pairs_inside (ref (Some m)) (ref (Some o)) in along (λ i. IsTrue (has (as_pairs (e i)) o m))

  right_pair : (o m : Obj) → IsTrueAt r (ref (Some m) ∷ ref (Some o) ∷ bs) (on_left t) ↔ IsTrue (has q m o)
  right_pair o m = let e = pairs_inside (ref (Some m)) (ref (Some o)) in along (λ i. IsTrue (has (as_pairs (e i)) m o))

  -- ---- related values

  regions_true : (x y : Trm) (g h : Region) → as_rgn (value r bs x) ≡ g → as_rgn (value r bs y) ≡ h
      → (IsTrueAt r bs (left_members_paired t x y) × IsTrueAt r bs (right_members_paired t x y)) ↔ IsTrue (related_regions q g h)
  regions_true x y g h is_g is_h =
      and_is (are_matched (λ a b. has q a b) g h) (are_matched (λ b a. has q a b) h g)
      (both_ways (each_of_region r bs x g is_g (some ref_sort (and (on_right t) (member (bound 0) (lifted 2 y)))) _ (λ o. some_partner r bs o (on_right t) (λ m. has q o m) (λ e. e) (left_pair o) y h is_h)) (matched (λ a b. has q a b) g h))
      (both_ways (each_of_region r bs y h is_h (some ref_sort (and (on_left t) (member (bound 0) (lifted 2 x)))) _ (λ o. some_partner r bs o (on_left t) (λ m. has q m o) (λ e. e) (right_pair o) x g is_g)) (matched (λ b a. has q a b) h g))

  refs_related : (x y : Ref)
      → (¬ (¬ ((ref x ≡ null_elem) × (ref y ≡ null_elem)) × ¬ (ArePartners q x y))) ↔ IsTrue (related q (Reference x) (Reference y))
  refs_related None None = (λ h. refl, λ e h. h.0 (refl, refl))
  refs_related None (Some b) = (λ h. absurd (h (λ x. let e : ref (Some b) ≡ ref None = x.1 in cc, λ x. x)), λ e. never e)
  refs_related (Some a) None = (λ h. absurd (h (λ x. let e : ref (Some a) ≡ ref None = x.0 in cc, λ x. x)), λ e. never e)
  refs_related (Some a) (Some b) = (λ h. is_true (has q a b) (λ none. h (λ x. let e : ref (Some a) ≡ ref None = x.0 in cc, none)), λ e h. h.1 e)

  refs_true : (x y : Trm) (a b : Ref) → value r bs x ≡ ref a → value r bs y ≡ ref b
      → IsTrueAt r bs (or (and (eq x null) (eq y null)) (paired t x y)) ↔ IsTrue (related q (Reference a) (Reference b))
  refs_true x y a b is_a is_b =
      both_ways (along (λ i. ¬ (¬ ((is_a i ≡ null_elem) × (is_b i ≡ null_elem)) × ¬ (ArePartners (as_pairs (is i)) (as_ref (is_a i)) (as_ref (is_b i)))))) (refs_related a b)

  pub related_true : (ty : Ty) (x y : Trm) (v w : Value) → value r bs x ≡ elem_of v → value r bs y ≡ elem_of w → IsOfKind ty v → IsOfKind ty w
      → IsTrueAt r bs (related_terms (sort_of_type ty) t x y) ↔ IsTrue (related q v w)
  related_true Int x y (Number m) (Number n) is_v is_w k l = equal_elems _ _ (Number m) (Number n) is_v is_w
  related_true Int x y (Number m) (Reference b) is_v is_w k l = absurd l
  related_true Int x y (Number m) (Objects h) is_v is_w k l = absurd l
  related_true Int x y (Reference a) w is_v is_w k l = absurd k
  related_true Int x y (Objects g) w is_v is_w k l = absurd k
  related_true Rgn x y (Objects g) (Objects h) is_v is_w k l = regions_true x y g h (ap as_rgn is_v) (ap as_rgn is_w)
  related_true Rgn x y (Objects g) (Number n) is_v is_w k l = absurd l
  related_true Rgn x y (Objects g) (Reference b) is_v is_w k l = absurd l
  related_true Rgn x y (Number m) w is_v is_w k l = absurd k
  related_true Rgn x y (Reference a) w is_v is_w k l = absurd k
  related_true (Class c) x y (Reference a) (Reference b) is_v is_w k l = refs_true x y a b is_v is_w
  related_true (Class c) x y (Reference a) (Number n) is_v is_w k l = absurd l
  related_true (Class c) x y (Reference a) (Objects h) is_v is_w k l = absurd l
  related_true (Class c) x y (Number m) w is_v is_w k l = absurd k
  related_true (Class c) x y (Objects g) w is_v is_w k l = absurd k

-- ---- agreement on a field

module _ (tables : Tables) (f : Word) (d : ClassField) (is_d : find_field tables f ≡ Some d) where
  with_field : (g : Region) (o : Obj) → IsTrue (is_in o (objects_with tables f g)) ↔ (IsTrue (is_in o g) × (o.class ≡ class_number tables d.class))
  with_field g o =
      let e : is_in o (objects_with tables f g) ≡ (is_in o g && (o.class == class_number tables d.class)) =
      retained g (has_field tables f) o ∙ ap (λ w. is_in o g && is_of_field tables w o) is_d in
      both_ways (λ h. sym e ∙ h, λ h. e ∙ h) (
        λ h. let both = and_both _ _ h in (both.0, (Decides-eqb _ _).0 both.1),
        λ h. ap (λ b. b && (o.class == class_number tables d.class)) h.0 ∙ (Decides-eqb _ _).1 h.1,
      )

  -- a test of each object of the class in a region, as one of each object that has the field
  matched_with_field : (p : Obj → Obj → Bool) (g h : Region)
      → ((o : Obj) → IsTrue (is_in o g) → o.class ≡ class_number tables d.class → ¬ ((m : Obj) → ¬ (IsTrue (p o m) × IsTrue (is_in m h))))
      ↔ IsTrue (are_matched p (objects_with tables f g) h)
  matched_with_field p g h =
      both_ways (
        λ each o within. let k = (with_field g o).0 within in each o k.0 k.1,
        λ each o within of_class. each o ((with_field g o).1 (within, of_class)),
      ) (matched p (objects_with tables f g) h)

  module _ (r : Valuation) (bs : List Elem) (t : Trm) (q : Pairs) (is_q : value r bs t ≡ bij q) (a b : State) (typed_a : HasTypedHeap tables a) (typed_b : HasTypedHeap tables b)
      (m n : Trm) (is_m : value r bs m ≡ field_map tables f d.ty a) (is_n : value r bs n ≡ field_map tables f d.ty b) where
    abbrev agreeing : Obj → Obj → Bool
    agreeing o u = has q o u && related q (a.heap o f) (b.heap u f)

    left_field : (x y : Elem) (k : Trm) (o : Obj) → value r (x ∷ y ∷ bs) k ≡ ref (Some o) → value r (x ∷ y ∷ bs) (sel (lifted 2 m) k) ≡ elem_of (a.heap o f)
    left_field x y k o is_k =
        (λ i. selected ((under_two r bs x y m ∙ is_m) i) (as_ref (is_k i))) ∙ selected_value tables f d a is_d typed_a (Some o)

    right_field : (x y : Elem) (k : Trm) (o : Obj) → value r (x ∷ y ∷ bs) k ≡ ref (Some o) → value r (x ∷ y ∷ bs) (sel (lifted 2 n) k) ≡ elem_of (b.heap o f)
    right_field x y k o is_k =
        (λ i. selected ((under_two r bs x y n ∙ is_n) i) (as_ref (is_k i))) ∙ selected_value tables f d b is_d typed_b (Some o)

    abbrev related_fields : Trm → Trm → Fml
    related_fields j k = related_terms (sort_of_type d.ty) (lifted 2 t) (sel (lifted 2 m) j) (sel (lifted 2 n) k)

    -- the values of the field are related in o on the left and u on the right
    fields_related : (x y : Elem) (j k : Trm) (o u : Obj) → value r (x ∷ y ∷ bs) j ≡ ref (Some o) → value r (x ∷ y ∷ bs) k ≡ ref (Some u)
        → IsTrueAt r (x ∷ y ∷ bs) (related_fields j k) ↔ IsTrue (related q (a.heap o f) (b.heap u f))
    fields_related x y j k o u is_j is_k =
        related_true r (x ∷ y ∷ bs) (lifted 2 t) q (pairs_inside r bs t q is_q x y) d.ty _ _ (a.heap o f) (b.heap u f) (left_field x y j o is_j) (right_field x y k u is_k)
        (heap_kind tables f d a is_d typed_a o) (heap_kind tables f d b is_d typed_b u)

    left_true : (v w : Trm) (g h : Region) → as_rgn (value r bs v) ≡ g → as_rgn (value r bs w) ≡ h
        → IsTrueAt r bs (left_agrees (sort_of_type d.ty) (class_number tables d.class) t v w m n) ↔ IsTrue (are_matched (λ o u. agreeing o u) (objects_with tables f g) h)
    left_true v w g h is_g is_h =
        both_ways (each_member_true r bs v g is_g (some ref_sort (and (on_right t) (and (member (bound 0) (lifted 2 w)) (related_fields (bound 1) (bound 0))))) _
        (λ o. some_partner_with r bs o (on_right t) (λ u. has q o u) (λ e. e) (left_pair r bs t q is_q o) w h is_h (related_fields (bound 1) (bound 0)) (λ u. related q (a.heap o f) (b.heap u f))
        (λ u. fields_related (ref (Some u)) (ref (Some o)) (bound 1) (bound 0) o u refl refl)) (class_number tables d.class)) (matched_with_field (λ o u. agreeing o u) g h)

    right_true : (v w : Trm) (g h : Region) → as_rgn (value r bs v) ≡ g → as_rgn (value r bs w) ≡ h
        → IsTrueAt r bs (right_agrees (sort_of_type d.ty) (class_number tables d.class) t v w m n) ↔ IsTrue (are_matched (λ u o. agreeing o u) (objects_with tables f h) g)
    right_true v w g h is_g is_h =
        both_ways (each_member_true r bs w h is_h (some ref_sort (and (on_left t) (and (member (bound 0) (lifted 2 v)) (related_fields (bound 0) (bound 1))))) _
        (λ u. some_partner_with r bs u (on_left t) (λ o. has q o u) (λ e. e) (right_pair r bs t q is_q u) v g is_g (related_fields (bound 0) (bound 1)) (λ o. related q (a.heap o f) (b.heap u f))
        (λ o. fields_related (ref (Some o)) (ref (Some u)) (bound 0) (bound 1) o u refl refl)) (class_number tables d.class)) (matched_with_field (λ u o. agreeing o u) h g)

    pub agree_true : (v w : Trm) (g h : Region) → as_rgn (value r bs v) ≡ g → as_rgn (value r bs w) ≡ h
        → IsTrueAt r bs (agree_on (numbered tables) (Some (numbered_field tables d)) t v w m n) ↔ IsTrue (agree_image tables q f a b g h)
    agree_true v w g h is_g is_h = and_is _ _ (left_true v w g h is_g is_h) (right_true v w g h is_g is_h)
