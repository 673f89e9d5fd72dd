-- No step of rows 27 to 42 loses a model, and what it adds is well sorted.
use Rattle.std.proofs.Common.{◌≡◌, ℕ, ◌==◌, true, false, not, ◌&&◌, List, [], ◌∷◌, ◌++◌, length, Option, Some, None, refl, sym, ap, subst, ◌∙◌, arith}
use Rattle.std.proofs.lemmas.Bool.Decides.{Decides-eqb}
use Rattle.rel_list.proofs.Sets.{and_both}
use Rattle.rel_list.specs.References.{Obj, Ref}
use Rattle.rel_logic.specs.Syntax.{Srt, ref_sort, rgn_sort, map_ref_sort, map_rgn_sort, Trm, var, null, sel, empty, one, cup, cap, less, img, of, Fml, eq, member, is, paired, no, Nod}
use Rattle.rel_logic.specs.Truth.{ref, as_ref, as_rgn, as_pairs, HasSort, Valuation, value, null_elem, selected, IsMember, IsTrueAt}
use Rattle.rel_logic.specs.Sorting.{same_srt, is_of, are_of_one, takes, value_sort, image_sort, sort_at, has_sort, is_well_sorted}
use Rattle.rel_logic.specs.Equal.{same_trm}
use Rattle.rel_logic.proofs.SameTrees.{same_trm_is}
use Rattle.rel_logic.proofs.Sorts.{is_of_some, of_one, parts, one_sorted, two_sorted, three_sorted, sorted_value, same_value}
use Rattle.rel_logic.proofs.Kept.{sorted_with_more}
use Rattle.rules_table.specs.Nodes.{Stp, Addition, Outcome, kids, IsSound, IsModel, LosesNoModel, AreSorted}
use Rattle.rules_table.specs.Table.{adds, holds, formula, term, the_formula, formula_by_term}
use Rattle.rules_table.specs.Models.{IsKnown, IsKept, formula_known, formula_where, the_known, by_test, tested, on_kept, one_kept, two_kept, added_true, added_sorted, with_fresh, agrees, at_fresh, fresh_true, pushed}
use Rattle.rules_set.specs.Table.{membership, non_membership, on_both, isnt_null, nonnull_row, are_apart, istwo_row, inempty_row, insingle_row, ninsingle_row, inunion_row, ninunion_row, inmeet_row, ninmeet_row, inminus_row, ninminus_row, infilter_row, ninfilter_row, gives, given_by, inimage_row, ninimage_row, ext_row, regions}
use Rattle.rules_set.specs.Regions.{same_refs, same_regions, member_isnt_null, classed_isnt_null, partners_arent_null, one_class, none_in_empty, in_single, single_in, in_union, left_in_union, right_in_union, in_meet, meet_in, in_minus, minus_in, in_filter, filter_in, Gives, in_image, image_in, alike}

module _ (n : Nod) where
  -- ---- sorts

  abbrev Has : Trm → Srt → Type 0
  Has t s = sort_at n.sorts [] t ≡ Some s

  value_of : (t : Trm) (s : Srt) → Has t s → (r : Valuation) → IsModel n r → HasSort s (value r [] t)
  value_of t s h r m = sorted_value n.sorts t s h r m.0

  refs_sorted : (a b : Trm) → Has a ref_sort → Has b ref_sort → is_well_sorted n.sorts (eq a b) ≡ true
  refs_sorted a b h k = λ i. are_of_one (h i) (k i)

  null_sorted : (a : Trm) → Has a ref_sort → is_well_sorted n.sorts (eq a null) ≡ true
  null_sorted a h = refs_sorted a null h refl

  member_sorted : (a g : Trm) → Has a ref_sort → Has g rgn_sort → is_well_sorted n.sorts (member a g) ≡ true
  member_sorted a g h k = λ i. is_of ref_sort (h i) && is_of rgn_sort (k i)

  class_sorted : (c : ℕ) (a : Trm) → Has a ref_sort → is_well_sorted n.sorts (is c a) ≡ true
  class_sorted c a h = λ i. is_of ref_sort (h i)

  of_member : (a g : Trm) → is_well_sorted n.sorts (member a g) ≡ true → Has a ref_sort × Has g rgn_sort
  of_member a g e = two_sorted n.sorts [] ref_sort rgn_sort a g e

  -- ---- references and classes

  null_known : (a : Trm) → Has a ref_sort → ((r : Valuation) → IsModel n r → ¬ (value r [] a ≡ null_elem)) → IsKnown n (isnt_null a)
  null_known a h isnt = record { sorted = null_sorted a h; holds = isnt }

  nonnull_kept : (f : Fml) → IsKnown n f → IsKept n (nonnull_row f)
  nonnull_kept (member a g) k =
      one_kept n (isnt_null a ∷ []) (null_known a (of_member a g k.sorted).0 (λ r m. member_isnt_null (value r [] a) (as_rgn (value r [] g)) (k.holds r m)), tt)
  nonnull_kept (is c a) k =
      one_kept n (isnt_null a ∷ []) (null_known a (one_sorted n.sorts [] ref_sort a k.sorted) (λ r m. classed_isnt_null (value r [] a) c (k.holds r m)), tt)
  nonnull_kept (paired p a b) k =
      let h = three_sorted n.sorts [] p a b k.sorted in
      one_kept n (isnt_null a ∷ isnt_null b ∷ [])
      (null_known a h.1 (λ r m. (partners_arent_null (as_pairs (value r [] p)) (value r [] a) (value r [] b) (k.holds r m)).0), (null_known b h.2 (λ r m. (partners_arent_null (as_pairs (value r [] p)) (value r [] a) (value r [] b) (k.holds r m)).1), tt))
  nonnull_kept f k = tt

  -- ---- members of regions

  inempty_kept : (a g : Trm) → IsKnown n (member a g) → IsKept n (inempty_row g)
  inempty_kept a empty k = (tt, λ r h m. none_in_empty (as_ref (value r [] a)) (k.holds r m))
  inempty_kept a g k = tt

  insingle_kept : (a g : Trm) → IsKnown n (member a g) → IsKept n (insingle_row a g)
  insingle_kept a (one b) k =
      let h = of_member a (one b) k.sorted in
      let of_b = (parts n.sorts [] (one b) rgn_sort h.1).0 in
      one_kept n (eq a b ∷ isnt_null a ∷ []) (
        record {
          sorted = refs_sorted a b h.0 of_b;
          holds = λ r m. same_refs (value r [] a) (value r [] b) (value_of a ref_sort h.0 r m) (value_of b ref_sort of_b r m) (in_single _ _ (k.holds r m)).0;
        },
        (null_known a h.0 (λ r m e. (in_single _ _ (k.holds r m)).1 (ap as_ref e)), tt),
      )
  insingle_kept a g k = tt

  ninsingle_kept : (a g : Trm) → IsKnown n (no (member a g)) → IsKept n (ninsingle_row a g)
  ninsingle_kept a (one b) k =
      let h = of_member a (one b) k.sorted in
      let of_b = (parts n.sorts [] (one b) rgn_sort h.1).0 in
      two_kept n (no (eq a b) ∷ []) (eq a null ∷ []) (refs_sorted a b h.0 of_b, tt) (null_sorted a h.0, tt)
      (λ r m neither. neither.0 (
        λ same. k.holds r m (single_in (as_ref (value r [] a)) (as_ref (value r [] b)) (ap as_ref same)
            (λ is_null. neither.1 (same_refs (value r [] a) null_elem (value_of a ref_sort h.0 r m) (None, refl) is_null, tt))),
        tt,
      ))
  ninsingle_kept a g k = tt

  -- the parts of a region of two
  inunion_kept : (a g : Trm) → IsKnown n (member a g) → IsKept n (inunion_row a g)
  inunion_kept a (cup g h) k =
      let s = of_member a (cup g h) k.sorted in
      let p = parts n.sorts [] (cup g h) rgn_sort s.1 in
      two_kept n (member a g ∷ []) (member a h ∷ []) (member_sorted a g s.0 p.0, tt) (member_sorted a h s.0 p.1, tt)
      (λ r m neither. in_union _ _ _ (k.holds r m) (λ x. neither.0 (x, tt), λ y. neither.1 (y, tt)))
  inunion_kept a g k = tt

  ninunion_kept : (a g : Trm) → IsKnown n (no (member a g)) → IsKept n (ninunion_row a g)
  ninunion_kept a (cup g h) k =
      let s = of_member a (cup g h) k.sorted in
      let p = parts n.sorts [] (cup g h) rgn_sort s.1 in
      one_kept n (no (member a g) ∷ no (member a h) ∷ []) (
        record { sorted = member_sorted a g s.0 p.0; holds = λ r m x. k.holds r m (left_in_union _ _ _ x) },
        (record { sorted = member_sorted a h s.0 p.1; holds = λ r m y. k.holds r m (right_in_union _ _ _ y) }, tt),
      )
  ninunion_kept a g k = tt

  inmeet_kept : (a g : Trm) → IsKnown n (member a g) → IsKept n (inmeet_row a g)
  inmeet_kept a (cap g h) k =
      let s = of_member a (cap g h) k.sorted in
      let p = parts n.sorts [] (cap g h) rgn_sort s.1 in
      one_kept n (member a g ∷ member a h ∷ []) (
        record { sorted = member_sorted a g s.0 p.0; holds = λ r m. (in_meet _ _ _ (k.holds r m)).0 },
        (record { sorted = member_sorted a h s.0 p.1; holds = λ r m. (in_meet _ _ _ (k.holds r m)).1 }, tt),
      )
  inmeet_kept a g k = tt

  ninmeet_kept : (a g : Trm) → IsKnown n (no (member a g)) → IsKept n (ninmeet_row a g)
  ninmeet_kept a (cap g h) k =
      let s = of_member a (cap g h) k.sorted in
      let p = parts n.sorts [] (cap g h) rgn_sort s.1 in
      two_kept n (no (member a g) ∷ []) (no (member a h) ∷ []) (member_sorted a g s.0 p.0, tt) (member_sorted a h s.0 p.1, tt)
      (λ r m neither. neither.0 (λ x. neither.1 (λ y. k.holds r m (meet_in _ _ _ x y), tt), tt))
  ninmeet_kept a g k = tt

  inminus_kept : (a g : Trm) → IsKnown n (member a g) → IsKept n (inminus_row a g)
  inminus_kept a (less g h) k =
      let s = of_member a (less g h) k.sorted in
      let p = parts n.sorts [] (less g h) rgn_sort s.1 in
      one_kept n (member a g ∷ no (member a h) ∷ []) (
        record { sorted = member_sorted a g s.0 p.0; holds = λ r m. (in_minus _ _ _ (k.holds r m)).0 },
        (record { sorted = member_sorted a h s.0 p.1; holds = λ r m. (in_minus _ _ _ (k.holds r m)).1 }, tt),
      )
  inminus_kept a g k = tt

  ninminus_kept : (a g : Trm) → IsKnown n (no (member a g)) → IsKept n (ninminus_row a g)
  ninminus_kept a (less g h) k =
      let s = of_member a (less g h) k.sorted in
      let p = parts n.sorts [] (less g h) rgn_sort s.1 in
      two_kept n (no (member a g) ∷ []) (member a h ∷ []) (member_sorted a g s.0 p.0, tt) (member_sorted a h s.0 p.1, tt)
      (λ r m neither. neither.0 (λ x. k.holds r m (minus_in _ _ _ x (λ y. neither.1 (y, tt))), tt))
  ninminus_kept a g k = tt

  infilter_kept : (a g : Trm) → IsKnown n (member a g) → IsKept n (infilter_row a g)
  infilter_kept a (of c g) k =
      let s = of_member a (of c g) k.sorted in
      let of_g = (parts n.sorts [] (of c g) rgn_sort s.1).0 in
      one_kept n (member a g ∷ is c a ∷ []) (
        record { sorted = member_sorted a g s.0 of_g; holds = λ r m. (in_filter _ _ _ (k.holds r m)).0 },
        (record { sorted = class_sorted c a s.0; holds = λ r m. (in_filter _ _ _ (k.holds r m)).1 }, tt),
      )
  infilter_kept a g k = tt

  ninfilter_kept : (a g : Trm) → IsKnown n (no (member a g)) → IsKept n (ninfilter_row a g)
  ninfilter_kept a (of c g) k =
      let s = of_member a (of c g) k.sorted in
      let of_g = (parts n.sorts [] (of c g) rgn_sort s.1).0 in
      two_kept n (no (member a g) ∷ []) (no (is c a) ∷ []) (member_sorted a g s.0 of_g, tt) (class_sorted c a s.0, tt)
      (λ r m neither. neither.0 (λ x. neither.1 (λ y. k.holds r m (filter_in _ _ _ x y), tt), tt))
  ninfilter_kept a g k = tt

module _ (n : Nod) (sound : IsSound n) where
  -- ---- with a fresh reference

  abbrev more : List Srt
  more = n.sorts ++ ref_sort ∷ []

  abbrev with_ref : Valuation → Ref → Valuation
  with_ref r v = with_fresh n ref_sort v r

  abbrev fresh : Trm
  fresh = var (length n.sorts)

  same : (r : Valuation) (v : Ref) (t : Trm) (s : Srt) → Has n t s → value r [] t ≡ value (with_ref r v) [] t
  same r v t s h = same_value n.sorts [] r (with_ref r v) [] [] (agrees n ref_sort v r) (λ i below. absurd (omega (arith, below))) t s h

  its_value : (r : Valuation) (v : Ref) → ref v ≡ with_ref r v (length n.sorts)
  its_value r v = sym (at_fresh n ref_sort v r)

  its_sort : sort_at more [] fresh ≡ Some ref_sort
  its_sort = pushed n.sorts ref_sort

  ref_more : (a : Trm) → Has n a ref_sort → sort_at more [] a ≡ Some ref_sort
  ref_more a h = one_sorted more [] ref_sort a (sorted_with_more n.sorts (ref_sort ∷ []) [] (is 0 a) (class_sorted n 0 a h))

  rgn_more : (g : Trm) → Has n g rgn_sort → sort_at more [] g ≡ Some rgn_sort
  rgn_more g h = (two_sorted more [] ref_sort rgn_sort null g (sorted_with_more n.sorts (ref_sort ∷ []) [] (member null g) (member_sorted n null g refl h))).1

  fresh_member_sorted : (g : Trm) → Has n g rgn_sort → is_well_sorted more (member fresh g) ≡ true
  fresh_member_sorted g h = λ i. is_of ref_sort (its_sort i) && is_of rgn_sort (rgn_more g h i)

  -- the fresh reference is in the region where its value is
  fresh_member : (r : Valuation) (v : Ref) (g : Trm) → Has n g rgn_sort → IsMember v (as_rgn (value r [] g)) ≡ IsTrueAt (with_ref r v) [] (member fresh g)
  fresh_member r v g h = λ i. IsMember (as_ref (its_value r v i)) (as_rgn (same r v g rgn_sort h i))

  -- ---- images

  says_gives : (t : Srt) (r : Valuation) (m o a : Trm) → IsTrueAt r [] (gives (same_srt map_rgn_sort t) m o a) ≡ Gives t (selected (value r [] m) (as_ref (value r [] o))) (value r [] a)
  says_gives map_rgn_sort r m o a = refl
  says_gives t r m o a = refl

  fresh_gives : (t : Srt) (r : Valuation) (v : Ref) (m a : Trm) → Has n m t → Has n a ref_sort
      → Gives t (selected (value r [] m) v) (value r [] a) → IsTrueAt (with_ref r v) [] (gives (same_srt map_rgn_sort t) m fresh a)
  fresh_gives t r v m a h k e =
      let moved = subst (λ P. P) (λ i. Gives t (selected (same r v m t h i) (as_ref (its_value r v i))) (same r v a ref_sort k i)) e in
      subst (λ P. P) (sym (says_gives t (with_ref r v) m fresh a)) moved

  gives_sorted : (sorts : List Srt) (t : Srt) → image_sort (Some t) ≡ Some rgn_sort → (m o a : Trm) → value_sort (sort_at sorts [] m) ≡ value_sort (Some t) → sort_at sorts [] o ≡ Some ref_sort
      → sort_at sorts [] a ≡ Some ref_sort → is_well_sorted sorts (gives (same_srt map_rgn_sort t) m o a) ≡ true
  gives_sorted sorts map_ref_sort e m o a h k l = λ i. are_of_one (takes ref_sort (k i) (h i)) (l i)
  gives_sorted sorts map_rgn_sort e m o a h k l = λ i. is_of ref_sort (l i) && is_of rgn_sort (takes ref_sort (k i) (h i))
  gives_sorted sorts t e m o a h k l = cc

  map_more : (t : Srt) → image_sort (Some t) ≡ Some rgn_sort → (m : Trm) → Has n m t → value_sort (sort_at more [] m) ≡ value_sort (Some t)
  map_more map_ref_sort e m h = one_sorted more [] ref_sort (sel m null) (sorted_with_more n.sorts (ref_sort ∷ []) [] (is 0 (sel m null)) (λ i. is_of ref_sort (value_sort (h i))))
  map_more map_rgn_sort e m h =
      (two_sorted more [] ref_sort rgn_sort null (sel m null) (sorted_with_more n.sorts (ref_sort ∷ []) [] (member null (sel m null)) (λ i. is_of rgn_sort (value_sort (h i))))).1
  map_more t e m h = cc

  -- the sorts of an image's map and region
  of_image : (m g : Trm) → Has n (img m g) rgn_sort → (t : Srt) × Has n m t × Has n g rgn_sort × (image_sort (Some t) ≡ Some rgn_sort)
  of_image m g h =
      let p = parts n.sorts [] (img m g) rgn_sort h in
      let of_m = subst (λ o. takes rgn_sort o (image_sort (sort_at n.sorts [] m)) ≡ Some rgn_sort) p.2 h in
      (p.0, p.1, p.2, subst (λ o. image_sort o ≡ Some rgn_sort) p.1 of_m)

  inimage_kept : (a g : Trm) → IsKnown n (member a g) → IsKept n (inimage_row n.sorts a g)
  inimage_kept a (img m g) k =
      let s = of_member n a (img m g) k.sorted in
      let p = of_image m g s.1 in
      let found = λ (r : Valuation) (model : IsModel n r).
      in_image p.0 p.3 (value r [] m) (value r [] a) (value_of n m p.0 p.1 r model) (value_of n a ref_sort s.0 r model) (as_rgn (value r [] g)) (k.holds r model) in
      subst (λ o. IsKept n (kids (given_by (length n.sorts) (is_of map_rgn_sort o) m g a ∷ []))) (sym p.1) (
        ((fresh_member_sorted g p.2, (gives_sorted more p.0 p.3 m fresh a (map_more p.0 p.3 m p.1) its_sort (ref_more a s.0), tt)), tt),
        λ r h model. let o = found r model in
            fresh_true n ref_sort (Some o.0) r sound model (member fresh g ∷ gives (same_srt map_rgn_sort p.0) m fresh a ∷ [])
            (subst (λ P. P) (fresh_member r (Some o.0) g p.2) o.1, (fresh_gives p.0 r (Some o.0) m a p.1 s.0 o.2, tt)) h.0,
      )
  inimage_kept a g k = tt

  ninimage_kept : (t a g : Trm) → IsKnown n (no (member a g)) → IsKept n (ninimage_row n.sorts t a g)
  ninimage_kept t a (img m g) k = tested n (has_sort n.sorts [] ref_sort t) _ (λ e.
      let of_t = is_of_some ref_sort (sort_at n.sorts [] t) e in
      let s = of_member n a (img m g) k.sorted in
      let p = of_image m g s.1 in
      subst (λ o. IsKept n (kids (adds (no (member t g) ∷ []) ∷ adds (no (gives (is_of map_rgn_sort o) m t a) ∷ []) ∷ adds (eq a null ∷ []) ∷ []))) (sym p.1) (
        (
          added_sorted n (no (member t g) ∷ []) (member_sorted n t g of_t p.2, tt),
          (
            added_sorted n (no (gives (same_srt map_rgn_sort p.0) m t a) ∷ []) (gives_sorted n.sorts p.0 p.3 m t a (ap value_sort p.1) of_t s.0, tt),
            (added_sorted n (eq a null ∷ []) (null_sorted n a s.0, tt), tt),
          ),
        ),
        λ r h model. added_true n r model (no (member t g) ∷ []) (
          λ within. added_true n r model (no (gives (same_srt map_rgn_sort p.0) m t a) ∷ []) (
            λ given. k.holds r model (
                image_in p.0 p.3 (value r [] m) (value r [] a) (value_of n m p.0 p.1 r model) (value_of n a ref_sort s.0 r model) (as_rgn (value r [] g)) (as_ref (value r [] t)) within
                (subst (λ P. P) (says_gives p.0 r m t a) given) (λ is_null. added_true n r model (eq a null ∷ []) (is_null, tt) h.1.1.0)
                ),
            tt,
          ) h.1.0,
          tt,
        ) h.0,
      ))
  ninimage_kept t a g k = tt

  -- ---- two regions

  ext_kept : (f : Fml) → IsKnown n f → IsKept n (ext_row n.sorts f)
  ext_kept (no (eq g h)) k = tested n (has_sort n.sorts [] rgn_sort g) _ (λ e.
      let of_g = is_of_some rgn_sort (sort_at n.sorts [] g) e in
      let one = of_one (sort_at n.sorts [] g) (sort_at n.sorts [] h) k.sorted in
      let of_h : Has n h rgn_sort = one.2 ∙ (sym one.1 ∙ of_g) in
      let to_g = λ (r : Valuation) (o : Obj). subst (λ P. P) (fresh_member r (Some o) g of_g) in
      let to_h = λ (r : Valuation) (o : Obj). subst (λ P. P) (fresh_member r (Some o) h of_h) in
      let from_g = λ (r : Valuation) (o : Obj). subst (λ P. P) (sym (fresh_member r (Some o) g of_g)) in
      let from_h = λ (r : Valuation) (o : Obj). subst (λ P. P) (sym (fresh_member r (Some o) h of_h)) in (
        ((fresh_member_sorted g of_g, (fresh_member_sorted h of_h, tt)), ((fresh_member_sorted g of_g, (fresh_member_sorted h of_h, tt)), tt)),
        λ r none model. k.holds r model (same_regions (value r [] g) (value r [] h) (value_of n g rgn_sort of_g r model) (value_of n h rgn_sort of_h r model) (
            alike (as_rgn (value r [] g)) (as_rgn (value r [] h))
            (λ o alone. fresh_true n ref_sort (Some o) r sound model (member fresh g ∷ no (member fresh h) ∷ []) (to_g r o alone.0, (λ x. alone.1 (from_h r o x), tt)) none.0)
            (λ o alone. fresh_true n ref_sort (Some o) r sound model (no (member fresh g) ∷ member fresh h ∷ []) (λ x. alone.0 (from_g r o x), (to_h r o alone.1, tt)) none.1.0)
            )),
      ))
  ext_kept f k = tt

  -- ---- two classes

  apart : (r : Valuation) → IsModel n r → (o p : Option Fml) → ((f : Fml) → o ≡ Some f → IsKnown n f) → ((f : Fml) → p ≡ Some f → IsKnown n f) → are_apart o p ≡ true → ⊥
  apart r m (Some (is c a)) (Some (is d b)) h k e =
      let tests = and_both (same_trm a b) (not (c == d)) e in
      let second = subst (λ b. IsTrueAt r [] (is d b)) (sym ((same_trm_is a b).0 tests.0)) ((k (is d b) refl).holds r m) in
      let one = one_class (as_ref (value r [] a)) c d ((h (is c a) refl).holds r m) second in
      let clash : false ≡ true = sym (ap not ((Decides-eqb c d).1 one)) ∙ tests.1 in
      cc
  apart r m o p h k e = cc

  istwo_kept : (s : Stp) → IsKept n (istwo_row n s)
  istwo_kept s = tested n (holds 2 0 0 s && are_apart (formula n s 0) (formula n s 1)) (kids [])
      (λ e. (tt, λ r h m. apart r m (formula n s 0) (formula n s 1) (formula_known n sound s 0) (formula_known n sound s 1) (and_both (holds 2 0 0 s) _ e).1))

  -- ---- the table

  member_kept : (rule : Trm → Trm → Outcome) → ((a g : Trm) → IsKnown n (member a g) → IsKept n (rule a g)) → (o : Option Fml) → ((f : Fml) → o ≡ Some f → IsKnown n f) → IsKept n (on_both rule (membership o))
  member_kept rule h None k = tt
  member_kept rule h (Some (member a g)) k = h a g (k (member a g) refl)
  member_kept rule h (Some f) k = tt

  non_member_kept : (rule : Trm → Trm → Outcome) → ((a g : Trm) → IsKnown n (no (member a g)) → IsKept n (rule a g)) → (o : Option Fml) → ((f : Fml) → o ≡ Some f → IsKnown n f)
      → IsKept n (on_both rule (non_membership o))
  non_member_kept rule h None k = tt
  non_member_kept rule h (Some (no (member a g))) k = h a g (k (no (member a g)) refl)
  non_member_kept rule h (Some f) k = tt

  on_member : (s : Stp) (rule : Trm → Trm → Outcome) → ((a g : Trm) → IsKnown n (member a g) → IsKept n (rule a g)) → IsKept n (on_both rule (membership (the_formula n s)))
  on_member s rule h = member_kept rule h (the_formula n s) (formula_where n sound (holds 1 0 0 s) s)

  on_non_member : (s : Stp) (rule : Trm → Trm → Outcome) → ((a g : Trm) → IsKnown n (no (member a g)) → IsKept n (rule a g)) → IsKept n (on_both rule (non_membership (the_formula n s)))
  on_non_member s rule h = non_member_kept rule h (the_formula n s) (formula_where n sound (holds 1 0 0 s) s)

  step_kept : (s : Stp) → IsKept n (regions n s)
  step_kept s =
      by_test n (s.row == 27) _ _ (the_known n sound s nonnull_row (nonnull_kept n))
      (by_test n (s.row == 28) _ _ (istwo_kept s)
      (by_test n (s.row == 29) _ _ (on_member s (λ a g. inempty_row g) (inempty_kept n))
      (by_test n (s.row == 30) _ _ (on_member s insingle_row (insingle_kept n))
      (by_test n (s.row == 31) _ _ (on_non_member s ninsingle_row (ninsingle_kept n))
      (by_test n (s.row == 32) _ _ (on_member s inunion_row (inunion_kept n))
      (by_test n (s.row == 33) _ _ (on_non_member s ninunion_row (ninunion_kept n))
      (by_test n (s.row == 34) _ _ (on_member s inmeet_row (inmeet_kept n))
      (by_test n (s.row == 35) _ _ (on_non_member s ninmeet_row (ninmeet_kept n))
      (by_test n (s.row == 36) _ _ (on_member s inminus_row (inminus_kept n))
      (by_test n (s.row == 37) _ _ (on_non_member s ninminus_row (ninminus_kept n))
      (by_test n (s.row == 38) _ _ (on_member s infilter_row (infilter_kept n))
      (by_test n (s.row == 39) _ _ (on_non_member s ninfilter_row (ninfilter_kept n))
      (by_test n (s.row == 40) _ _ (on_member s (inimage_row n.sorts) inimage_kept)
      (by_test n (s.row == 41) _ _ (non_member_kept _ (λ a g k. on_kept n (λ t. ninimage_row n.sorts t a g) (term s 0) (λ t is_t. ninimage_kept t a g k)) (formula_by_term n s) (formula_where n sound (holds 1 1 0 s) s))
      (by_test n (s.row == 42) _ _ (the_known n sound s (ext_row n.sorts) ext_kept) tt)))))))))))))))

pub loses_no_model : (n : Nod) (s : Stp) (added : List Addition) → IsSound n → regions n s ≡ kids added → LosesNoModel n added
loses_no_model n s added sound e = (subst (IsKept n) e (step_kept n sound s)).1

pub adds_sorted : (n : Nod) (s : Stp) (added : List Addition) → IsSound n → regions n s ≡ kids added → AreSorted n added
adds_sorted n s added sound e = (subst (IsKept n) e (step_kept n sound s)).0
