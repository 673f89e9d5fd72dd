-- No step of rows 15 to 26 loses a model, and what it adds is well sorted.
use Rattle.std.proofs.Common.{◌≡◌, ⊎_elim, ℕ, ◌==◌, true, ◌&&◌, List, [], ◌∷◌, Option, Some, None, refl, sym, ap, subst, ◌∙◌}
use Rattle.rel_list.proofs.Sets.{and_both}
use Rattle.rel_list.proofs.Pairs.{linked_keeps}
use Rattle.rel_list.specs.References.{Ref}
use Rattle.rel_logic.specs.Syntax.{Srt, ref_sort, bij_sort, Trm, sel, sto, link, Fml, eq, is, paired, ext, no, imp, Nod}
use Rattle.rel_logic.specs.Truth.{ref, as_ref, as_pairs, HasSort, Valuation, value, ArePartners, IsTrueAt}
use Rattle.rel_logic.specs.Substitution.{instantiated}
use Rattle.rel_logic.specs.Sorting.{is_of, are_of_one, sort_at, is_sorted, is_well_sorted}
use Rattle.rel_logic.proofs.Values.{closed_value, instantiated_true}
use Rattle.rel_logic.proofs.Sorts.{of_one, parts, two_sorted, three_sorted, sorted_term_closed, sorted_value}
use Rattle.rel_logic.proofs.Kept.{instantiated_sorted}
use Rattle.rel_logic.specs.Equal.{same_trm, same_fml}
use Rattle.rel_logic.proofs.SameTrees.{same_trm_is, same_fml_is}
use Rattle.rules_table.specs.Nodes.{Stp, Addition, kids, IsSound, IsModel, LosesNoModel, AreSorted}
use Rattle.rules_table.specs.Table.{counts, holds, formula, term, form}
use Rattle.rules_table.specs.Models.{IsKnown, IsKept, formula_known, the_known, by_test, tested, on_kept, three_kept, two_known, one_kept, two_kept}
use Rattle.rules_eq.specs.Table.{given, refl_row, readhit_row, past_stored, readmiss_row, extrefl_row, addext_row, linkable, addlink_row, has_hole, replace_row, iff, bijone_row, bijclass_row, extpair_row, exttrans_row, addpair_row, equality}
use Rattle.rules_eq.specs.Elements.{reads_stored, reads_either, same_refs, one_to_one, right_alone, left_alone, of_one_class, still_partners, link_pairs, link_pairs_them}

module _ (n : Nod) where
  -- ---- sorts

  abbrev Has : Trm → Srt → Type 0
  Has t s = sort_at n.sorts [] t ≡ Some s

  value_of : (t : Trm) (s : Srt) → Has t s → (r : Valuation) → IsModel n r → HasSort s (value r [] t)
  value_of t s h r m = sorted_value n.sorts t s h r m.0

  -- terms of references that are seen as one are one
  same_at : (a b : Trm) → Has a ref_sort → Has b ref_sort → (r : Valuation) → IsModel n r → as_ref (value r [] a) ≡ as_ref (value r [] b) → value r [] a ≡ value r [] b
  same_at a b h k r m e = same_refs (value r [] a) (value r [] b) (value_of a ref_sort h r m) (value_of b ref_sort k r m) e

  refs_sorted : (a b : Trm) → Has a ref_sort → Has b ref_sort → is_well_sorted n.sorts (eq a b) ≡ true
  refs_sorted a b h k = λ i. are_of_one (h i) (k i)

  pair_sorted : (p a b : Trm) → Has p bij_sort → Has a ref_sort → Has b ref_sort → is_well_sorted n.sorts (paired p a b) ≡ true
  pair_sorted p a b h k l = λ i. is_of bij_sort (h i) && (is_of ref_sort (k i) && is_of ref_sort (l i))

  iff_sorted : (f g : Fml) → is_well_sorted n.sorts f ≡ true → is_well_sorted n.sorts g ≡ true → is_well_sorted n.sorts (iff f g) ≡ true
  iff_sorted f g h k = λ i. (h i && k i) && (k i && h i)

  -- ---- rows on given terms

  given_kept : (f : Fml) → (is_well_sorted n.sorts f ≡ true → (r : Valuation) → IsModel n r → IsTrueAt r [] f) → IsKept n (given n.sorts f)
  given_kept f h = tested n (is_well_sorted n.sorts f) _ (λ e. one_kept n (f ∷ []) (record { sorted = e; holds = h e }, tt))

  refl_kept : (t : Trm) → IsKept n (refl_row n.sorts t)
  refl_kept t = given_kept (eq t t) (λ e r m. refl)

  readhit_kept : (m a v : Trm) → IsKept n (readhit_row n.sorts m a v)
  readhit_kept m a v = given_kept (eq (sel (sto m a v) a) v) (λ e r model.
      let h = of_one (sort_at n.sorts [] (sel (sto m a v) a)) (sort_at n.sorts [] v) e in
      let read = parts n.sorts [] (sel (sto m a v) a) h.0 h.1 in
      let store = parts n.sorts [] (sto m a v) read.0 read.1 in
      reads_stored read.0 h.0 (value r [] m) (value r [] v) (as_ref (value r [] a)) read.3 (value_of m read.0 store.1 r model) (value_of v h.0 h.2 r model))

  readmiss_kept : (m a v b : Trm) → IsKept n (readmiss_row n.sorts m a v b)
  readmiss_kept m a v b = tested n (is_well_sorted n.sorts (past_stored m a v b)) _ (λ e.
      let h = of_one (sort_at n.sorts [] (sel (sto m a v) b)) (sort_at n.sorts [] (sel m b)) e in
      let read = parts n.sorts [] (sel (sto m a v) b) h.0 h.1 in
      let store = parts n.sorts [] (sto m a v) read.0 read.1 in
      let refs = refs_sorted a b store.2 read.2 in
      two_kept n (eq a b ∷ []) (no (eq a b) ∷ past_stored m a v b ∷ []) (refs, tt) (refs, (e, tt)) (λ r model neither.
      reads_either (value r [] m) (value r [] v) (value r [] a) (value r [] b) (value_of a ref_sort store.2 r model) (value_of b ref_sort read.2 r model)
      (λ same. neither.0 (same, tt), λ past. neither.1 (past.0, (past.1, tt)))))

  extrefl_kept : (p : Trm) → IsKept n (extrefl_row n.sorts p)
  extrefl_kept p = given_kept (ext p p) (λ e r m a b h. h)

  addext_kept : (p a b : Trm) → IsKept n (addext_row n.sorts p a b)
  addext_kept p a b = given_kept (ext p (link p a b)) (λ e r m. linked_keeps (as_pairs (value r [] p)) (as_ref (value r [] a)) (as_ref (value r [] b)))

  addlink_kept : (p a b : Trm) (c : ℕ) → IsKept n (addlink_row n.sorts p a b c)
  addlink_kept p a b c = given_kept (imp (linkable c p a b) (paired (link p a b) a b)) (λ e r m can.
      let h = three_sorted n.sorts [] (link p a b) a b (and_both (is_well_sorted n.sorts (linkable c p a b)) _ e).1 in
      let of_link = parts n.sorts [] (link p a b) bij_sort h.0 in
      let p_same = λ (d : Ref). closed_value r [] (ref d ∷ []) p (sorted_term_closed n.sorts p bij_sort of_link.0) in
      let a_same = λ (d : Ref). closed_value r [] (ref d ∷ []) a (sorted_term_closed n.sorts a ref_sort h.1) in
      let b_same = λ (d : Ref). closed_value r [] (ref d ∷ []) b (sorted_term_closed n.sorts b ref_sort h.2) in
      link_pairs_them (as_pairs (value r [] p)) c (as_ref (value r [] a)) (as_ref (value r [] b)) can.0 can.1.0
      (λ d k. can.1.1.0 d (subst (λ P. P) (λ i. ArePartners (as_pairs (p_same d i)) (as_ref (a_same d i)) d) k))
      (λ d k. can.1.1.1 d (subst (λ P. P) (λ i. ArePartners (as_pairs (p_same d i)) d (as_ref (b_same d i))) k)))

  -- ---- rows on formulas of the node

  hole_sort : (o : Option Srt) (k : Fml) → has_hole n.sorts o k ≡ true → (s : Srt) × (o ≡ Some s) × (is_sorted n.sorts (s ∷ []) k ≡ true)
  hole_sort None k e = cc
  hole_sort (Some s) k e = (s, refl, e)

  replace_kept : (f g k : Fml) → IsKnown n f → IsKnown n g → IsKept n (replace_row n.sorts f g k)
  replace_kept (eq t u) g k f_known g_known = tested n (has_hole n.sorts (sort_at n.sorts [] t) k && same_fml (instantiated t k) g) _ (λ e.
      let tests = and_both (has_hole n.sorts (sort_at n.sorts [] t) k) _ e in
      let hole = hole_sort (sort_at n.sorts [] t) k tests.0 in
      let at_t = (same_fml_is (instantiated t k) g).0 tests.1 in
      let h = of_one (sort_at n.sorts [] t) (sort_at n.sorts [] u) f_known.sorted in
      let of_u : Has u hole.0 = h.2 ∙ (sym h.1 ∙ hole.1) in
      let put_t = λ (r : Valuation). instantiated_true t (sorted_term_closed n.sorts t hole.0 hole.1) r k in
      let put_u = λ (r : Valuation). instantiated_true u (sorted_term_closed n.sorts u hole.0 of_u) r k in
      one_kept n (instantiated u k ∷ []) (
        record {
          sorted = instantiated_sorted n.sorts u hole.0 of_u k hole.2;
          holds = λ r m. (put_u r).1 (subst (λ x. IsTrueAt r (x ∷ []) k) (f_known.holds r m) ((put_t r).0 (subst (IsTrueAt r []) (sym at_t) (g_known.holds r m))));
        },
        tt,
      ))
  replace_kept f g k f_known g_known = tt

  bijone_kept : (f g : Fml) → IsKnown n f → IsKnown n g → IsKept n (bijone_row f g)
  bijone_kept (paired p a b) (paired q e h) k l = tested n (same_trm p q) _ (λ same.
      let x = three_sorted n.sorts [] p a b k.sorted in
      let y = three_sorted n.sorts [] q e h l.sorted in
      let second = λ (r : Valuation) (m : IsModel n r). subst (λ q. IsTrueAt r [] (paired q e h)) (sym ((same_trm_is p q).0 same)) (l.holds r m) in
      let alone = λ (r : Valuation) (m : IsModel n r). one_to_one (value r [] p) (value_of p bij_sort x.0 r m) in
      one_kept n (iff (eq a e) (eq b h) ∷ []) (
        record {
          sorted = iff_sorted (eq a e) (eq b h) (refs_sorted a e x.1 y.1) (refs_sorted b h x.2 y.2);
          holds = λ r m. (
            λ left. same_at b h x.2 y.2 r m (right_alone (as_pairs (value r [] p)) (alone r m) _ _ _ _ (k.holds r m) (second r m) (ap as_ref left)),
            λ right. same_at a e x.1 y.1 r m (left_alone (as_pairs (value r [] p)) (alone r m) _ _ _ _ (k.holds r m) (second r m) (ap as_ref right)),
          );
        },
        tt,
      ))
  bijone_kept f g k l = tt

  bijclass_kept : (f : Fml) (c : ℕ) → IsKnown n f → IsKept n (bijclass_row f c)
  bijclass_kept (paired p a b) c k =
      let x = three_sorted n.sorts [] p a b k.sorted in
      one_kept n (iff (is c a) (is c b) ∷ []) (
        record {
          sorted = iff_sorted (is c a) (is c b) (λ i. is_of ref_sort (x.1 i)) (λ i. is_of ref_sort (x.2 i));
          holds = λ r m. of_one_class (as_pairs (value r [] p)) (one_to_one (value r [] p) (value_of p bij_sort x.0 r m)) c (as_ref (value r [] a)) (as_ref (value r [] b)) (k.holds r m);
        },
        tt,
      )
  bijclass_kept f c k = tt

  extpair_kept : (f g : Fml) → IsKnown n f → IsKnown n g → IsKept n (extpair_row f g)
  extpair_kept (ext p q) (paired o a b) k l = tested n (same_trm p o) _ (λ same.
      let x = two_sorted n.sorts [] bij_sort bij_sort p q k.sorted in
      let y = three_sorted n.sorts [] o a b l.sorted in
      one_kept n (paired q a b ∷ []) (
        record {
          sorted = pair_sorted q a b x.1 y.1 y.2;
          holds = λ r m. still_partners (as_pairs (value r [] p)) (as_pairs (value r [] q)) (k.holds r m) (as_ref (value r [] a)) (as_ref (value r [] b))
              (subst (λ o. IsTrueAt r [] (paired o a b)) (sym ((same_trm_is p o).0 same)) (l.holds r m));
        },
        tt,
      ))
  extpair_kept f g k l = tt

  exttrans_kept : (f g : Fml) → IsKnown n f → IsKnown n g → IsKept n (exttrans_row f g)
  exttrans_kept (ext p q) (ext o t) k l = tested n (same_trm q o) _ (λ same.
      let x = two_sorted n.sorts [] bij_sort bij_sort p q k.sorted in
      let y = two_sorted n.sorts [] bij_sort bij_sort o t l.sorted in
      one_kept n (ext p t ∷ []) (
        record {
          sorted = λ i. is_of bij_sort (x.0 i) && is_of bij_sort (y.1 i);
          holds = λ r m a b h. subst (λ o. IsTrueAt r [] (ext o t)) (sym ((same_trm_is q o).0 same)) (l.holds r m) a b (k.holds r m a b h);
        },
        tt,
      ))
  exttrans_kept f g k l = tt

  addpair_kept : (f : Fml) → IsKnown n f → IsKept n (addpair_row f)
  addpair_kept (paired (link p a b) e h) k =
      let x = three_sorted n.sorts [] (link p a b) e h k.sorted in
      let of_link = parts n.sorts [] (link p a b) bij_sort x.0 in
      two_kept n (paired p e h ∷ []) (eq e a ∷ eq h b ∷ [])
      (pair_sorted p e h of_link.0 x.1 x.2, tt) (refs_sorted e a x.1 of_link.1, (refs_sorted h b x.2 of_link.2, tt))
      (λ r m neither. ⊎_elim (λ old. neither.0 (old, tt)) (λ new. neither.1 (same_at e a x.1 of_link.1 r m new.0, (same_at h b x.2 of_link.2 r m new.1, tt)))
      (link_pairs (as_pairs (value r [] p)) (as_ref (value r [] a)) (as_ref (value r [] b)) (as_ref (value r [] e)) (as_ref (value r [] h)) (k.holds r m)))
  addpair_kept f k = tt

module _ (n : Nod) (sound : IsSound n) where
  step_kept : (s : Stp) → IsKept n (equality n s)
  step_kept s =
      by_test n (s.row == 15) _ _ (tested n (holds 0 1 0 s) _ (λ e. on_kept n (refl_row n.sorts) (term s 0) (λ t i. refl_kept n t)))
      (by_test n (s.row == 16) _ _ (tested n (holds 2 0 1 s) _ (λ e. on_kept n _ (form s 0) (λ k i. two_known n sound s (λ f g. replace_row n.sorts f g k) (λ f g. replace_kept n f g k))))
      (by_test n (s.row == 17) _ _ (tested n (holds 0 3 0 s) _ (λ e. three_kept n s (readhit_row n.sorts) (readhit_kept n)))
      (by_test n (s.row == 18) _ _ (tested n (holds 0 4 0 s) _ (λ e. on_kept n _ (term s 3) (λ b i. three_kept n s (λ m a v. readmiss_row n.sorts m a v b) (λ m a v. readmiss_kept n m a v b))))
      (by_test n (s.row == 19) _ _ (tested n (holds 2 0 0 s) _ (λ e. two_known n sound s bijone_row (bijone_kept n)))
      (by_test n (s.row == 20) _ _ (tested n (counts 1 0 0 s) _ (λ e. on_kept n _ s.class (λ c i. on_kept n _ (formula n s 0) (λ f is_f. bijclass_kept n f c (formula_known n sound s 0 f is_f)))))
      (by_test n (s.row == 21) _ _ (tested n (holds 2 0 0 s) _ (λ e. two_known n sound s extpair_row (extpair_kept n)))
      (by_test n (s.row == 22) _ _ (tested n (holds 0 1 0 s) _ (λ e. on_kept n (extrefl_row n.sorts) (term s 0) (λ p i. extrefl_kept n p)))
      (by_test n (s.row == 23) _ _ (tested n (holds 2 0 0 s) _ (λ e. two_known n sound s exttrans_row (exttrans_kept n)))
      (by_test n (s.row == 24) _ _ (tested n (holds 0 3 0 s) _ (λ e. three_kept n s (addext_row n.sorts) (addext_kept n)))
      (by_test n (s.row == 25) _ _ (the_known n sound s addpair_row (addpair_kept n))
      (by_test n (s.row == 26) _ _ (tested n (counts 0 3 0 s) _ (λ e. on_kept n _ s.class (λ c i. three_kept n s (λ p a b. addlink_row n.sorts p a b c) (λ p a b. addlink_kept n p a b c)))) tt)))))))))))

pub loses_no_model : (n : Nod) (s : Stp) (added : List Addition) → IsSound n → equality n s ≡ kids added → LosesNoModel n added
loses_no_model n s added sound e = (subst (IsKept n) e (step_kept n sound s)).1

pub adds_sorted : (n : Nod) (s : Stp) (added : List Addition) → IsSound n → equality n s ≡ kids added → AreSorted n added
adds_sorted n s added sound e = (subst (IsKept n) e (step_kept n sound s)).0
