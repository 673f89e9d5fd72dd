-- No row here closes a node.
use Rattle.std.proofs.Common.{◌≡◌, ◌↔◌, ℕ, ◌==◌, Bool, false, ◌&&◌, IsTrue, List, [], ◌∷◌, refl, subst}
use Rattle.rel_logic.specs.Syntax.{Srt, Trm, sel, sto, link, Fml, eq, paired, ext, no, imp, Nod}
use Rattle.rel_logic.specs.Substitution.{instantiated}
use Rattle.rel_logic.specs.Sorting.{sort_at, is_well_sorted}
use Rattle.rel_logic.specs.Equal.{same_trm, same_fml}
use Rattle.rules_table.specs.Nodes.{Stp, Outcome, kids}
use Rattle.rules_table.specs.Table.{one_child, two_children, counts, holds, formula, term, form, on_two_formulas, on_three_terms, only, the_formula}
use Rattle.rules_table.proofs.Closing.{is_closing, closing_is, never_if, never_on}
use Rattle.rules_eq.specs.Table.{given, past_stored, readmiss_row, linkable, has_hole, replace_row, iff, bijone_row, bijclass_row, extpair_row, exttrans_row, addpair_row, equality}

never_only : (b : Bool) (o : Outcome) → is_closing o ≡ false → is_closing (only b o) ≡ false
never_only b o e = never_if b o _ e refl

never_two : (n : Nod) (s : Stp) (rule : Fml → Fml → Outcome) → ((f g : Fml) → is_closing (rule f g) ≡ false) → is_closing (on_two_formulas n s rule) ≡ false
never_two n s rule h = never_on _ (formula n s 0) (λ f. never_on _ (formula n s 1) (λ g. h f g))

never_three : (s : Stp) (rule : Trm → Trm → Trm → Outcome) → ((a b c : Trm) → is_closing (rule a b c) ≡ false) → is_closing (on_three_terms s rule) ≡ false
never_three s rule h = never_on _ (term s 0) (λ a. never_on _ (term s 1) (λ b. never_on _ (term s 2) (λ c. h a b c)))

never_bijone : (f g : Fml) → is_closing (bijone_row f g) ≡ false
never_bijone (paired p a b) (paired q e h) = never_only (same_trm p q) (one_child (iff (eq a e) (eq b h) ∷ [])) refl
never_bijone f g = refl

never_bijclass : (f : Fml) (c : ℕ) → is_closing (bijclass_row f c) ≡ false
never_bijclass (paired p a b) c = refl
never_bijclass f c = refl

never_extpair : (f g : Fml) → is_closing (extpair_row f g) ≡ false
never_extpair (ext p q) (paired o a b) = never_only (same_trm p o) (one_child (paired q a b ∷ [])) refl
never_extpair f g = refl

never_exttrans : (f g : Fml) → is_closing (exttrans_row f g) ≡ false
never_exttrans (ext p q) (ext o r) = never_only (same_trm q o) (one_child (ext p r ∷ [])) refl
never_exttrans f g = refl

never_addpair : (f : Fml) → is_closing (addpair_row f) ≡ false
never_addpair (paired (link p a b) e h) = refl
never_addpair f = refl

never_given : (sorts : List Srt) (f : Fml) → is_closing (given sorts f) ≡ false
never_given sorts f = never_only (is_well_sorted sorts f) (one_child (f ∷ [])) refl

module _ (n : Nod) where
  never_replace : (f g k : Fml) → is_closing (replace_row n.sorts f g k) ≡ false
  never_replace (eq t u) g k = never_only (has_hole n.sorts (sort_at n.sorts [] t) k && same_fml (instantiated t k) g) (one_child (instantiated u k ∷ [])) refl
  never_replace f g k = refl

  never_readmiss : (m a v b : Trm) → is_closing (readmiss_row n.sorts m a v b) ≡ false
  never_readmiss m a v b =
      never_only (is_well_sorted n.sorts (past_stored m a v b)) (two_children (eq a b ∷ []) (no (eq a b) ∷ past_stored m a v b ∷ [])) refl

  never : (s : Stp) → is_closing (equality n s) ≡ false
  never s =
      never_if (s.row == 15) _ _ (never_only (holds 0 1 0 s) _ (never_on _ (term s 0) (λ t. never_given n.sorts (eq t t))))
      (never_if (s.row == 16) _ _ (never_only (holds 2 0 1 s) _ (never_on _ (form s 0) (λ k. never_two n s _ (λ f g. never_replace f g k))))
      (never_if (s.row == 17) _ _ (never_only (holds 0 3 0 s) _ (never_three s _ (λ m a v. never_given n.sorts (eq (sel (sto m a v) a) v))))
      (never_if (s.row == 18) _ _ (never_only (holds 0 4 0 s) _ (never_on _ (term s 3) (λ b. never_three s _ (λ m a v. never_readmiss m a v b))))
      (never_if (s.row == 19) _ _ (never_only (holds 2 0 0 s) _ (never_two n s _ never_bijone))
      (never_if (s.row == 20) _ _ (never_only (counts 1 0 0 s) _ (never_on _ s.class (λ c. never_on _ (formula n s 0) (λ f. never_bijclass f c))))
      (never_if (s.row == 21) _ _ (never_only (holds 2 0 0 s) _ (never_two n s _ never_extpair))
      (never_if (s.row == 22) _ _ (never_only (holds 0 1 0 s) _ (never_on _ (term s 0) (λ p. never_given n.sorts (ext p p))))
      (never_if (s.row == 23) _ _ (never_only (holds 2 0 0 s) _ (never_two n s _ never_exttrans))
      (never_if (s.row == 24) _ _ (never_only (holds 0 3 0 s) _ (never_three s _ (λ p a b. never_given n.sorts (ext p (link p a b)))))
      (never_if (s.row == 25) _ _ (never_on _ (the_formula n s) never_addpair)
      (never_if (s.row == 26) _ _ (never_only (counts 0 3 0 s) _ (never_on _ s.class (λ c. never_three s _ (λ p a b. never_given n.sorts (imp (linkable c p a b) (paired (link p a b) a b)))))) refl)))))))))))

pub closes_nowhere : (n : Nod) (s : Stp) → IsTrue false ↔ (equality n s ≡ kids [])
closes_nowhere n s = subst (λ b. IsTrue b ↔ (equality n s ≡ kids [])) (never n s) (closing_is (equality n s))
