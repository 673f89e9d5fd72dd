-- The rows without children are the only ones that close a node.
use Rattle.std.proofs.Common.{◌≡◌, ◌↔◌, ◌==◌, Bool, true, false, ◌&&◌, if◌then◌else◌, IsTrue, [], Option, Some, None, refl, sym, subst, ◌∙◌}
use Rattle.std.proofs.lemmas.Bool.Decides.{Decides-eqb}
use Rattle.rel_logic.specs.Syntax.{ref_sort, rgn_sort, Trm, one, cup, cap, less, img, of, Fml, eq, member, is, paired, no, Nod}
use Rattle.rel_logic.specs.Sorting.{has_sort}
use Rattle.rules_table.specs.Nodes.{Stp, Outcome, bad, kids}
use Rattle.rules_table.specs.Table.{holds, formula, term, the_formula, formula_by_term}
use Rattle.rules_table.proofs.Closing.{is_closing, closing_is, never_if, never_on, closing_if}
use Rattle.rules_set.specs.Table.{membership, non_membership, on_both, nonnull_row, are_apart, is_empty, inempty_row, insingle_row, ninsingle_row, inunion_row, ninunion_row, inmeet_row, ninmeet_row, inminus_row, ninminus_row, infilter_row, ninfilter_row, inimage_row, ninimage_row, ext_row, is_in_empty, closes, regions}

never_nonnull : (f : Fml) → is_closing (nonnull_row f) ≡ false
never_nonnull (member a g) = refl
never_nonnull (is c a) = refl
never_nonnull (paired p a b) = refl
never_nonnull f = refl

never_insingle : (a g : Trm) → is_closing (insingle_row a g) ≡ false
never_insingle a (one b) = refl
never_insingle a g = refl

never_ninsingle : (a g : Trm) → is_closing (ninsingle_row a g) ≡ false
never_ninsingle a (one b) = refl
never_ninsingle a g = refl

never_inunion : (a g : Trm) → is_closing (inunion_row a g) ≡ false
never_inunion a (cup g h) = refl
never_inunion a g = refl

never_ninunion : (a g : Trm) → is_closing (ninunion_row a g) ≡ false
never_ninunion a (cup g h) = refl
never_ninunion a g = refl

never_inmeet : (a g : Trm) → is_closing (inmeet_row a g) ≡ false
never_inmeet a (cap g h) = refl
never_inmeet a g = refl

never_ninmeet : (a g : Trm) → is_closing (ninmeet_row a g) ≡ false
never_ninmeet a (cap g h) = refl
never_ninmeet a g = refl

never_inminus : (a g : Trm) → is_closing (inminus_row a g) ≡ false
never_inminus a (less g h) = refl
never_inminus a g = refl

never_ninminus : (a g : Trm) → is_closing (ninminus_row a g) ≡ false
never_ninminus a (less g h) = refl
never_ninminus a g = refl

never_infilter : (a g : Trm) → is_closing (infilter_row a g) ≡ false
never_infilter a (of c g) = refl
never_infilter a g = refl

never_ninfilter : (a g : Trm) → is_closing (ninfilter_row a g) ≡ false
never_ninfilter a (of c g) = refl
never_ninfilter a g = refl

never_both : (rule : Trm → Trm → Outcome) → ((a g : Trm) → is_closing (rule a g) ≡ false) → (o : Option (Trm × Trm)) → is_closing (on_both rule o) ≡ false
never_both rule h None = refl
never_both rule h (Some p) = h p.0 p.1

bare : (b : Bool) → is_closing (if b then kids [] else bad) ≡ b
bare true = refl
bare false = refl

empty_closes : (o : Option (Trm × Trm)) → is_closing (on_both (λ a g. inempty_row g) o) ≡ is_in_empty o
empty_closes None = refl
empty_closes (Some p) = bare (is_empty p.1)

-- a row before them
never_before : (b : Bool) (x y : Outcome) (d : Bool) → (b ≡ true → d ≡ false) → is_closing x ≡ false → is_closing y ≡ d → is_closing (if b then x else y) ≡ d
never_before true x y d h e f = e ∙ sym (h refl)
never_before false x y d h e f = f

module _ (n : Nod) where
  not_first : (s : Stp) → (s.row == 27) ≡ true → closes n s ≡ false
  not_first s e =
      let first = holds 2 0 0 s && are_apart (formula n s 0) (formula n s 1) in
      let second = is_in_empty (membership (the_formula n s)) in
      subst (λ k. (if k == 28 then first else if k == 29 then second else false) ≡ false) (sym ((Decides-eqb s.row 27).0 e)) refl

  never_inimage : (a g : Trm) → is_closing (inimage_row n.sorts a g) ≡ false
  never_inimage a (img m g) = refl
  never_inimage a g = refl

  never_ninimage : (t a g : Trm) → is_closing (ninimage_row n.sorts t a g) ≡ false
  never_ninimage t a (img m g) = never_if (has_sort n.sorts [] ref_sort t) _ _ refl refl
  never_ninimage t a g = refl

  never_ext : (f : Fml) → is_closing (ext_row n.sorts f) ≡ false
  never_ext (no (eq g h)) = never_if (has_sort n.sorts [] rgn_sort g) _ _ refl refl
  never_ext f = refl

  within : (s : Stp) (rule : Trm → Trm → Outcome) → ((a g : Trm) → is_closing (rule a g) ≡ false) → is_closing (on_both rule (membership (the_formula n s))) ≡ false
  within s rule h = never_both rule h (membership (the_formula n s))

  outside : (s : Stp) (rule : Trm → Trm → Outcome) → ((a g : Trm) → is_closing (rule a g) ≡ false) → is_closing (on_both rule (non_membership (the_formula n s))) ≡ false
  outside s rule h = never_both rule h (non_membership (the_formula n s))

  other_rows : (s : Stp) → is_closing (regions n s) ≡ closes n s
  other_rows s =
      never_before (s.row == 27) _ _ _ (not_first s) (never_on nonnull_row (the_formula n s) never_nonnull)
      (closing_if (s.row == 28) _ _ _ _ (bare (holds 2 0 0 s && are_apart (formula n s 0) (formula n s 1)))
      (closing_if (s.row == 29) _ _ _ _ (empty_closes (membership (the_formula n s)))
      (never_if (s.row == 30) _ _ (within s insingle_row never_insingle)
      (never_if (s.row == 31) _ _ (outside s ninsingle_row never_ninsingle)
      (never_if (s.row == 32) _ _ (within s inunion_row never_inunion)
      (never_if (s.row == 33) _ _ (outside s ninunion_row never_ninunion)
      (never_if (s.row == 34) _ _ (within s inmeet_row never_inmeet)
      (never_if (s.row == 35) _ _ (outside s ninmeet_row never_ninmeet)
      (never_if (s.row == 36) _ _ (within s inminus_row never_inminus)
      (never_if (s.row == 37) _ _ (outside s ninminus_row never_ninminus)
      (never_if (s.row == 38) _ _ (within s infilter_row never_infilter)
      (never_if (s.row == 39) _ _ (outside s ninfilter_row never_ninfilter)
      (never_if (s.row == 40) _ _ (within s (inimage_row n.sorts) never_inimage)
      (never_if (s.row == 41) _ _ (never_both _ (λ a g. never_on _ (term s 0) (λ t. never_ninimage t a g)) (non_membership (formula_by_term n s)))
      (never_if (s.row == 42) _ _ (never_on (ext_row n.sorts) (the_formula n s) never_ext) refl)))))))))))))))

pub closes_where : (n : Nod) (s : Stp) (answer : Bool) → answer ≡ closes n s → IsTrue answer ↔ (regions n s ≡ kids [])
closes_where n s answer e = subst (λ b. IsTrue b ↔ (regions n s ≡ kids [])) (other_rows n s ∙ sym e) (closing_is (regions n s))
