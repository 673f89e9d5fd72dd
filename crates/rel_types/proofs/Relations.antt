-- A relational formula is typed exactly where it has no flaw.
use Rattle.std.proofs.Common.{◌≡◌, Bool, true, false, not, ◌&&◌, ◌||◌, ◌↔◌, ◌∷◌, refl}
use Rattle.std.specs.Prelude.{is_some}
use Rattle.std.proofs.lemmas.Bool.{or_parts, or_from, and_parts, and_from, not-false, not_from_true}
use Rattle.rel_lang.specs.Syntax.{Rgn, Left, Right, RelFormula, RelTrue, RelFalse, OnLeft, OnRight, Both, Agree, AgreeImage, RelNot, RelAnd, RelOr, RelImplies, RelEvery, RelExists, Eventually}
use Rattle.rel_lang.specs.State.{Tables, find_field, Scope, find_variable}
use Rattle.rel_lang.specs.Truth.{quantified}
use Rattle.rel_lang.specs.Typed.{HasType, IsTypedRel}
use Rattle.rel_flaws.specs.Inference.{infer, is_class, flaws_of_rel}
use Rattle.rel_types.proofs.Equivalences.{iff_then, iff_back}
use Rattle.rel_types.proofs.Clean.{IsClean}
use Rattle.rel_types.proofs.Expressions.{AreFine, among_law, expression_law}
use Rattle.rel_types.proofs.Formulas.{four, four_law, equal_law, quantifier_law, two_clean, formula_law}

-- one region on both sides, and a field
image_law : {A B : Type 0} (u v m f g k : Bool) → (A ↔ AreFine u m f) → (B ↔ AreFine v m g) → (A × B × (k ≡ true)) ↔ IsClean (four false (u || v || not k) m (not (f && g)))
image_law u v m f g k p q =
    iff_then (
      λ h.
          let x = p.0 h.0 in
          let y = q.0 h.1 in
          (refl, or_from (u || v) (not k) (or_from u v x.0 y.0) (not_from_true k h.2), x.1, not_from_true (f && g) (and_from f g x.2 y.2)),
      λ (h : (false ≡ false) × ((u || v || not k) ≡ false) × (m ≡ false) × (not (f && g) ≡ false)).
          let a = or_parts (u || v) (not k) h.1 in
          let b = or_parts u v a.0 in
          let d = and_parts f g (not-false (f && g) h.3) in
          (p.1 (b.0, h.2, d.0), q.1 (b.1, h.2, d.1), not-false k a.1),
    )
    (iff_back (four_law false (u || v || not k) m (not (f && g))))

-- two formulas in which `old` is misplaced alike
alike_law : {A B : Type 0} (s t u v m f g : Bool) → (A ↔ IsClean (four s u m f)) → (B ↔ IsClean (four t v m g)) → (A × B) ↔ IsClean (four (s || t) (u || v) m (f || g))
alike_law s t u v m f g p q =
    iff_then (
      λ h.
          let x = (four_law s u m f).0 (p.0 h.0) in
          let y = (four_law t v m g).0 (q.0 h.1) in
          (or_from s t x.0 y.0, or_from u v x.1 y.1, x.2, or_from f g x.3 y.3),
      λ (h : ((s || t) ≡ false) × ((u || v) ≡ false) × (m ≡ false) × ((f || g) ≡ false)).
          let a = or_parts s t h.0 in
          let b = or_parts u v h.1 in
          let d = or_parts f g h.3 in
          (p.1 ((four_law s u m f).1 (a.0, b.0, h.2, d.0)), q.1 ((four_law t v m g).1 (a.1, b.1, h.2, d.1))),
    )
    (iff_back (four_law (s || t) (u || v) m (f || g)))

pub rel_law : (tables : Tables) (old : Bool) (l r : Scope) (a : RelFormula) → IsTypedRel tables old l r a ↔ IsClean (flaws_of_rel tables old l r a)
rel_law tables old l r RelTrue = (λ h. refl, λ h. tt)
rel_law tables old l r RelFalse = (λ h. refl, λ h. tt)
rel_law tables old l r (OnLeft p) = formula_law tables old l p
rel_law tables old l r (OnRight p) = formula_law tables old r p
rel_law tables old l r (Both p) = alike_law _ _ _ _ _ _ _ (formula_law tables old l p) (formula_law tables old r p)
rel_law tables old l r (Agree a b) = equal_law (HasType tables old l a) (HasType tables old r b) _ _ _ _ (infer tables l a) (infer tables r b) (expression_law tables old l a) (expression_law tables old r b)
rel_law tables old l r (AgreeImage g f) = image_law _ _ _ _ _ (is_some (find_field tables f)) (expression_law tables old l g Rgn) (expression_law tables old r g Rgn)
rel_law tables old l r (RelNot a) = rel_law tables old l r a
rel_law tables old l r (RelAnd a b) = two_clean (flaws_of_rel tables old l r a) (flaws_of_rel tables old l r b) (rel_law tables old l r a) (rel_law tables old l r b)
rel_law tables old l r (RelOr a b) = two_clean (flaws_of_rel tables old l r a) (flaws_of_rel tables old l r b) (rel_law tables old l r a) (rel_law tables old l r b)
rel_law tables old l r (RelImplies a b) = two_clean (flaws_of_rel tables old l r a) (flaws_of_rel tables old l r b) (rel_law tables old l r a) (rel_law tables old l r b)
rel_law tables old l r (RelEvery Left x c g a) =
    quantifier_law (is_some (find_variable x l)) (is_class tables c) _ _ _ _ _ _ _ (among_law c tables.classes) (expression_law tables old l g Rgn) (rel_law tables old (quantified x c ∷ l) r a)
rel_law tables old l r (RelEvery Right x c g a) =
    quantifier_law (is_some (find_variable x r)) (is_class tables c) _ _ _ _ _ _ _ (among_law c tables.classes) (expression_law tables old r g Rgn) (rel_law tables old l (quantified x c ∷ r) a)
rel_law tables old l r (RelExists Left x c g a) =
    quantifier_law (is_some (find_variable x l)) (is_class tables c) _ _ _ _ _ _ _ (among_law c tables.classes) (expression_law tables old l g Rgn) (rel_law tables old (quantified x c ∷ l) r a)
rel_law tables old l r (RelExists Right x c g a) =
    quantifier_law (is_some (find_variable x r)) (is_class tables c) _ _ _ _ _ _ _ (among_law c tables.classes) (expression_law tables old r g Rgn) (rel_law tables old l (quantified x c ∷ r) a)
rel_law tables old l r (Eventually a) = rel_law tables old l r a
