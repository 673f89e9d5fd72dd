-- A formula is typed exactly where it has no flaw.
use Rattle.std.proofs.Common.{◌≡◌, Bool, true, false, not, ◌&&◌, ◌||◌, ◌↔◌, ◌∷◌, refl, ap}
use Rattle.std.specs.Prelude.{is_some}
use Rattle.std.proofs.lemmas.Bool.{or_parts, or_from, and_parts, and_from, not-false, not_from_true}
use Rattle.rel_lang.specs.Syntax.{Word, Ty, Int, Rgn, Class, Expression, Formula, True, False, Eq, Lt, Le, Member, Subset, Not, And, Or, Implies, Every, Exists}
use Rattle.rel_lang.specs.State.{Tables, Scope, find_variable}
use Rattle.rel_lang.specs.Truth.{quantified}
use Rattle.rel_lang.specs.Typed.{HasType, IsTypedFormula}
use Rattle.rel_flaws.specs.Flaws.{Flaws, flawless, either}
use Rattle.rel_flaws.specs.Inference.{Inferred, fits, is_reference, have_one_type, infer, is_class, flaws_of_formula, flaws_of_region}
use Rattle.rel_types.proofs.Equivalences.{iff_then, iff_back, iff_both}
use Rattle.rel_types.proofs.Clean.{IsClean, clean_both}
use Rattle.rel_types.proofs.Expressions.{AreFine, among_law, reference_law, one_type_law, expression_law}

-- the flaws that a formula can have
abbrev pub four : Bool → Bool → Bool → Bool → Flaws
four twice unknown misplaced ill = record flawless { twice = twice; unknown = unknown; old_here = misplaced; wrong_type = ill }

pub four_law : (twice unknown misplaced ill : Bool) → IsClean (four twice unknown misplaced ill) ↔ ((twice ≡ false) × (unknown ≡ false) × (misplaced ≡ false) × (ill ≡ false))
four_law twice unknown misplaced ill = (
  λ h. (ap (λ f. f.twice) h, ap (λ f. f.unknown) h, ap (λ f. f.old_here) h, ap (λ f. f.wrong_type) h),
  λ h. rw (h.0, h.1, h.2, h.3) refl,
)

-- ---- comparisons

-- two that each have one of two types
pub pair_law : {A B : Type 0} (u v m n f g : Bool) → (A ↔ AreFine u m f) → (B ↔ AreFine v n g) → (A × B) ↔ IsClean (four false (u || v) (m || n) (not (f && g)))
pair_law u v m n f g p q =
    iff_then (
      λ h.
          let x = p.0 h.0 in
          let y = q.0 h.1 in
          (refl, or_from u v x.0 y.0, or_from m n x.1 y.1, not_from_true (f && g) (and_from f g x.2 y.2)),
      λ (h : (false ≡ false) × ((u || v) ≡ false) × ((m || n) ≡ false) × (not (f && g) ≡ false)).
          let a = or_parts u v h.1 in
          let b = or_parts m n h.2 in
          let d = and_parts f g (not-false (f && g) h.3) in
          (p.1 (a.0, b.0, d.0), q.1 (a.1, b.1, d.1)),
    )
    (iff_back (four_law false (u || v) (m || n) (not (f && g))))

-- two that have one type in common
pub equal_law : (A B : Ty → Type 0) (u v m n : Bool) (i j : Inferred) → ((t : Ty) → A t ↔ AreFine u m (fits i t)) → ((t : Ty) → B t ↔ AreFine v n (fits j t))
    → ((t : Ty) × A t × B t) ↔ IsClean (four false (u || v) (m || n) (not (have_one_type i j)))
equal_law A B u v m n i j p q =
    iff_then (
      λ h.
          let x = (p h.0).0 h.1 in
          let y = (q h.0).0 h.2 in
          (refl, or_from u v x.0 y.0, or_from m n x.1 y.1, not_from_true (have_one_type i j) ((one_type_law i j).0 (h.0, x.2, y.2))),
      λ (h : (false ≡ false) × ((u || v) ≡ false) × ((m || n) ≡ false) × (not (have_one_type i j) ≡ false)).
          let a = or_parts u v h.1 in
          let b = or_parts m n h.2 in
          let t = (one_type_law i j).1 (not-false (have_one_type i j) h.3) in
          (t.0, (p t.0).1 (a.0, b.0, t.1), (q t.0).1 (a.1, b.1, t.2)),
    )
    (iff_back (four_law false (u || v) (m || n) (not (have_one_type i j))))

member_law : (A : Ty → Type 0) {B : Type 0} (u v m n g : Bool) (i : Inferred) → ((t : Ty) → A t ↔ AreFine u m (fits i t)) → (B ↔ AreFine v n g)
    → ((c : Word) × A (Class c) × B) ↔ IsClean (four false (u || v) (m || n) (not (is_reference i && g)))
member_law A u v m n g i p q =
    iff_then (
      λ h.
          let x = (p (Class h.0)).0 h.1 in
          let y = q.0 h.2 in
          (refl, or_from u v x.0 y.0, or_from m n x.1 y.1, not_from_true (is_reference i && g) (and_from (is_reference i) g ((reference_law i).0 (h.0, x.2)) y.2)),
      λ (h : (false ≡ false) × ((u || v) ≡ false) × ((m || n) ≡ false) × (not (is_reference i && g) ≡ false)).
          let a = or_parts u v h.1 in
          let b = or_parts m n h.2 in
          let d = and_parts (is_reference i) g (not-false (is_reference i && g) h.3) in
          let c = (reference_law i).1 d.0 in
          (c.0, (p (Class c.0)).1 (a.0, b.0, c.1), q.1 (a.1, b.1, d.1)),
    )
    (iff_back (four_law false (u || v) (m || n) (not (is_reference i && g))))

-- ---- quantifiers

-- a name, its class, the region, and the body, which has four flaws at most
pub quantifier_law : {C A B : Type 0} (s k u m f bt bu bm bi : Bool) → (C ↔ (k ≡ true)) → (A ↔ AreFine u m f) → (B ↔ IsClean (four bt bu bm bi))
    → (((s ≡ false) × C) × A × B) ↔ IsClean (four (s || bt) (not k || u || bu) (m || bm) (not f || bi))
quantifier_law s k u m f bt bu bm bi c p q =
    iff_then (
      λ h.
          let x = p.0 h.1 in
          let y = (four_law bt bu bm bi).0 (q.0 h.2) in
          (or_from s bt h.0.0 y.0, or_from (not k || u) bu (or_from (not k) u (not_from_true k (c.0 h.0.1)) x.0) y.1, or_from m bm x.1 y.2, or_from (not f) bi (not_from_true f x.2) y.3),
      λ (h : ((s || bt) ≡ false) × ((not k || u || bu) ≡ false) × ((m || bm) ≡ false) × ((not f || bi) ≡ false)).
          let a = or_parts s bt h.0 in
          let b = or_parts (not k || u) bu h.1 in
          let d = or_parts (not k) u b.0 in
          let e = or_parts m bm h.2 in
          let g = or_parts (not f) bi h.3 in
          ((a.0, c.1 (not-false k d.0)), p.1 (d.1, e.0, not-false f g.0), q.1 ((four_law bt bu bm bi).1 (a.1, b.1, e.1, g.1))),
    )
    (iff_back (four_law (s || bt) (not k || u || bu) (m || bm) (not f || bi)))

-- ---- formulas

pub two_clean : {A B : Type 0} (f g : Flaws) → (A ↔ IsClean f) → (B ↔ IsClean g) → (A × B) ↔ IsClean (either f g)
two_clean f g p q = iff_then (iff_both p q) (iff_back (clean_both f g))

pub formula_law : (tables : Tables) (old : Bool) (sc : Scope) (p : Formula) → IsTypedFormula tables old sc p ↔ IsClean (flaws_of_formula tables old sc p)
formula_law tables old sc True = (λ h. refl, λ h. tt)
formula_law tables old sc False = (λ h. refl, λ h. tt)
formula_law tables old sc (Eq a b) = equal_law (HasType tables old sc a) (HasType tables old sc b) _ _ _ _ (infer tables sc a) (infer tables sc b) (expression_law tables old sc a) (expression_law tables old sc b)
formula_law tables old sc (Lt a b) = pair_law _ _ _ _ _ _ (expression_law tables old sc a Int) (expression_law tables old sc b Int)
formula_law tables old sc (Le a b) = pair_law _ _ _ _ _ _ (expression_law tables old sc a Int) (expression_law tables old sc b Int)
formula_law tables old sc (Member a g) = member_law (HasType tables old sc a) _ _ _ _ _ (infer tables sc a) (expression_law tables old sc a) (expression_law tables old sc g Rgn)
formula_law tables old sc (Subset g h) = pair_law _ _ _ _ _ _ (expression_law tables old sc g Rgn) (expression_law tables old sc h Rgn)
formula_law tables old sc (Not p) = formula_law tables old sc p
formula_law tables old sc (And p q) = two_clean (flaws_of_formula tables old sc p) (flaws_of_formula tables old sc q) (formula_law tables old sc p) (formula_law tables old sc q)
formula_law tables old sc (Or p q) = two_clean (flaws_of_formula tables old sc p) (flaws_of_formula tables old sc q) (formula_law tables old sc p) (formula_law tables old sc q)
formula_law tables old sc (Implies p q) = two_clean (flaws_of_formula tables old sc p) (flaws_of_formula tables old sc q) (formula_law tables old sc p) (formula_law tables old sc q)
formula_law tables old sc (Every x c g p) =
    quantifier_law (is_some (find_variable x sc)) (is_class tables c) _ _ _ _ _ _ _ (among_law c tables.classes) (expression_law tables old sc g Rgn) (formula_law tables old (quantified x c ∷ sc) p)
formula_law tables old sc (Exists x c g p) =
    quantifier_law (is_some (find_variable x sc)) (is_class tables c) _ _ _ _ _ _ _ (among_law c tables.classes) (expression_law tables old sc g Rgn) (formula_law tables old (quantified x c ∷ sc) p)

-- ---- regions

pub region_law : (tables : Tables) (sc : Scope) (g : Expression) → HasType tables false sc g Rgn ↔ IsClean (flaws_of_region tables sc g)
region_law tables sc g = iff_then (expression_law tables false sc g Rgn) (three_law _ _ _)
  where
    three_law : (u m f : Bool) → AreFine u m f ↔ IsClean (four false u m (not f))
    three_law u m f =
        iff_then (λ h. (refl, h.0, h.1, not_from_true f h.2), λ (h : (false ≡ false) × (u ≡ false) × (m ≡ false) × (not f ≡ false)). (h.1, h.2, not-false f h.3)) (iff_back (four_law false u m (not f)))
