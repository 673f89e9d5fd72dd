-- An alignment is typed exactly where it has no fault.
use Rattle.std.proofs.Common.{◌≡◌, ℕ, Bool, true, false, not, ◌&&◌, ◌||◌, ◌↔◌, Option, Some, None, IsSomeAnd, refl, sym, ap, ◌∙◌}
use Rattle.std.specs.Prelude.{bytes_eq, is_some}
use Rattle.std.proofs.lemmas.Bool.{and_parts, and_from, not-false}
use Rattle.std.proofs.lemmas.Slice.Eq.{bytes_eq-Decides}
use Rattle.rel_lang.specs.Syntax.{Word, Ty, Int, Rgn, Class, Formula, RelFormula, Command, At, Skip, Assign, Load, Store, New, Call, If, While, BiLoop, BiCommand, BiAt, BiForm, Split, Sync, SyncCall, BiIf, BiWhile, Link, Note, BiBlock, BiEnd, BiThen, Act, ActSeq, ActSync, ActCall, ActIf, ActWhile, ActLink, ActNote, ActDrop, Align, Given, Woven, Judgement}
use Rattle.rel_lang.specs.State.{Tables, Variable, find_variable}
use Rattle.rel_lang.specs.Lookup.{find_judgement}
use Rattle.rel_lang.specs.Typed as typed
use Rattle.rel_lang.specs.Typed.{IsTypedCommand, IsTypedBicommand, IsTypedBiblock, IsTypedAct, IsTypedAlign, IsCallBy, IsTest, IsTypedFormula}
use Rattle.rel_flaws.specs.Flaws.{flawless, either, fault_at, first_of}
use Rattle.rel_flaws.specs.Inference.{same_type, is_class_type, flaws_of_formula, flaws_of_test}
use Rattle.rel_flaws.specs.Code.{flaws_of_form, inner_fault, block_fault}
use Rattle.rel_flaws.specs.Alignments.{Sides, same_subject, is_about_procedures, is_about, is_call_by, are_linked, flaws_of_link, flaws_of_relation, flaws_of_tests, flaws_of_loop, flaws_of_biform, flaws_of_act, joint_fault, bicommand_fault, inner_bifault, biblock_fault, step_fault, align_fault}
use Rattle.rel_types.proofs.Equivalences.{iff_then, iff_back, iff_both, iff_all}
use Rattle.rel_types.proofs.Clean.{IsClean, clean_both, HasNoFault, no_fault_at, no_fault_in_both, no_fault_in_list}
use Rattle.rel_types.proofs.Expressions.{type_law}
use Rattle.rel_types.proofs.Formulas.{two_clean, formula_law}
use Rattle.rel_types.proofs.Relations.{rel_law}
use Rattle.rel_types.proofs.Commands.{names_in, test_law, where_unknown, form_law, block_law}

-- the names of the sides, as their typing speaks of them
abbrev pub typed_sides : Sides → typed.Sides
typed_sides s = record { left = names_in s.left; right = names_in s.right; judgements = s.judgements; units = s.units }

-- ---- judgements

same_law : (a b : Word × Word) → (same_subject a b ≡ true) ↔ (a ≡ b)
same_law a b = (
  λ h. let e = and_parts (bytes_eq a.0 b.0) (bytes_eq a.1 b.1) h in equal ((bytes_eq-Decides a.0 b.0).0 e.0) ((bytes_eq-Decides a.1 b.1).0 e.1),
  λ h. and_from (bytes_eq a.0 b.0) (bytes_eq a.1 b.1) ((bytes_eq-Decides a.0 b.0).1 (ap (λ x. x.0) h)) ((bytes_eq-Decides a.1 b.1).1 (ap (λ x. x.1) h)),
)
  where
    equal : a.0 ≡ b.0 → a.1 ≡ b.1 → a ≡ b
    equal e f = ap (λ x. (x, a.1)) e ∙ ap (λ y. (b.0, y)) f

about_law : (s : Sides) (j p : Word) → typed.IsAbout (typed_sides s) j p ↔ (is_about s.units j p s.judgements ≡ true)
about_law s j p = with_units s.units
  where
    with_judgement : (u : Word × Word) (o : Option Judgement) → IsSomeAnd o (λ k. (k.left ≡ (u.0, p)) × (k.right ≡ (u.1, p))) ↔ (is_about_procedures p u o ≡ true)
    with_judgement u None = (λ h. absurd h, λ h. absurd cc)
    with_judgement u (Some k) = (
      λ h. and_from (same_subject k.left (u.0, p)) (same_subject k.right (u.1, p)) ((same_law k.left (u.0, p)).1 h.0) ((same_law k.right (u.1, p)).1 h.1),
      λ h. let e = and_parts (same_subject k.left (u.0, p)) (same_subject k.right (u.1, p)) h in ((same_law k.left (u.0, p)).0 e.0, (same_law k.right (u.1, p)).0 e.1),
    )

    with_units : (o : Option (Word × Word)) → IsSomeAnd o (λ u. IsSomeAnd (find_judgement j s.judgements) (λ k. (k.left ≡ (u.0, p)) × (k.right ≡ (u.1, p)))) ↔ (is_about o j p s.judgements ≡ true)
    with_units None = (λ h. absurd h, λ h. absurd cc)
    with_units (Some u) = with_judgement u (find_judgement j s.judgements)

never : ⊥ ↔ (◌≡◌ {A = Bool} false true)
never = (λ h. absurd h, λ h. absurd cc)

call_by_law : (s : Sides) (j : Word) (c : Command) → IsCallBy (typed_sides s) j c ↔ (is_call_by s j c ≡ true)
call_by_law s j (At at Skip) = never
call_by_law s j (At at (Assign x e)) = never
call_by_law s j (At at (Load x y f)) = never
call_by_law s j (At at (Store y f e)) = never
call_by_law s j (At at (New x c)) = never
call_by_law s j (At at (Call x p es)) = about_law s j p
call_by_law s j (At at (If t a b)) = never
call_by_law s j (At at (While t i b)) = never

-- ---- links

linked_law : (v w : Option Variable) → ((c : Word) × IsSomeAnd v (λ x. x.ty ≡ Class c) × IsSomeAnd w (λ y. y.ty ≡ Class c)) ↔ IsClean (record flawless { unknown = not (is_some v) || not (is_some w); wrong_type = not (are_linked v w) })
linked_law None w = (λ h. absurd h.1, λ h. let e = ap (λ x. x.unknown) h in absurd cc)
linked_law (Some v) None = (λ h. absurd h.2, λ h. let e = ap (λ x. x.unknown) h in absurd cc)
linked_law (Some v) (Some w) = (
  λ h. ap (λ b. record flawless { wrong_type = not b }) (and_from (is_class_type v.ty) (same_type v.ty w.ty) (ap is_class_type h.1) ((type_law v.ty w.ty).1 (h.1 ∙ sym h.2))),
  λ h.
      let e = and_parts (is_class_type v.ty) (same_type v.ty w.ty) (not-false (is_class_type v.ty && same_type v.ty w.ty) (ap (λ x. x.wrong_type) h)) in
      let c = class_of v.ty e.0 in
      (c.0, c.1, sym ((type_law v.ty w.ty).0 e.1) ∙ c.1),
)
  where
    class_of : (t : Ty) → is_class_type t ≡ true → (c : Word) × (t ≡ Class c)
    class_of Int e = absurd cc
    class_of Rgn e = absurd cc
    class_of (Class c) e = (c, refl)

-- ---- biprograms

module _ (tables : Tables) (s : Sides) where
  abbrev relation_law : (a : RelFormula) → typed.IsRelInBody tables (typed_sides s) a ↔ IsClean (flaws_of_relation tables s a)
  relation_law a = rel_law tables true s.left.scope s.right.scope a

  link_law : (x y : Word) → typed.IsLink tables (typed_sides s) x y ↔ IsClean (flaws_of_link s.left.scope s.right.scope x y)
  link_law x y = linked_law (find_variable x s.left.scope) (find_variable y s.right.scope)

  tests_law : (p q : Formula) → (IsTest tables (names_in s.left) p × IsTest tables (names_in s.right) q) ↔ IsClean (flaws_of_tests tables s p q)
  tests_law p q = two_clean (flaws_of_test tables s.left.scope p) (flaws_of_test tables s.right.scope q) (test_law tables (names_in s.left) p) (test_law tables (names_in s.right) q)

  abbrev IsFineLoop : BiLoop → Type 0
  IsFineLoop l =
      (IsTest tables (names_in s.left) l.tests.0 × IsTest tables (names_in s.right) l.tests.1)
      × ((IsTypedFormula tables true s.left.scope l.invs.0 × IsTypedFormula tables true s.right.scope l.invs.1)
      × (typed.IsRelInBody tables (typed_sides s) l.rel × (typed.IsRelInBody tables (typed_sides s) l.guards.0 × typed.IsRelInBody tables (typed_sides s) l.guards.1)))

  loop_law : (l : BiLoop) → IsFineLoop l ↔ IsClean (flaws_of_loop tables s l)
  loop_law l =
      two_clean _ _ (tests_law l.tests.0 l.tests.1)
      (two_clean _ _ (two_clean (flaws_of_formula tables true s.left.scope l.invs.0) (flaws_of_formula tables true s.right.scope l.invs.1) (formula_law tables true s.left.scope l.invs.0) (formula_law tables true s.right.scope l.invs.1))
      (two_clean _ _ (relation_law l.rel) (two_clean _ _ (relation_law l.guards.0) (relation_law l.guards.1))))

  -- a command that runs on both sides
  joint_law : (c : Command) → (IsTypedCommand tables (names_in s.left) c × IsTypedCommand tables (names_in s.right) c) ↔ HasNoFault (λ pass. joint_fault tables pass s c)
  joint_law (At at f) =
      let left = form_law tables s.left at f in
      let right = form_law tables s.right at f in
      let flaws = clean_both (flaws_of_form tables s.left f) (flaws_of_form tables s.right f) in
      let place = no_fault_at at (either (flaws_of_form tables s.left f) (flaws_of_form tables s.right f)) in
      let inner = no_fault_in_both (λ pass. inner_fault tables pass s.left f) (λ pass. inner_fault tables pass s.right f) in
      let sum = no_fault_in_both (λ pass. fault_at pass at (either (flaws_of_form tables s.left f) (flaws_of_form tables s.right f))) (λ pass. first_of (inner_fault tables pass s.left f) (inner_fault tables pass s.right f)) in (
        λ h.
            let x = left.0 h.0 in
            let y = right.0 h.1 in
            sum.1 (place.1 (flaws.1 (x.0, y.0)), inner.1 (x.1, y.1)),
        λ h.
            let a = sum.0 h in
            let b = flaws.0 (place.0 a.0) in
            let d = inner.0 a.1 in
            (left.1 (b.0, d.0), right.1 (b.1, d.1)),
      )

  abbrev IsFineBiform : BiForm → Type 0
  IsFineBiform f = IsClean (flaws_of_biform tables s f) × HasNoFault (λ pass. inner_bifault tables pass s f)

  while_law : (at : ℕ) (l : BiLoop) (b : BiBlock) → (IsTypedBiblock tables (typed_sides s) b ↔ HasNoFault (λ pass. biblock_fault tables pass s b)) → IsTypedBicommand tables (typed_sides s) (BiAt at (BiWhile l b)) ↔ IsFineBiform (BiWhile l b)
  while_law at l b body =
      let loop = loop_law l in (
        λ h. (loop.0 ((h.0, h.1), ((h.2, h.3), (h.4, (h.5, h.6)))), body.0 h.7),
        λ h. let x = loop.1 h.0 in (x.0.0, x.0.1, x.1.0.0, x.1.0.1, x.1.1.0, x.1.1.1.0, x.1.1.1.1, body.1 h.1),
      )

  mutual
    biform_law : (at : ℕ) (f : BiForm) → IsTypedBicommand tables (typed_sides s) (BiAt at f) ↔ IsFineBiform f
    biform_law at (Split a b) =
        let sum = iff_then (iff_both (block_law tables s.left a) (block_law tables s.right b)) (iff_back (no_fault_in_both (λ pass. block_fault tables pass s.left a) (λ pass. block_fault tables pass s.right b))) in
        (λ h. (refl, sum.0 h), λ h. sum.1 h.1)
    biform_law at (Sync c) = (λ h. (refl, (joint_law c).0 h), λ h. (joint_law c).1 h.1)
    biform_law at (SyncCall c j) =
        let joint = joint_law c in
        let by = iff_then (call_by_law s j c) (where_unknown (is_call_by s j c)) in
        (λ h. (by.0 h.2, joint.0 (h.0, h.1)), λ h. let x = joint.1 h.1 in (x.0, x.1, by.1 h.0))
    biform_law at (BiIf p q a b) =
        let tests = tests_law p q in
        let sum = iff_then (iff_both (biblock_law a) (biblock_law b)) (iff_back (no_fault_in_both (λ pass. biblock_fault tables pass s a) (λ pass. biblock_fault tables pass s b))) in
        (λ h. (tests.0 (h.0, h.1), sum.0 (h.2, h.3)), λ h. let x = tests.1 h.0 in let y = sum.1 h.1 in (x.0, x.1, y.0, y.1))
    biform_law at (BiWhile l b) = while_law at l b (biblock_law b)
    biform_law at (Link x y) = (λ h. ((link_law x y).0 h, (refl, refl)), λ h. (link_law x y).1 h.0)
    biform_law at (Note a) = (λ h. ((relation_law a).0 h, (refl, refl)), λ h. (relation_law a).1 h.0)

    bicommand_law : (c : BiCommand) → IsTypedBicommand tables (typed_sides s) c ↔ HasNoFault (λ pass. bicommand_fault tables pass s c)
    bicommand_law (BiAt at f) =
        let form = biform_law at f in
        let place = no_fault_at at (flaws_of_biform tables s f) in
        let sum = no_fault_in_both (λ pass. fault_at pass at (flaws_of_biform tables s f)) (λ pass. inner_bifault tables pass s f) in
        (λ h. let x = form.0 h in sum.1 (place.1 x.0, x.1), λ h. let a = sum.0 h in form.1 (place.0 a.0, a.1))

    biblock_law : (b : BiBlock) → IsTypedBiblock tables (typed_sides s) b ↔ HasNoFault (λ pass. biblock_fault tables pass s b)
    biblock_law BiEnd = (λ h. (refl, refl), λ h. tt)
    biblock_law (BiThen c cs) = iff_then (iff_both (bicommand_law c) (biblock_law cs)) (iff_back (no_fault_in_both (λ pass. bicommand_fault tables pass s c) (λ pass. biblock_fault tables pass s cs)))

  -- ---- weavings

  act_law : (a : Act) → IsTypedAct tables (typed_sides s) a ↔ IsClean (flaws_of_act tables s a)
  act_law (ActSeq i j) = (λ h. refl, λ h. tt)
  act_law ActSync = (λ h. refl, λ h. tt)
  act_law (ActCall j) = where_unknown (is_some (find_judgement j s.judgements))
  act_law ActIf = (λ h. refl, λ h. tt)
  act_law (ActWhile a m n) =
      let sum = two_clean (flaws_of_relation tables s a) (either (flaws_of_relation tables s m) (flaws_of_relation tables s n)) (relation_law a) (two_clean (flaws_of_relation tables s m) (flaws_of_relation tables s n) (relation_law m) (relation_law n)) in
      (λ h. sum.0 (h.0, (h.1, h.2)), λ h. let x = sum.1 h in (x.0, x.1.0, x.1.1))
  act_law (ActLink x y) = link_law x y
  act_law (ActNote a) = relation_law a
  act_law ActDrop = (λ h. refl, λ h. tt)

  align_by : (a : Align) → IsTypedAlign tables (typed_sides s) a ↔ HasNoFault (λ pass. align_fault tables pass s a)
  align_by (Given b) = biblock_law b
  align_by (Woven ts) =
      iff_then (iff_all (λ t. IsTypedAct tables (typed_sides s) t.act) (λ t. HasNoFault (λ pass. step_fault tables pass s t)) (λ t. iff_then (act_law t.act) (iff_back (no_fault_at t.at (flaws_of_act tables s t.act)))) ts)
      (iff_back (no_fault_in_list (λ pass. step_fault tables pass s) ts))

pub align_law : (tables : Tables) (s : Sides) (a : Align) → IsTypedAlign tables (typed_sides s) a ↔ HasNoFault (λ pass. align_fault tables pass s a)
align_law tables s a = align_by tables s a
