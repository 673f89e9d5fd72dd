-- A reader is exact of the same trees otherwise named, and behind or before a reserved word or a symbol.
use Rattle.std.proofs.Common.{◌≡◌, ℕ, ◌<◌, List, [], ◌∷◌, ◌++◌, length, inl, inr, refl, sym, ap, ◌∙◌, subst}
use Rattle.rel_lang.specs.Text.{Mark, word}
use Rattle.rel_lang.specs.Refusal.{Limits, GoesOn, AreWithin, Reason, reach}
use Rattle.rel_lexer.specs.declared.Token.{Token}
use Rattle.rel_lexer.specs.declared.Kind.{Kind}
use Rattle.rel_lexer.specs.Tokens.{tokens_of}
use Rattle.rel_parse.specs.Reading.{Reading, Got, Refused, Reader, then_read, made, both, after, before, expect_at}
use Rattle.rel_parse.proofs.Exact.{HaveKinds, Spelled, Good, AllWithin, Refuses, IsSole, Reads, Always, fixed_text, IsFixed}
use Rattle.rel_parse.proofs.Both.{bind_got, bind_refused, got_is, got_not_refused, both_reads}
use Rattle.rel_parse.proofs.Single.{word_reads}

-- a reader that answers the same is exact too
pub same_reads : (l : Limits) {X : Type 0} (show : X → List Mark) (Shape : X → Type 0) (r s : Reader X) → ((ts : List Token) → r ts ≡ s ts) → Reads l show Shape r → Reads l show Shape s
same_reads l show Shape r s same one = subst (Reads l show Shape) (λ i ts. same ts i) one

module _ (l : Limits) {A X : Type 0} (show : A → List Mark) (Shape : A → Type 0) (r : Reader A) (Other : X → Type 0) (f : A → X) (g : X → A)
    (one : Reads l show Shape r) (back_a : (a : A) → g (f a) ≡ a) (back_x : (x : X) → f (g x) ≡ x)
    (to : (x : X) → Shape (g x) → Other x) (from : (x : X) → Other x → Shape (g x)) where
  abbrev other : X → List Mark
  other x = show (g x)

  good_made : (a : A) → Good show Shape a → Good other Other (f a)
  good_made a good = let h = subst (Good show Shape) (sym (back_a a)) good in (to (f a) h.0, h.1)

  good_of : (x : X) → Good other Other x → Good show Shape (g x)
  good_of x good = (from x good.0, good.1)

  made_sole : (x : X) → Good other Other x → IsSole l other Other x
  made_sole x gx y ts n kinds gy end within goes along =
      sym (back_x y) ∙ ap f (one.sole (g x) (good_of x gx) (g y) ts n kinds (good_of y gy) end within goes along) ∙ back_x x

  made_found : (ts rest : List Token) (x : X) → HaveKinds ts → made f r ts ≡ Got x rest → Spelled (other x) ts rest × Good other Other x × AllWithin l other Other x
  made_found ts rest x kinds e =
      let s = bind_got (r ts) (λ a mid. Got (f a) mid) x rest e in
      let same = got_is s.3 in
      let h = one.found ts s.1 s.0 kinds s.2 in
      let P : X → List Token → Type 0 = λ y us. Spelled (other y) ts us × Good other Other y × AllWithin l other Other y in
      let back = sym (back_a s.0) in
      subst (λ y. P y rest) same.0 (subst (P (f s.0)) same.1
      (subst (λ a. Spelled (show a) ts s.1) back h.0, good_made s.0 h.1, subst (AllWithin l show Shape) back h.2))

  made_refused : (ts : List Token) (why : Reason) (left : ℕ) → HaveKinds ts → made f r ts ≡ Refused why left → Refuses l other Other why left ts
  made_refused ts why left kinds e =
      elim (bind_refused (r ts) (λ a mid. Got (f a) mid) why left e) [
        | inl h ↦
            let refusal = one.refused ts why left kinds h in
            let y = refusal.begun.0 in
            let back = sym (back_a y) in
            record {
              passed = refusal.passed;
              behind = refusal.behind;
              begun = (
                f y,
                good_made y refusal.begun.1,
                subst (λ a. GoesOn (reach why refusal.passed) (show a) (tokens_of ts)) back refusal.begun.2,
                subst (λ a. AreWithin l refusal.passed (show a)) back refusal.begun.3,
                subst (λ a. refusal.passed < length (show a)) back refusal.begun.4,
              );
              stuck = λ x good goes. refusal.stuck (g x) (good_of x good) goes;
            }
        | inr s ↦ absurd (got_not_refused s.3)
      ]

  pub named_reads : Reads l (λ x. show (g x)) Other (made f r)
  named_reads = record {
    one = (f one.one.0, good_made one.one.0 one.one.1);
    some_mark = λ x. one.some_mark (g x);
    told = λ x. one.told (g x);
    sole = made_sole;
    found = made_found;
    refused = made_refused;
  }

-- the same trees otherwise named
pub made_reads : (l : Limits) {A X : Type 0} (show : A → List Mark) (Shape : A → Type 0) (r : Reader A) (other : X → List Mark) (Other : X → Type 0) (f : A → X) (g : X → A)
    → Reads l show Shape r → ((a : A) → g (f a) ≡ a) → ((x : X) → f (g x) ≡ x) → ((x : X) → show (g x) ≡ other x) → ((x : X) → Shape (g x) ≡ Other x)
    → Reads l other Other (made f r)
made_reads l show Shape r other Other f g one back_a back_x same shape =
    subst (λ s. Reads l s Other (made f r)) (λ i x. same x i)
    (named_reads l show Shape r Other f g one back_a back_x (λ x h. subst {A = Type 0} (λ T. T) (shape x) h) (λ x h. subst {A = Type 0} (λ T. T) (sym (shape x)) h))

-- ---- behind or before a word

module _ {A : Type 0} where
  abbrev with_unit : Unit {0} → Reading A → Reading (Unit {0} × A)
  with_unit u read = then_read read (λ x behind. Got (u, x) behind)

  abbrev without_unit : Reading (Unit {0} × A) → Reading A
  without_unit read = then_read read (λ p behind. Got p.1 behind)

  after_same : (read : Reading (Unit {0})) (r : Reader A) → without_unit (then_read read (λ u rest. with_unit u (r rest))) ≡ then_read read (λ u rest. r rest)
  after_same (Refused why left) r = refl
  after_same (Got u rest) r = elim (r rest) as (λ read. without_unit (with_unit u read) ≡ read) [ Got x behind ↦ refl | Refused why left ↦ refl ]

  abbrev before_unit : A → Reading (Unit {0}) → Reading (A × Unit {0})
  before_unit x read = then_read read (λ u behind. Got (x, u) behind)

  abbrev no_unit : Reading (A × Unit {0}) → Reading A
  no_unit read = then_read read (λ p behind. Got p.0 behind)

  before_same : (k : Kind) (read : Reading A) → no_unit (then_read read (λ x rest. before_unit x (expect_at k rest))) ≡ then_read read (λ x rest. then_read (expect_at k rest) (λ u behind. Got x behind))
  before_same k (Refused why left) = refl
  before_same k (Got x rest) = elim (expect_at k rest) as (λ read. no_unit (before_unit x read) ≡ then_read read (λ u behind. Got x behind)) [ Got u behind ↦ refl | Refused why left ↦ refl ]

pub after_reads : (l : Limits) {A : Type 0} (show : A → List Mark) (Shape : A → Type 0) (r : Reader A) (k : Kind) → IsFixed k
    → Reads l show Shape r → Reads l (λ x. word (fixed_text k) ∷ show x) Shape (after k r)
after_reads l {A = A} show Shape r k fixed one =
    let two = both_reads l (λ (u : Unit {0}). word (fixed_text k) ∷ []) Always (expect_at k) show Shape r (word_reads l k fixed) one in
    same_reads l (λ x. word (fixed_text k) ∷ show x) Shape (made (λ p. p.1) (both (expect_at k) r)) (after k r) (λ ts. after_same (expect_at k ts) r)
    (named_reads l (λ (p : Unit {0} × A). word (fixed_text k) ∷ show p.1) (λ p. Always p.0 × Shape p.1) (both (expect_at k) r) Shape (λ p. p.1) (λ x. (tt, x)) two (λ p. refl) (λ x. refl) (λ x h. h.1) (λ x h. (tt, h)))

pub before_reads : (l : Limits) {A : Type 0} (show : A → List Mark) (Shape : A → Type 0) (r : Reader A) (k : Kind) → IsFixed k
    → Reads l show Shape r → Reads l (λ x. show x ++ word (fixed_text k) ∷ []) Shape (before k r)
before_reads l {A = A} show Shape r k fixed one =
    let two = both_reads l show Shape r (λ (u : Unit {0}). word (fixed_text k) ∷ []) Always (expect_at k) one (word_reads l k fixed) in
    same_reads l (λ x. show x ++ word (fixed_text k) ∷ []) Shape (made (λ p. p.0) (both r (expect_at k))) (before k r) (λ ts. before_same k (r ts))
    (named_reads l (λ (p : A × Unit {0}). show p.0 ++ word (fixed_text k) ∷ []) (λ p. Shape p.0 × Always p.1) (both r (expect_at k)) Shape (λ p. p.0) (λ x. (x, tt)) two (λ p. refl) (λ x. refl) (λ x h. h.0) (λ x h. (h, tt)))
