-- One reader or another is exact where each is, and the first tokens tell which.
use Rattle.std.proofs.Common.{◌≡◌, ℕ, suc, ◌+◌, ◌<◌, ◌≤◌, Bool, true, false, if◌then◌else◌, List, length, ◌⊎◌, inl, inr, refl, ap, subst, arith}
use Rattle.rel_lang.specs.Text.{Mark}
use Rattle.rel_lang.specs.Refusal.{Limits, GoesOn, Reason, IsOverAt}
use Rattle.rel_lexer.specs.declared.Token.{Token}
use Rattle.rel_lexer.specs.Tokens.{tokens_of}
use Rattle.rel_parse.specs.Reading.{Reading, Got, Refused, Reader, made, either}
use Rattle.rel_parse.proofs.Exact.{HaveKinds, Spelled, AreTold, Good, AllWithin, Refuses, IsSole, Reads, AlwaysBegins, NeverBegins, show_either, ShapeEither}
use Rattle.rel_parse.proofs.Along.{goes_less}
use Rattle.rel_parse.proofs.Both.{bind_got, bind_refused, got_is, got_not_refused}
use Rattle.rel_parse.proofs.Single.{clash}

-- Told by the first n tokens, of which those that are refused by the first reader are as many at least.
module _ (l : Limits) {A B : Type 0} (show : A → List Mark) (Shape : A → Type 0) (a : Reader A) (show2 : B → List Mark) (Shape2 : B → Type 0) (b : Reader B) (p : List Token → Bool)
    (one : Reads l show Shape a) (two : Reads l show2 Shape2 b) (n : ℕ) (long : (x : A) → n ≤ length (show x)) (longer : (y : B) → n ≤ length (show2 y)) (some : 0 < n)
    (first : AlwaysBegins show Shape p)
    (other : (y : B) (ts : List Token) → HaveKinds ts → Good show2 Shape2 y → GoesOn n (show2 y) (tokens_of ts) → p ts ≡ false)
    (late : (ts : List Token) (why : Reason) (left : ℕ) → HaveKinds ts → p ts ≡ true → a ts ≡ Refused why left → n + left ≤ suc (length ts)) where
  abbrev shown : A ⊎ B → List Mark
  shown = show_either show show2

  abbrev Shaped : A ⊎ B → Type 0
  Shaped = ShapeEither Shape Shape2

  abbrev chosen : Bool → List Token → Reading (A ⊎ B)
  chosen c ts = if c then made inl a ts else made inr b ts

  -- no tokens tell both
  apart : (x : A) (y : B) (ts : List Token) (k : ℕ) → HaveKinds ts → n ≤ k → Good show Shape x → Good show2 Shape2 y → GoesOn k (show x) (tokens_of ts) → GoesOn k (show2 y) (tokens_of ts) → ⊥
  apart x y ts k kinds le gx gy goes along =
      clash (p ts) (first x ts kinds gx (goes_less (show x) (tokens_of ts) 1 k (omega arith) goes)) (other y ts kinds gy (goes_less (show2 y) (tokens_of ts) n k le along))

  far : (i j k : ℕ) → n ≤ i → n ≤ j → (i ≤ k) ⊎ (j ≤ k) → n ≤ k
  far i j k li lj (inl h) = omega arith
  far i j k li lj (inr h) = omega arith

  told_sole : (x : A ⊎ B) → Good shown Shaped x → IsSole l shown Shaped x
  told_sole (inl x) gx (inl y) ts k kinds gy end within goes along = ap inl (one.sole x gx y ts k kinds gy end within goes along)
  told_sole (inl x) gx (inr y) ts k kinds gy end within goes along = absurd (apart x y ts k kinds (far _ _ k (long x) (longer y) end) gx gy goes along)
  told_sole (inr x) gx (inl y) ts k kinds gy end within goes along = absurd (apart y x ts k kinds (far _ _ k (longer x) (long y) end) gy gx along goes)
  told_sole (inr x) gx (inr y) ts k kinds gy end within goes along = ap inr (two.sole x gx y ts k kinds gy end within goes along)

  told_found : (ts rest : List Token) (x : A ⊎ B) → HaveKinds ts → either p (made inl a) (made inr b) ts ≡ Got x rest → Spelled (shown x) ts rest × Good shown Shaped x × AllWithin l shown Shaped x
  told_found ts rest x kinds e =
      let P : A ⊎ B → List Token → Type 0 = λ q us. Spelled (shown q) ts us × Good shown Shaped q × AllWithin l shown Shaped q in
      elim (p ts) as (λ c. chosen c ts ≡ Got x rest → P x rest) [
        | true ↦ (λ got.
            let s = bind_got (a ts) (λ y behind. Got (inl y) behind) x rest got in
            let same = got_is s.3 in
            subst (λ q. P q rest) same.0 (subst (P (inl s.0)) same.1 (one.found ts s.1 s.0 kinds s.2)))
        | false ↦ (λ got.
            let s = bind_got (b ts) (λ y behind. Got (inr y) behind) x rest got in
            let same = got_is s.3 in
            subst (λ q. P q rest) same.0 (subst (P (inr s.0)) same.1 (two.found ts s.1 s.0 kinds s.2)))
      ] e

  told_first : (ts : List Token) (why : Reason) (left : ℕ) → HaveKinds ts → p ts ≡ true → a ts ≡ Refused why left → Refuses l shown Shaped why left ts
  told_first ts why left kinds is e =
      let h = one.refused ts why left kinds e in
      let enough = late ts why left kinds is e in
      record {
        passed = h.passed;
        behind = h.behind;
        begun = (inl h.begun.0, h.begun.1, h.begun.2, h.begun.3, h.begun.4);
        stuck = λ q. elim q as (λ q. Good shown Shaped q → GoesOn (suc h.passed) (shown q) (tokens_of ts) → IsOverAt l why h.passed (shown q)) [
          | inl x ↦ (λ good goes. h.stuck x good goes)
          | inr y ↦ (λ good goes. absurd (clash (p ts) is (other y ts kinds good (goes_less (show2 y) (tokens_of ts) n (suc h.passed) (omega (arith, h.behind, enough)) goes))))
        ];
      }

  told_second : (ts : List Token) (why : Reason) (left : ℕ) → HaveKinds ts → p ts ≡ false → b ts ≡ Refused why left → Refuses l shown Shaped why left ts
  told_second ts why left kinds isnt e =
      let h = two.refused ts why left kinds e in
      record {
        passed = h.passed;
        behind = h.behind;
        begun = (inr h.begun.0, h.begun.1, h.begun.2, h.begun.3, h.begun.4);
        stuck = λ q. elim q as (λ q. Good shown Shaped q → GoesOn (suc h.passed) (shown q) (tokens_of ts) → IsOverAt l why h.passed (shown q)) [
          | inl x ↦ (λ good goes. absurd (clash (p ts) (first x ts kinds good (goes_less (show x) (tokens_of ts) 1 (suc h.passed) (omega arith) goes)) isnt))
          | inr y ↦ (λ good goes. h.stuck y good goes)
        ];
      }

  told_refused : (ts : List Token) (why : Reason) (left : ℕ) → HaveKinds ts → either p (made inl a) (made inr b) ts ≡ Refused why left → Refuses l shown Shaped why left ts
  told_refused ts why left kinds e =
      elim (p ts) as (λ c. p ts ≡ c → chosen c ts ≡ Refused why left → Refuses l shown Shaped why left ts) [
        | true ↦ (λ is refused.
            elim (bind_refused {B = A ⊎ B} (a ts) (λ y behind. Got (inl y) behind) why left refused) [ inl h ↦ told_first ts why left kinds is h | inr s ↦ absurd (got_not_refused s.3) ])
        | false ↦ (λ isnt refused.
            elim (bind_refused {B = A ⊎ B} (b ts) (λ y behind. Got (inr y) behind) why left refused) [ inl h ↦ told_second ts why left kinds isnt h | inr s ↦ absurd (got_not_refused s.3) ])
      ] refl e

  told_mark : (q : A ⊎ B) → 0 < length (shown q)
  told_mark (inl x) = one.some_mark x
  told_mark (inr y) = two.some_mark y

  told_told : (q : A ⊎ B) → AreTold (shown q)
  told_told (inl x) = one.told x
  told_told (inr y) = two.told y

  pub by_first : Reads l (show_either show show2) (ShapeEither Shape Shape2) (either p (made inl a) (made inr b))
  by_first = record {
    one = (inl one.one.0, one.one.1);
    some_mark = told_mark;
    told = told_told;
    sole = told_sole;
    found = told_found;
    refused = told_refused;
  }

-- told by the first token
pub either_reads : (l : Limits) {A B : Type 0} (show : A → List Mark) (Shape : A → Type 0) (a : Reader A) (show2 : B → List Mark) (Shape2 : B → Type 0) (b : Reader B) (p : List Token → Bool)
    → Reads l show Shape a → Reads l show2 Shape2 b → AlwaysBegins show Shape p → NeverBegins show2 Shape2 p
    → Reads l (show_either show show2) (ShapeEither Shape Shape2) (either p (made inl a) (made inr b))
either_reads l show Shape a show2 Shape2 b p one two first other =
    by_first l show Shape a show2 Shape2 b p one two 1 (λ x. omega (arith, one.some_mark x)) (λ y. omega (arith, two.some_mark y)) (omega arith) first (λ y ts kinds good goes. other y ts kinds good goes)
    (λ ts why left kinds is e. let h = one.refused ts why left kinds e in omega (arith, h.behind))

-- Told by the first two: those of the first kind have told marks in front, those of the other never that token behind their first.
pub told_reads : (l : Limits) {A B : Type 0} (show : A → List Mark) (Shape : A → Type 0) (a : Reader A) (show2 : B → List Mark) (Shape2 : B → Type 0) (b : Reader B) (p : List Token → Bool)
    → Reads l show Shape a → Reads l show2 Shape2 b → AlwaysBegins show Shape p
    → ((y : B) (ts : List Token) → HaveKinds ts → Good show2 Shape2 y → GoesOn 2 (show2 y) (tokens_of ts) → p ts ≡ false)
    → ((y : B) → 2 ≤ length (show2 y))
    → ((x : A) → 2 ≤ length (show x))
    → ((ts : List Token) (why : Reason) (left : ℕ) → HaveKinds ts → p ts ≡ true → a ts ≡ Refused why left → 1 + left ≤ length ts)
    → Reads l (show_either show show2) (ShapeEither Shape Shape2) (either p (made inl a) (made inr b))
told_reads l show Shape a show2 Shape2 b p one two first other long longer late =
    by_first l show Shape a show2 Shape2 b p one two 2 longer long (omega arith) first other (λ ts why left kinds is e. let h = late ts why left kinds is e in omega arith)
