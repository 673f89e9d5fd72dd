-- The reader of a repetition is exact.
use Rattle.std.proofs.Common.{◌≡◌, ℕ, zero, suc, ◌+◌, ◌<◌, ◌≤◌, Bool, true, false, if◌then◌else◌, List, [], ◌∷◌, ◌++◌, length, ◌⊎◌, inl, inr, refl, sym, ap, ◌∙◌, subst, append_assoc, arith}
use Rattle.std.specs.Prelude.{codes}
use Rattle.std.proofs.lemmas.List.{length-append}
use Rattle.rel_lang.specs.Tokens.{Token as Piece}
use Rattle.rel_lang.specs.Text.{CanBeSaid, Mark, element, repeated, listed, behind}
use Rattle.rel_lang.specs.Refusal.{Limits, GoesOn, AreWithin, Reason, Unexpected, TooDeep, TooMany, IsOverAt, reach}
use Rattle.rel_lexer.specs.declared.Token.{Token}
use Rattle.rel_lexer.specs.declared.Kind.{Kind}
use Rattle.rel_lexer.specs.declared.Kind.TheVariants as kind
use Rattle.rel_lexer.specs.declared.symbols.Symbol.TheVariants as symbol
use Rattle.rel_lexer.specs.Tokens.{tokens_of}
use Rattle.rel_parse.specs.Reading.{Reading, Got, Refused, Reader, then_read, unexpected, same_fixed, is_next, made, both, after, either, with_first, many_at, listed_at}
use Rattle.rel_parse.proofs.Exact.{HaveKinds, CanAllBeSaid, AreTold, Good, Refuses, Reads, AlwaysBegins, NeverBegins, SomeBegins, show_either, ShapeEither, IsShallow, IsTooDeep, ShapeAll, fixed_text, IsFixed}
use Rattle.rel_parse.proofs.Along.{all_join, all_left, goes_in, goes_out, within_all, told_join}
use Rattle.rel_parse.proofs.Both.{bind_got, bind_refused, compared, both_reads}
use Rattle.rel_parse.proofs.Either.{either_reads}
use Rattle.rel_parse.proofs.First.{numbered_length, numbered_said, said_numbered, numbered_told, numbered_goes, goes_numbered, element_is, element_reads, over_at, over_reads}
use Rattle.rel_parse.proofs.Made.{same_reads, named_reads, after_reads}
use Rattle.rel_parse.proofs.Single.{is_fixed, fixed_is}

-- ---- the first mark has a number

module _ (n : ℕ) (ms : List Mark) where
  pub element_length : length (element n ms) ≡ length ms
  element_length = subst (λ ns. length ns ≡ length ms) (element_is n ms) (numbered_length (λ m. m.depth) (λ m. n) ms)

  pub element_said : CanAllBeSaid ms → CanAllBeSaid (element n ms)
  element_said h = subst CanAllBeSaid (element_is n ms) (numbered_said (λ m. m.depth) (λ m. n) ms h)

  pub said_element : CanAllBeSaid (element n ms) → CanAllBeSaid ms
  said_element h = said_numbered (λ m. m.depth) (λ m. n) ms (subst CanAllBeSaid (sym (element_is n ms)) h)

  pub element_told : AreTold ms → AreTold (element n ms)
  element_told h = subst AreTold (element_is n ms) (numbered_told (λ m. m.depth) (λ m. n) ms h)

  pub element_goes : (ps : List Piece) (k : ℕ) → GoesOn k ms ps → GoesOn k (element n ms) ps
  element_goes ps k g = subst (λ ns. GoesOn k ns ps) (element_is n ms) (numbered_goes (λ m. m.depth) (λ m. n) ms ps k g)

  pub goes_element : (ps : List Piece) (k : ℕ) → GoesOn k (element n ms) ps → GoesOn k ms ps
  goes_element ps k g = goes_numbered (λ m. m.depth) (λ m. n) ms ps k (subst (λ ns. GoesOn k ns ps) (sym (element_is n ms)) g)

-- ---- none or a first and others, before what follows them

module _ (A B : Type 0) where
  abbrev First : Type 0
  First = A × (List A × B)

  abbrev all_of : First ⊎ B → List A × B
  all_of (inl w) = (w.0 ∷ w.1.0, w.1.1)
  all_of (inr y) = ([], y)

  abbrev first_or : List A × B → First ⊎ B
  first_or ([], y) = inr y
  first_or (x ∷ xs, y) = inl (x, (xs, y))

-- ---- readers that answer the same

module _ {A B : Type 0} (b : Reader B) where
  module _ (m : Reader (List A)) {W : Type 0} (i : First A B → W) (h : W → List A × B) (same : (w : First A B) → h (i w) ≡ (w.0 ∷ w.1.0, w.1.1)) where
    abbrev as_first : A → Reading (List A × B) → Reading (First A B)
    as_first x read = then_read read (λ q behind. Got (x, q) behind)

    abbrev chosen : Reading (First A B) → Reading (List A × B)
    chosen read = let one_kind : Reading W = then_read read (λ w behind. Got (i w) behind) in then_read one_kind (λ w behind. Got (h w) behind)

    abbrev with_last : List A → Reading B → Reading (List A × B)
    with_last xs read = then_read read (λ y behind. Got (xs, y) behind)

    abbrev with_rest : Reading (List A) → Reading (List A × B)
    with_rest read = then_read read (λ xs rest. with_last xs (b rest))

    same_last : (x : A) (xs : List A) (read : Reading B) → chosen (as_first x (with_last xs read)) ≡ with_last (x ∷ xs) read
    same_last x xs (Refused why left) = refl
    same_last x xs (Got y behind) = ap (λ q. Got q behind) (same (x, (xs, y)))

    same_rest : (x : A) (read : Reading (List A)) → chosen (as_first x (with_rest read)) ≡ with_rest (with_first x read)
    same_rest x (Refused why left) = refl
    same_rest x (Got xs rest) = same_last x xs (b rest)

    same_first : (read : Reading A) → chosen (then_read read (λ x rest. as_first x (with_rest (m rest)))) ≡ with_rest (then_read read (λ x rest. with_first x (m rest)))
    same_first (Refused why left) = refl
    same_first (Got x rest) = same_rest x (m rest)

  same_none : {W : Type 0} (i : B → W) (h : W → List A × B) (same : (y : B) → h (i y) ≡ ([], y)) (read : Reading B)
      → (let one_kind : Reading W = then_read read (λ y behind. Got (i y) behind) in then_read one_kind (λ w behind. Got (h w) behind)) ≡ then_read read (λ y behind. Got ([], y) behind)
  same_none i h same (Refused why left) = refl
  same_none i h same (Got y behind) = ap (λ q. Got q behind) (same y)

module _ (l : Limits) {A B : Type 0} (show : A → List Mark) (Shape : A → Type 0) (r : Reader A) (show2 : B → List Mark) (Shape2 : B → Type 0) (b : Reader B) (p : List Token → Bool)
    (one : Reads l show Shape r) (two : Reads l show2 Shape2 b) (first : AlwaysBegins show Shape p) (other : NeverBegins show2 Shape2 p) where
  abbrev show_many : ℕ → List A × B → List Mark
  show_many n q = repeated show n q.0 ++ show2 q.1

  abbrev show_first : ℕ → A × (List A × B) → List Mark
  show_first n w = element n (show w.0) ++ show_many (suc n) w.1

  abbrev ShapeFirst : A × (List A × B) → Type 0
  ShapeFirst w = Shape w.0 × ShapeAll Shape Shape2 w.1

  first_begins : (n : ℕ) → AlwaysBegins (show_first n) ShapeFirst p
  first_begins n w ts kinds good goes =
      let some = one.some_mark w.0 in
      let same = element_length n (show w.0) in
      first w.0 ts kinds (good.0.0, said_element n (show w.0) (all_left (λ m. CanBeSaid m.said) (element n (show w.0)) (show_many (suc n) w.1) good.1)) (goes_element n (show w.0) (tokens_of ts) 1 (goes_out (element n (show w.0)) (show_many (suc n) w.1) (tokens_of ts) 1 (omega arith) goes))

  back_first : (w : First A B ⊎ B) → first_or A B (all_of A B w) ≡ w
  back_first (inl w) = refl
  back_first (inr y) = refl

  back_all : (q : List A × B) → all_of A B (first_or A B q) ≡ q
  back_all ([], y) = refl
  back_all (x ∷ xs, y) = refl

  shown_all : (n : ℕ) (q : List A × B) → show_either (show_first n) show2 (first_or A B q) ≡ show_many n q
  shown_all n ([], y) = refl
  shown_all n (x ∷ xs, y) = sym (append_assoc (element n (show x)) (repeated show (suc n) xs) (show2 y))

  shape_to : (q : List A × B) → ShapeEither ShapeFirst Shape2 (first_or A B q) → ShapeAll Shape Shape2 q
  shape_to ([], y) h = (tt, h)
  shape_to (x ∷ xs, y) h = ((h.0, h.1.0), h.1.1)

  shape_from : (q : List A × B) → ShapeAll Shape Shape2 q → ShapeEither ShapeFirst Shape2 (first_or A B q)
  shape_from ([], y) h = h.1
  shape_from (x ∷ xs, y) h = (h.0.0, (h.0.1, h.1))

  by_one : (n : ℕ) (rf : Reader (First A B)) → Reads l (show_first n) ShapeFirst rf → Reads l (show_many n) (ShapeAll Shape Shape2) (made (all_of A B) (either p (made inl rf) (made inr b)))
  by_one n rf reads =
      let step = either_reads l (show_first n) ShapeFirst rf show2 Shape2 b p reads two (first_begins n) other in
      subst (λ s. Reads l s (ShapeAll Shape Shape2) (made (all_of A B) (either p (made inl rf) (made inr b)))) (λ i q. shown_all n q i)
      (named_reads l (show_either (show_first n) show2) (ShapeEither ShapeFirst Shape2) (either p (made inl rf) (made inr b)) (ShapeAll Shape Shape2) (all_of A B) (first_or A B) step back_first back_all shape_to shape_from)

  -- some first and what follows
  good_first : (n : ℕ) (x : A) (q : List A × B) → Good show Shape x → Good (show_many (suc n)) (ShapeAll Shape Shape2) q → Good (show_first n) ShapeFirst (x, q)
  good_first n x q g h = ((g.0, h.0), all_join (λ m. CanBeSaid m.said) (element n (show x)) (show_many (suc n) q) (element_said n (show x) g.1) h.1)

  none : List A × B
  none = ([], two.one.0)

  good_none : (n : ℕ) → Good (show_many n) (ShapeAll Shape Shape2) none
  unfolding none
  good_none n = ((tt, two.one.1.0), two.one.1.1)

  repeated_told : (n : ℕ) (xs : List A) (y : B) → AreTold (repeated show n xs ++ show2 y)
  repeated_told n [] y = two.told y
  repeated_told n (x ∷ xs) y =
      subst AreTold (sym (append_assoc (element n (show x)) (repeated show (suc n) xs) (show2 y)))
      (told_join (element n (show x)) (repeated show (suc n) xs ++ show2 y) (element_told n (show x) (one.told x)) (repeated_told (suc n) xs y))

  first_told : (n : ℕ) (w : First A B) → AreTold (show_first n w)
  first_told n w = told_join (element n (show w.0)) (show_many (suc n) w.1) (element_told n (show w.0) (one.told w.0)) (repeated_told (suc n) w.1.0 w.1.1)

  first_mark : (n : ℕ) (w : First A B) → 0 < length (show_first n w)
  first_mark n w =
      let e = length-append (element n (show w.0)) (show_many (suc n) w.1) in
      let same = element_length n (show w.0) in
      omega (arith, one.some_mark w.0)

  more_same : (n : ℕ) (ts : List Token) → made (all_of A B) (either p (made inl (both r (both (many_at p r n) b))) (made inr b)) ts ≡ both (many_at p r (suc n)) b ts
  unfolding many_at
  more_same n ts =
      elim (p ts) as (λ c. then_read (if c then made inl (both r (both (many_at p r n) b)) ts else made inr b ts) (λ w rest. Got (all_of A B w) rest)
      ≡ then_read (if c then then_read (r ts) (λ x rest. with_first x (many_at p r n rest)) else Got [] ts) (λ xs rest. then_read (b rest) (λ y behind. Got (xs, y) behind))) [
        | true ↦ same_first b (many_at p r n) inl (all_of A B) (λ w. refl) (r ts)
        | false ↦ same_none b inr (all_of A B) (λ y. refl) (b ts)
      ]

  full_same : (ts : List Token) → made (all_of A B) (either p (made inl (over_at TooMany p)) (made inr b)) ts ≡ both (many_at p r 0) b ts
  unfolding many_at
  full_same ts =
      elim (p ts) as (λ c. then_read (if c then then_read {A = First A B} (if c then Refused TooMany (length ts) else unexpected ts) (λ w rest. Got (inl w) rest) else made inr b ts) (λ w rest. Got (all_of A B w) rest)
      ≡ then_read (if c then Refused TooMany (length ts) else Got [] ts) (λ xs rest. then_read (b rest) (λ y behind. Got (xs, y) behind))) [
        | true ↦ refl
        | false ↦ same_none b inr (all_of A B) (λ y. refl) (b ts)
      ]

  module _ (passes : SomeBegins show Shape p) (shallow : (x : A) → IsShallow l (show x)) where
    first_passes : (n : ℕ) → SomeBegins (show_first n) ShapeFirst p
    first_passes n ts kinds is =
        let h = passes ts kinds is in
        ((h.0, none), good_first n h.0 none h.1 (good_none (suc n)), goes_in (element n (show h.0)) (show_many (suc n) none) (tokens_of ts) 1 (element_goes n (show h.0) (tokens_of ts) 1 h.2))

    one_too_many : (n : ℕ) (ms ns : List Mark) → l.most < n → 0 < length ms → IsShallow l ms → IsOverAt l TooMany 0 (element n ms ++ ns)
    one_too_many n [] ns lt some s = absurd (omega arith)
    one_too_many n (m ∷ ms) ns lt some s = (s.0, lt)

    many_by : (left n : ℕ) → n + left ≡ suc l.most → Reads l (show_many n) (ShapeAll Shape Shape2) (both (many_at p r left) b)
    many_by zero n sum =
        same_reads l (show_many n) (ShapeAll Shape Shape2) (made (all_of A B) (either p (made inl (over_at TooMany p)) (made inr b))) (both (many_at p r 0) b) full_same
        (by_one n (over_at TooMany p)
        (over_reads l (show_first n) ShapeFirst TooMany p ((one.one.0, none), good_first n one.one.0 none one.one.1 (good_none (suc n))) (first_mark n) (first_told n)
        (λ w. one_too_many n (show w.0) (show_many (suc n) w.1) (omega arith) (one.some_mark w.0) (shallow w.0)) (first_begins n) (first_passes n)))
    many_by (suc left) n sum =
        same_reads l (show_many n) (ShapeAll Shape Shape2) (made (all_of A B) (either p (made inl (both r (both (many_at p r left) b))) (made inr b))) (both (many_at p r (suc left)) b) (more_same left)
        (by_one n (both r (both (many_at p r left) b))
        (both_reads l (λ x. element n (show x)) Shape r (show_many (suc n)) (ShapeAll Shape Shape2) (both (many_at p r left) b)
        (element_reads l show Shape r n (omega arith) shallow one) (many_by left (suc n) (omega arith))))

-- the elements from number n on
pub many_reads : (l : Limits) {A B : Type 0} (show : A → List Mark) (Shape : A → Type 0) (r : Reader A) (show2 : B → List Mark) (Shape2 : B → Type 0) (b : Reader B) (p : List Token → Bool) (n left : ℕ)
    → n + left ≡ suc l.most → 0 < n → ((x : A) → IsShallow l (show x))
    → Reads l show Shape r → Reads l show2 Shape2 b → AlwaysBegins show Shape p → SomeBegins show Shape p → NeverBegins show2 Shape2 p
    → Reads l {X = List A × B} (λ q. repeated show n q.0 ++ show2 q.1) (ShapeAll Shape Shape2) (both (many_at p r left) b)
many_reads l show Shape r show2 Shape2 b p n left sum above shallow one two first passes other = many_by l show Shape r show2 Shape2 b p one two first other passes shallow left n sum

-- ---- elements that are too deep

module _ (l : Limits) {A B : Type 0} (show : A → List Mark) (Shape : A → Type 0) (r : Reader A) (show2 : B → List Mark) (Shape2 : B → Type 0) (b : Reader B) (p : List Token → Bool)
    (one : Reads l show Shape r) (two : Reads l show2 Shape2 b) (first : AlwaysBegins show Shape p) (other : NeverBegins show2 Shape2 p) (deep : (x : A) → IsTooDeep l (show x)) where
  abbrev deep_first : A × (List A × B) → List Mark
  deep_first = show_first l show Shape r show2 Shape2 b p one two first other 1

  abbrev ShapeDeep : A × (List A × B) → Type 0
  ShapeDeep = ShapeFirst l show Shape r show2 Shape2 b p one two first other

  not_within : (ms : List Mark) (n : ℕ) → 0 < n → 0 < length ms → IsTooDeep l ms → AreWithin l n ms → ⊥
  not_within [] n some long d w = omega arith
  not_within (m ∷ ms) zero some long d w = omega arith
  not_within (m ∷ ms) (suc n) some long d w = omega (arith, w.0.0)

  still_deep : (n : ℕ) (ms ns : List Mark) → 0 < length ms → IsTooDeep l ms → IsTooDeep l (element n ms ++ ns)
  still_deep n [] ns long d = absurd (omega arith)
  still_deep n (m ∷ ms) ns long d = d

  first_deep : (w : A × (List A × B)) → IsTooDeep l (deep_first w)
  first_deep w = still_deep 1 (show w.0) (repeated show 2 w.1.0 ++ show2 w.1.1) (one.some_mark w.0) (deep w.0)

  over_still : (why : Reason) (n : ℕ) (ms ns : List Mark) → IsTooDeep l ms → IsOverAt l why 0 ms → IsOverAt l why 0 (element n ms ++ ns)
  over_still why n [] ns d o = absurd o
  over_still Unexpected n (m ∷ ms) ns d o = o
  over_still TooDeep n (m ∷ ms) ns d o = o
  over_still TooMany n (m ∷ ms) ns d o = absurd (omega (arith, o.0))

  deep_refused : (w : Reader (List A × B)) (ts : List Token) (why : Reason) (left : ℕ) → HaveKinds ts → both r w ts ≡ Refused why left → Refuses l deep_first ShapeDeep why left ts
  deep_refused w ts why left kinds e =
      elim (bind_refused (r ts) (λ x mid. then_read (w mid) (λ q behind. Got (x, q) behind)) why left e) [
        | inl k ↦
            let h = one.refused ts why left kinds k in
            let y = h.begun.0 in
            let q : List A × B = ([], two.one.0) in
            let none : h.passed ≡ 0 = elim (compared h.passed 0) [ inl le ↦ omega arith | inr lt ↦ absurd (not_within (show y) h.passed lt (one.some_mark y) (deep y) h.begun.3) ] in
            record {
              passed = h.passed;
              behind = h.behind;
              begun = (
                (y, q),
                ((h.begun.1.0, (tt, two.one.1.0)), all_join (λ m. CanBeSaid m.said) (element 1 (show y)) (show2 two.one.0) (element_said 1 (show y) h.begun.1.1) two.one.1.1),
                goes_in (element 1 (show y)) (show2 two.one.0) (tokens_of ts) (reach why h.passed) (element_goes 1 (show y) (tokens_of ts) (reach why h.passed) h.begun.2),
                subst (λ n. AreWithin l n (element 1 (show y) ++ show2 two.one.0)) (sym none) tt,
                let e = length-append (element 1 (show y)) (show2 two.one.0) in
                    let same = element_length 1 (show y) in
                    omega (arith, h.begun.4),
              );
              stuck = λ v good goes.
                  let x = v.0 in
                  let long = one.some_mark x in
                  let same = element_length 1 (show x) in
                  let ns = repeated show 2 v.1.0 ++ show2 v.1.1 in
                  let good_x : Good show Shape x = (good.0.0, said_element 1 (show x) (all_left (λ m. CanBeSaid m.said) (element 1 (show x)) ns good.1)) in
                  let enough : suc h.passed ≤ length (element 1 (show x)) = omega arith in
                  let o = h.stuck x good_x (goes_element 1 (show x) (tokens_of ts) (suc h.passed) (goes_out (element 1 (show x)) ns (tokens_of ts) (suc h.passed) enough goes)) in
                  subst (λ n. IsOverAt l why n (element 1 (show x) ++ ns)) (sym none) (over_still why 1 (show x) ns (deep x) (subst (λ n. IsOverAt l why n (show x)) none o));
            }
        | inr s ↦
            let f = one.found ts s.1 s.0 kinds s.2 in
            absurd (not_within (show s.0) (length (show s.0)) (one.some_mark s.0) (one.some_mark s.0) (deep s.0) (within_all l (show s.0) (length (show s.0)) f.2))
      ]

  deep_reads : (w : Reader (List A × B)) → Reads l deep_first ShapeDeep (both r w)
  deep_reads w = record {
    one = ((one.one.0, ([], two.one.0)), ((one.one.1.0, (tt, two.one.1.0)), all_join (λ m. CanBeSaid m.said) (element 1 (show one.one.0)) (show2 two.one.0) (element_said 1 (show one.one.0) one.one.1.1) two.one.1.1));
    some_mark = first_mark l show Shape r show2 Shape2 b p one two first other 1;
    told = first_told l show Shape r show2 Shape2 b p one two first other 1;
    sole = λ x gx y ts n kinds gy end within goes along.
        let mx = first_mark l show Shape r show2 Shape2 b p one two first other 1 x in
        let my = first_mark l show Shape r show2 Shape2 b p one two first other 1 y in
        let some : 0 < n = elim end [ inl h ↦ omega arith | inr h ↦ omega arith ] in
        absurd (not_within (deep_first x) n some mx (first_deep x) within);
    found = λ ts rest x kinds e.
        let s = bind_got (r ts) (λ x mid. then_read (w mid) (λ q behind. Got (x, q) behind)) x rest e in
        let f = one.found ts s.1 s.0 kinds s.2 in
        absurd (not_within (show s.0) (length (show s.0)) (one.some_mark s.0) (one.some_mark s.0) (deep s.0) (within_all l (show s.0) (length (show s.0)) f.2));
    refused = deep_refused w;
  }

-- the same where the elements are too deep to be read
pub many_none_reads : (l : Limits) {A B : Type 0} (show : A → List Mark) (Shape : A → Type 0) (r : Reader A) (show2 : B → List Mark) (Shape2 : B → Type 0) (b : Reader B) (p : List Token → Bool) (left : ℕ)
    → 0 < left → ((x : A) → IsTooDeep l (show x))
    → Reads l show Shape r → Reads l show2 Shape2 b → AlwaysBegins show Shape p → NeverBegins show2 Shape2 p
    → Reads l {X = List A × B} (λ q. repeated show 1 q.0 ++ show2 q.1) (ShapeAll Shape Shape2) (both (many_at p r left) b)
many_none_reads l show Shape r show2 Shape2 b p zero above deep one two first other = absurd (omega arith)
many_none_reads l {A = A} {B = B} show Shape r show2 Shape2 b p (suc left) above deep one two first other =
    same_reads l (λ q. repeated show 1 q.0 ++ show2 q.1) (ShapeAll Shape Shape2) (made (all_of A B) (either p (made inl (both r (both (many_at p r left) b))) (made inr b))) (both (many_at p r (suc left)) b)
    (more_same l show Shape r show2 Shape2 b p one two first other left)
    (by_one l show Shape r show2 Shape2 b p one two first other 1 (both r (both (many_at p r left) b)) (deep_reads l show Shape r show2 Shape2 b p one two first other deep (both (many_at p r left) b)))

-- ---- with commas between them

abbrev comma : Kind
comma = kind.Symbol symbol.Comma

comma_begins : {A : Type 0} (show : A → List Mark) (Shape : A → Type 0) → AlwaysBegins (behind (codes ",") show) Shape (is_next comma)
comma_begins show Shape x [] kinds good goes = absurd goes
comma_begins show Shape x (t ∷ ts) kinds good goes = fixed_is t comma tt kinds.0 goes.0

comma_passes : {A : Type 0} (show : A → List Mark) (Shape : A → Type 0) → (x : A) × Good show Shape x → SomeBegins (behind (codes ",") show) Shape (is_next comma)
comma_passes show Shape some [] kinds is = absurd cc
comma_passes show Shape some (t ∷ ts) kinds is = (some.0, (some.1.0, (tt, some.1.1)), (is_fixed t comma tt kinds.0 is, tt, tt, tt))

close_no_comma : (close : Kind) → IsFixed close → (fixed_text close ≡ codes "," → ⊥) → (ts : List Token) → HaveKinds ts → is_next close ts ≡ true → is_next comma ts ≡ false
close_no_comma close fixed apart [] kinds is = refl
close_no_comma close fixed apart (t ∷ ts) kinds is =
    elim (same_fixed t.kind comma) as (λ c. same_fixed t.kind comma ≡ c → c ≡ false) [
      | true ↦ (λ other. absurd (apart (is_fixed t close fixed kinds.0 is ∙ sym (is_fixed t comma tt kinds.0 other))))
      | false ↦ (λ other. refl)
    ] refl

module _ {A B : Type 0} where
  abbrev list_of : B ⊎ (A × (List A × B)) → List A × B
  list_of (inl y) = ([], y)
  list_of (inr w) = (w.0 ∷ w.1.0, w.1.1)

  abbrev none_or : List A × B → B ⊎ (A × (List A × B))
  none_or ([], y) = inl y
  none_or (x ∷ xs, y) = inr (x, (xs, y))

  back_none : (w : B ⊎ (A × (List A × B))) → none_or (list_of w) ≡ w
  back_none (inl y) = refl
  back_none (inr w) = refl

  back_list : (q : List A × B) → list_of (none_or q) ≡ q
  back_list ([], y) = refl
  back_list (x ∷ xs, y) = refl

module _ (l : Limits) {A B : Type 0} (show : A → List Mark) (Shape : A → Type 0) (r : Reader A) (show2 : B → List Mark) (Shape2 : B → Type 0) (b : Reader B) (close : Kind) (left : ℕ)
    (all : left ≡ l.most) (fixed : IsFixed close) (one : Reads l show Shape r) (two : Reads l show2 Shape2 b) (other : NeverBegins show Shape (is_next close))
    (closes : AlwaysBegins show2 Shape2 (is_next close)) (apart : fixed_text close ≡ codes "," → ⊥) where
  abbrev show_others : List A × B → List Mark
  show_others q = repeated (behind (codes ",") show) 1 q.0 ++ show2 q.1

  abbrev others : Reader (List A × B)
  others = both (many_at (is_next comma) (after comma r) left) b

  others_read : Reads l show_others (ShapeAll Shape Shape2) others
  others_read =
      many_reads l (behind (codes ",") show) Shape (after comma r) show2 Shape2 b (is_next comma) 1 left (omega arith) (omega arith) (λ x. (omega arith, refl))
      (after_reads l show Shape r comma tt one) two (comma_begins show Shape) (comma_passes show Shape one.one)
      (λ y ts kinds good goes. close_no_comma close fixed apart ts kinds (closes y ts kinds good goes))

  abbrev show_one : A × (List A × B) → List Mark
  show_one w = show w.0 ++ show_others w.1

  abbrev ShapeOne : A × (List A × B) → Type 0
  ShapeOne w = Shape w.0 × ShapeAll Shape Shape2 w.1

  one_never : NeverBegins show_one ShapeOne (is_next close)
  one_never w ts kinds good goes =
      let some = one.some_mark w.0 in
      other w.0 ts kinds (good.0.0, all_left (λ m. CanBeSaid m.said) (show w.0) (show_others w.1) good.1) (goes_out (show w.0) (show_others w.1) (tokens_of ts) 1 (omega arith) goes)

  shown_list : (q : List A × B) → show_either show2 show_one (none_or q) ≡ listed show q.0 ++ show2 q.1
  shown_list ([], y) = refl
  shown_list (x ∷ xs, y) = sym (append_assoc (show x) (repeated (behind (codes ",") show) 1 xs) (show2 y))

  list_to : (q : List A × B) → ShapeEither Shape2 ShapeOne (none_or q) → ShapeAll Shape Shape2 q
  list_to ([], y) h = (tt, h)
  list_to (x ∷ xs, y) h = ((h.0, h.1.0), h.1.1)

  list_from : (q : List A × B) → ShapeAll Shape Shape2 q → ShapeEither Shape2 ShapeOne (none_or q)
  list_from ([], y) h = h.1
  list_from (x ∷ xs, y) h = (h.0.0, (h.0.1, h.1))

  abbrev none_or_one : Reader (B ⊎ (A × (List A × B)))
  none_or_one = either (is_next close) (made inl b) (made inr (both r others))

  list_same : (ts : List Token) → made list_of none_or_one ts ≡ both (listed_at close r left) b ts
  unfolding listed_at
  list_same ts =
      elim (is_next close ts) as (λ c. then_read (if c then made inl b ts else made inr (both r others) ts) (λ w rest. Got (list_of w) rest)
      ≡ then_read {B = List A × B} (if c then Got [] ts else then_read (r ts) (λ x rest. with_first x (many_at (is_next comma) (after comma r) left rest))) (λ xs rest. then_read {B = List A × B} (b rest) (λ y behind. Got (xs, y) behind))) [
        | true ↦ same_none b inl list_of (λ y. refl) (b ts)
        | false ↦ same_first b (many_at (is_next comma) (after comma r) left) inr list_of (λ w. refl) (r ts)
      ]

  list_reads : Reads l {X = List A × B} (λ q. listed show q.0 ++ show2 q.1) (ShapeAll Shape Shape2) (both (listed_at close r left) b)
  list_reads =
      let step = either_reads l show2 Shape2 b show_one ShapeOne (both r others) (is_next close) two (both_reads l show Shape r show_others (ShapeAll Shape Shape2) others one others_read) closes one_never in
      same_reads l (λ q. listed show q.0 ++ show2 q.1) (ShapeAll Shape Shape2) (made list_of none_or_one) (both (listed_at close r left) b) list_same
      (subst (λ s. Reads l s (ShapeAll Shape Shape2) (made list_of none_or_one)) (λ i q. shown_list q i)
      (named_reads l (show_either show2 show_one) (ShapeEither Shape2 ShapeOne) none_or_one (ShapeAll Shape Shape2) list_of none_or step back_none back_list list_to list_from))

pub listed_reads : (l : Limits) {A B : Type 0} (show : A → List Mark) (Shape : A → Type 0) (r : Reader A) (show2 : B → List Mark) (Shape2 : B → Type 0) (b : Reader B) (close : Kind) (left : ℕ)
    → left ≡ l.most → IsFixed close
    → Reads l show Shape r → Reads l show2 Shape2 b → NeverBegins show Shape (is_next close) → AlwaysBegins show2 Shape2 (is_next close)
    → (fixed_text close ≡ codes "," → ⊥)
    → Reads l {X = List A × B} (λ q. listed show q.0 ++ show2 q.1) (ShapeAll Shape Shape2) (both (listed_at close r left) b)
listed_reads l show Shape r show2 Shape2 b close left all fixed one two other first apart = list_reads l show Shape r show2 Shape2 b close left all fixed one two other first apart
