-- What a tree's first mark has of its own: its place, its depth and its number. And the refusal of a tree for them.
use Rattle.std.proofs.Common.{◌≡◌, ℕ, zero, suc, ◌<◌, ◌≤◌, Bool, true, false, if◌then◌else◌, List, [], ◌∷◌, length, ◌⊎◌, inl, inr, refl, sym, ◌∙◌, subst, arith}
use Rattle.std.specs.List.{AllByRecursion}
use Rattle.rel_lang.specs.Text.{Mark, begins, tree, element}
use Rattle.rel_lang.specs.Tokens.{Token as Piece}
use Rattle.rel_lang.specs.Refusal.{Limits, IsWithin, GoesOn, AreWithin, Reason, Unexpected, TooDeep, TooMany, IsOver, IsOverAt, reach}
use Rattle.rel_lexer.specs.declared.Token.{Token}
use Rattle.rel_lexer.specs.Tokens.{tokens_of}
use Rattle.rel_parse.specs.Reading.{Reading, Got, Refused, Reader, unexpected, place_of, placed, too_deep_at}
use Rattle.rel_parse.proofs.Exact.{HaveKinds, Spelled, CanAllBeSaid, AreTold, Good, AllWithin, Refuses, IsSole, Reads, AlwaysBegins, SomeBegins, IsBare, IsShallow}
use Rattle.rel_parse.proofs.Along.{goes_less}
use Rattle.rel_parse.proofs.Both.{bind_got, bind_refused, got_is, got_not_refused}
use Rattle.rel_parse.proofs.Single.{clash, refused_is, refuses_along, refuses_first}

-- ---- another depth and number

-- the first mark with this depth and this number
abbrev pub numbered : (Mark → ℕ) → (Mark → ℕ) → List Mark → List Mark
numbered D E [] = []
numbered D E (m ∷ ms) = record m { depth = D m; element = E m } ∷ ms

abbrev pub FirstIs : (Mark → Type 0) → List Mark → Type 0
FirstIs P [] = Unit {0}
FirstIs P (m ∷ ms) = P m

module _ (D : Mark → ℕ) (E : Mark → ℕ) where
  pub numbered_length : (ms : List Mark) → length (numbered D E ms) ≡ length ms
  numbered_length [] = refl
  numbered_length (m ∷ ms) = refl

  pub numbered_said : (ms : List Mark) → CanAllBeSaid ms → CanAllBeSaid (numbered D E ms)
  numbered_said [] h = h
  numbered_said (m ∷ ms) h = h

  pub said_numbered : (ms : List Mark) → CanAllBeSaid (numbered D E ms) → CanAllBeSaid ms
  said_numbered [] h = h
  said_numbered (m ∷ ms) h = h

  pub numbered_told : (ms : List Mark) → AreTold ms → AreTold (numbered D E ms)
  numbered_told [] h = h
  numbered_told (m ∷ ms) h = h

  pub numbered_goes : (ms : List Mark) (ps : List Piece) (n : ℕ) → GoesOn n ms ps → GoesOn n (numbered D E ms) ps
  numbered_goes [] ps n g = g
  numbered_goes (m ∷ ms) ps zero g = tt
  numbered_goes (m ∷ ms) [] (suc n) g = g
  numbered_goes (m ∷ ms) (p ∷ ps) (suc n) g = g

  pub goes_numbered : (ms : List Mark) (ps : List Piece) (n : ℕ) → GoesOn n (numbered D E ms) ps → GoesOn n ms ps
  goes_numbered [] ps n g = g
  goes_numbered (m ∷ ms) ps zero g = tt
  goes_numbered (m ∷ ms) [] (suc n) g = g
  goes_numbered (m ∷ ms) (p ∷ ps) (suc n) g = g

  pub numbered_spelled : (ms : List Mark) (ts rest : List Token) → Spelled ms ts rest → Spelled (numbered D E ms) ts rest
  numbered_spelled [] ts rest s = s
  numbered_spelled (m ∷ ms) [] rest s = s
  numbered_spelled (m ∷ ms) (t ∷ ts) rest s = s

pub over_not_within : (l : Limits) (why : Reason) (m : Mark) → IsOver l why m → IsWithin l m → ⊥
over_not_within l Unexpected m o w = o
over_not_within l TooDeep m o w = omega (arith, o, w.0)
over_not_within l TooMany m o w = omega (arith, o.1, w.1)

-- The limits are the same for trees whose first marks are within them before and after.
module _ (l : Limits) {X : Type 0} (show : X → List Mark) (Shape : X → Type 0) (r : Reader X) (D : Mark → ℕ) (E : Mark → ℕ)
    (was : (x : X) → FirstIs (IsWithin l) (show x)) (is : (x : X) → FirstIs (λ m. (D m ≤ l.deepest) × (E m ≤ l.most)) (show x)) (one : Reads l show Shape r) where
  abbrev shown : X → List Mark
  shown x = numbered D E (show x)

  within_if : (ms : List Mark) (n : ℕ) → FirstIs (λ m. (D m ≤ l.deepest) × (E m ≤ l.most)) ms → AreWithin l n ms → AreWithin l n (numbered D E ms)
  within_if [] n i w = w
  within_if (m ∷ ms) zero i w = tt
  within_if (m ∷ ms) (suc n) i w = (i, w.1)

  within_was : (ms : List Mark) (n : ℕ) → FirstIs (IsWithin l) ms → AreWithin l n (numbered D E ms) → AreWithin l n ms
  within_was [] n i w = w
  within_was (m ∷ ms) zero i w = tt
  within_was (m ∷ ms) (suc n) i w = (i, w.1)

  all_if : (ms : List Mark) → FirstIs (λ m. (D m ≤ l.deepest) × (E m ≤ l.most)) ms → AllByRecursion (IsWithin l) ms → AllByRecursion (IsWithin l) (numbered D E ms)
  all_if [] i w = w
  all_if (m ∷ ms) i w = (i, w.1)

  over_if : (why : Reason) (ms : List Mark) (n : ℕ) → FirstIs (IsWithin l) ms → IsOverAt l why n ms → IsOverAt l why n (numbered D E ms)
  over_if why [] n i o = o
  over_if why (m ∷ ms) zero i o = absurd (over_not_within l why m o i)
  over_if why (m ∷ ms) (suc n) i o = o

  good_shown : (x : X) → Good show Shape x → Good shown Shape x
  good_shown x g = (g.0, numbered_said D E (show x) g.1)

  good_show : (x : X) → Good shown Shape x → Good show Shape x
  good_show x g = (g.0, said_numbered D E (show x) g.1)

  shown_refused : (ts : List Token) (why : Reason) (left : ℕ) → HaveKinds ts → r ts ≡ Refused why left → Refuses l shown Shape why left ts
  shown_refused ts why left kinds e =
      let h = one.refused ts why left kinds e in
      let y = h.begun.0 in
      record {
        passed = h.passed;
        behind = h.behind;
        begun = (
          y,
          good_shown y h.begun.1,
          numbered_goes D E (show y) (tokens_of ts) (reach why h.passed) h.begun.2,
          within_if (show y) h.passed (is y) h.begun.3,
          subst (λ n. h.passed < n) (sym (numbered_length D E (show y))) h.begun.4,
        );
        stuck = λ x good goes. over_if why (show x) h.passed (was x) (h.stuck x (good_show x good) (goes_numbered D E (show x) (tokens_of ts) (suc h.passed) goes));
      }

  pub numbered_reads : Reads l (λ x. numbered D E (show x)) Shape r
  numbered_reads = record {
    one = (one.one.0, good_shown one.one.0 one.one.1);
    some_mark = λ x. subst (λ n. 0 < n) (sym (numbered_length D E (show x))) (one.some_mark x);
    told = λ x. numbered_told D E (show x) (one.told x);
    sole = λ x gx y ts n kinds gy end within goes along.
        one.sole x (good_show x gx) y ts n kinds (good_show y gy)
        (subst (λ k. (k ≤ n) ⊎ (length (show y) ≤ n)) (numbered_length D E (show x)) (subst (λ k. (length (shown x) ≤ n) ⊎ (k ≤ n)) (numbered_length D E (show y)) end))
        (within_was (show x) n (was x) within) (goes_numbered D E (show x) (tokens_of ts) n goes) (goes_numbered D E (show y) (tokens_of ts) n along);
    found = λ ts rest x kinds e. let h = one.found ts rest x kinds e in (numbered_spelled D E (show x) ts rest h.0, good_shown x h.1, all_if (show x) (is x) h.2);
    refused = shown_refused;
  }

-- ---- depth and number of a tree that is within the limits

bare_within : (l : Limits) (ms : List Mark) → IsBare ms → FirstIs (IsWithin l) ms
bare_within l [] b = tt
bare_within l (m ∷ ms) b = (omega (arith, b.0), omega (arith, b.1))

bare_depth : (l : Limits) (d : ℕ) (ms : List Mark) → d ≤ l.deepest → IsBare ms → FirstIs (λ m. (d ≤ l.deepest) × (m.element ≤ l.most)) ms
bare_depth l d [] le b = tt
bare_depth l d (m ∷ ms) le b = (le, omega (arith, b.1))

pub tree_is : (d : ℕ) (ms : List Mark) → numbered (λ m. d) (λ m. m.element) ms ≡ tree d ms
tree_is d [] = refl
tree_is d (m ∷ ms) = refl

pub tree_reads : (l : Limits) {X : Type 0} (show : X → List Mark) (Shape : X → Type 0) (r : Reader X) (d : ℕ) → d ≤ l.deepest → ((x : X) → IsBare (show x))
    → Reads l show Shape r → Reads l (λ x. tree d (show x)) Shape r
tree_reads l show Shape r d le bare one =
    subst (λ s. Reads l s Shape r) (λ i x. tree_is d (show x) i)
    (numbered_reads l show Shape r (λ m. d) (λ m. m.element) (λ x. bare_within l (show x) (bare x)) (λ x. bare_depth l d (show x) le (bare x)) one)

shallow_within : (l : Limits) (ms : List Mark) → IsShallow l ms → FirstIs (IsWithin l) ms
shallow_within l [] b = tt
shallow_within l (m ∷ ms) b = (b.0, omega (arith, b.1))

shallow_number : (l : Limits) (n : ℕ) (ms : List Mark) → n ≤ l.most → IsShallow l ms → FirstIs (λ m. (m.depth ≤ l.deepest) × (n ≤ l.most)) ms
shallow_number l n [] le b = tt
shallow_number l n (m ∷ ms) le b = (b.0, le)

pub element_is : (n : ℕ) (ms : List Mark) → numbered (λ m. m.depth) (λ m. n) ms ≡ element n ms
element_is n [] = refl
element_is n (m ∷ ms) = refl

-- an element of a repetition that isn't one too many
pub element_reads : (l : Limits) {X : Type 0} (show : X → List Mark) (Shape : X → Type 0) (r : Reader X) (n : ℕ) → n ≤ l.most → ((x : X) → IsShallow l (show x))
    → Reads l show Shape r → Reads l (λ x. element n (show x)) Shape r
element_reads l show Shape r n le shallow one =
    subst (λ s. Reads l s Shape r) (λ i x. element_is n (show x) i)
    (numbered_reads l show Shape r (λ m. m.depth) (λ m. n) (λ x. shallow_within l (show x) (shallow x)) (λ x. shallow_number l n (show x) le (shallow x)) one)

-- ---- a tree that is past a limit, which is refused at its first token

over_first : (l : Limits) (why : Reason) (ms : List Mark) (n : ℕ) → 0 < n → IsOverAt l why 0 ms → AreWithin l n ms → ⊥
over_first l why [] n some o w = o
over_first l why (m ∷ ms) zero some o w = omega arith
over_first l why (m ∷ ms) (suc n) some o w = over_not_within l why m o w.0

reach_one : (why : Reason) → reach why 0 ≤ 1
reach_one Unexpected = omega arith
reach_one TooDeep = omega arith
reach_one TooMany = omega arith

abbrev pub over_at : {X : Type 0} → Reason → (List Token → Bool) → Reader X
over_at why p ts = if p ts then Refused why (length ts) else unexpected ts

module _ (l : Limits) {X : Type 0} (show : X → List Mark) (Shape : X → Type 0) (why : Reason) (p : List Token → Bool)
    (some : (x : X) × Good show Shape x) (mark : (x : X) → 0 < length (show x)) (told : (x : X) → AreTold (show x))
    (over : (x : X) → IsOverAt l why 0 (show x)) (first : AlwaysBegins show Shape p) (passes : SomeBegins show Shape p) where
  over_refused : (ts : List Token) (w : Reason) (left : ℕ) → HaveKinds ts → over_at {X = X} why p ts ≡ Refused w left → Refuses l show Shape w left ts
  over_refused ts w left kinds e =
      elim (p ts) as (λ b. p ts ≡ b → ◌≡◌ {A = Reading X} (if b then Refused why (length ts) else unexpected ts) (Refused w left) → Refuses l show Shape w left ts) [
        | true ↦ (λ is refused.
            let begun = passes ts kinds is in
            refuses_along l show Shape ts w left (refused_is refused) (record {
              passed = 0;
              behind = omega arith;
              begun = (begun.0, begun.1, goes_less (show begun.0) (tokens_of ts) (reach why 0) 1 (reach_one why) begun.2, tt, mark begun.0);
              stuck = λ y good goes. over y;
            }))
        | false ↦ (λ isnt refused.
            refuses_along l show Shape ts w left (refused_is refused) (refuses_first l show Shape some.0 some.1 (mark some.0) ts (λ y good goes. clash (p ts) (first y ts kinds good goes) isnt)))
      ] refl e

  over_found : (ts rest : List Token) (x : X) → over_at why p ts ≡ Got x rest → ⊥
  over_found ts rest x e =
      elim (p ts) as (λ b. ◌≡◌ {A = Reading X} (if b then Refused why (length ts) else unexpected ts) (Got x rest) → ⊥) [
        | true ↦ (λ got. got_not_refused (sym got))
        | false ↦ (λ got. got_not_refused (sym got))
      ] e

  pub over_reads : Reads l show Shape (over_at why p)
  over_reads = record {
    one = some;
    some_mark = mark;
    told = told;
    sole = λ x gx y ts n kinds gy end within goes along.
        let mx = mark x in
        let my = mark y in
        let at_least : 0 < n = elim end [ inl h ↦ omega arith | inr h ↦ omega arith ] in
        absurd (over_first l why (show x) n at_least (over x) within);
    found = λ ts rest x kinds e. absurd (over_found ts rest x e);
    refused = over_refused;
  }

deep_first : (l : Limits) (d : ℕ) (ms : List Mark) → l.deepest < d → 0 < length ms → IsOverAt l TooDeep 0 (tree d ms)
deep_first l d [] deep some = omega arith
deep_first l d (m ∷ ms) deep some = deep

-- one that is too deep, of which the first token is told
pub too_deep_reads : (l : Limits) {X : Type 0} (show : X → List Mark) (Shape : X → Type 0) (d : ℕ) (p : List Token → Bool) → l.deepest < d
    → ((x : X) × Good show Shape x) → ((x : X) → 0 < length (show x)) → ((x : X) → AreTold (show x))
    → AlwaysBegins show Shape p → SomeBegins show Shape p
    → Reads l (λ x. tree d (show x)) Shape (too_deep_at p)
too_deep_reads l {X = X} show Shape d p deep some mark told first passes =
    let D : Mark → ℕ = λ m. d in
    let E : Mark → ℕ = λ m. m.element in
    let over : (x : X) → IsOverAt l TooDeep 0 (numbered D E (show x)) = λ x. subst (IsOverAt l TooDeep 0) (sym (tree_is d (show x))) (deep_first l d (show x) deep (mark x)) in
    subst (λ s. Reads l s Shape (too_deep_at p)) (λ i x. tree_is d (show x) i)
    (over_reads l (λ x. numbered D E (show x)) Shape TooDeep p
    (some.0, (some.1.0, numbered_said D E (show some.0) some.1.1))
    (λ x. subst (λ n. 0 < n) (sym (numbered_length D E (show x))) (mark x))
    (λ x. numbered_told D E (show x) (told x))
    over
    (λ x ts kinds good goes. first x ts kinds (good.0, said_numbered D E (show x) good.1) (goes_numbered D E (show x) (tokens_of ts) 1 goes))
    (λ ts kinds is. let h = passes ts kinds is in (h.0, (h.1.0, numbered_said D E (show h.0) h.1.1), numbered_goes D E (show h.0) (tokens_of ts) 1 h.2)))

-- ---- the place where a tree begins

module _ (at : ℕ) where
  begins_length : (ms : List Mark) → length (begins at ms) ≡ length ms
  begins_length [] = refl
  begins_length (m ∷ ms) = refl

  begins_said : (ms : List Mark) → CanAllBeSaid ms → CanAllBeSaid (begins at ms)
  begins_said [] h = h
  begins_said (m ∷ ms) h = h

  said_begins : (ms : List Mark) → CanAllBeSaid (begins at ms) → CanAllBeSaid ms
  said_begins [] h = h
  said_begins (m ∷ ms) h = h

  begins_told : (ms : List Mark) → AreTold ms → AreTold (begins at ms)
  begins_told [] h = h
  begins_told (m ∷ ms) h = h

  begins_goes : (ms : List Mark) (ts : List Token) (n : ℕ) → at ≡ place_of ts → GoesOn n ms (tokens_of ts) → GoesOn n (begins at ms) (tokens_of ts)
  begins_goes [] ts n e g = g
  begins_goes (m ∷ ms) ts zero e g = tt
  begins_goes (m ∷ ms) [] (suc n) e g = g
  begins_goes (m ∷ ms) (t ∷ ts) (suc n) e g = (g.0, (e, g.1), g.2, g.3)

  goes_begins : (ms : List Mark) (ps : List Piece) (n : ℕ) → GoesOn n (begins at ms) ps → GoesOn n ms ps
  goes_begins [] ps n g = g
  goes_begins (m ∷ ms) ps zero g = tt
  goes_begins (m ∷ ms) [] (suc n) g = g
  goes_begins (m ∷ ms) (p ∷ ps) (suc n) g = (g.0, g.1.1, g.2, g.3)

  begins_at : (ms : List Mark) (ts : List Token) (n : ℕ) → 0 < n → GoesOn n (begins at ms) (tokens_of ts) → at ≡ place_of ts
  begins_at ms ts zero some g = absurd (omega arith)
  begins_at [] ts (suc n) some g = absurd g
  begins_at (m ∷ ms) [] (suc n) some g = absurd g
  begins_at (m ∷ ms) (t ∷ ts) (suc n) some g = g.1.0

  begins_spelled : (ms : List Mark) (ts rest : List Token) → at ≡ place_of ts → Spelled ms ts rest → Spelled (begins at ms) ts rest
  begins_spelled [] ts rest e s = s
  begins_spelled (m ∷ ms) [] rest e s = s
  begins_spelled (m ∷ ms) (t ∷ ts) rest e s = (s.0, (e, s.1), s.2, s.3)

  begins_within : (l : Limits) (ms : List Mark) (n : ℕ) → AreWithin l n ms → AreWithin l n (begins at ms)
  begins_within l [] n w = w
  begins_within l (m ∷ ms) zero w = tt
  begins_within l (m ∷ ms) (suc n) w = w

  within_begins : (l : Limits) (ms : List Mark) (n : ℕ) → AreWithin l n (begins at ms) → AreWithin l n ms
  within_begins l [] n w = w
  within_begins l (m ∷ ms) zero w = tt
  within_begins l (m ∷ ms) (suc n) w = w

  begins_all : (l : Limits) (ms : List Mark) → AllByRecursion (IsWithin l) ms → AllByRecursion (IsWithin l) (begins at ms)
  begins_all l [] w = w
  begins_all l (m ∷ ms) w = w

  begins_over : (l : Limits) (why : Reason) (ms : List Mark) (n : ℕ) → IsOverAt l why n ms → IsOverAt l why n (begins at ms)
  begins_over l why [] n o = o
  begins_over l Unexpected (m ∷ ms) zero o = o
  begins_over l TooDeep (m ∷ ms) zero o = o
  begins_over l TooMany (m ∷ ms) zero o = o
  begins_over l why (m ∷ ms) (suc n) o = o

module _ (l : Limits) {A : Type 0} (show : A → List Mark) (Shape : A → Type 0) (r : Reader A) (one : Reads l show Shape r) where
  abbrev show_placed : ℕ × A → List Mark
  show_placed p = begins p.0 (show p.1)

  abbrev ShapePlaced : ℕ × A → Type 0
  ShapePlaced p = Shape p.1

  good_placed : (at : ℕ) (x : A) → Good show Shape x → Good show_placed ShapePlaced (at, x)
  good_placed at x g = (g.0, begins_said at (show x) g.1)

  good_unplaced : (p : ℕ × A) → Good show_placed ShapePlaced p → Good show Shape p.1
  good_unplaced p g = (g.0, said_begins p.0 (show p.1) g.1)

  placed_sole : (p : ℕ × A) → Good show_placed ShapePlaced p → IsSole l show_placed ShapePlaced p
  placed_sole (i, x) gx (j, y) ts n kinds gy end within goes along =
      let lx = begins_length i (show x) in
      let ly = begins_length j (show y) in
      let mx = one.some_mark x in
      let my = one.some_mark y in
      let some : 0 < n = elim end [ inl h ↦ omega arith | inr h ↦ omega arith ] in
      let ended : (length (show x) ≤ n) ⊎ (length (show y) ≤ n) = elim end [ inl h ↦ inl (omega arith) | inr h ↦ inr (omega arith) ] in
      let place : j ≡ i = begins_at j (show y) ts n some along ∙ sym (begins_at i (show x) ts n some goes) in
      let tree : y ≡ x =
      one.sole x (good_unplaced (i, x) gx) y ts n kinds (good_unplaced (j, y) gy) ended (within_begins i l (show x) n within) (goes_begins i (show x) (tokens_of ts) n goes) (goes_begins j (show y) (tokens_of ts) n along) in
      λ k. (place k, tree k)

  placed_found : (ts rest : List Token) (p : ℕ × A) → HaveKinds ts → placed r ts ≡ Got p rest → Spelled (show_placed p) ts rest × Good show_placed ShapePlaced p × AllWithin l show_placed ShapePlaced p
  placed_found ts rest p kinds e =
      let s = bind_got (r ts) (λ x behind. Got (place_of ts, x) behind) p rest e in
      let same = got_is s.3 in
      let h = one.found ts s.1 s.0 kinds s.2 in
      let P : ℕ × A → List Token → Type 0 = λ q us. Spelled (show_placed q) ts us × Good show_placed ShapePlaced q × AllWithin l show_placed ShapePlaced q in
      subst (λ q. P q rest) same.0 (subst (P (place_of ts, s.0)) same.1
      (begins_spelled (place_of ts) (show s.0) ts s.1 refl h.0, good_placed (place_of ts) s.0 h.1, begins_all (place_of ts) l (show s.0) h.2))

  placed_refused : (ts : List Token) (why : Reason) (left : ℕ) → HaveKinds ts → placed r ts ≡ Refused why left → Refuses l show_placed ShapePlaced why left ts
  placed_refused ts why left kinds e =
      elim (bind_refused (r ts) (λ x behind. Got (place_of ts, x) behind) why left e) [
        | inl k ↦
            let h = one.refused ts why left kinds k in
            let y = h.begun.0 in
            let at = place_of ts in
            record {
              passed = h.passed;
              behind = h.behind;
              begun = (
                (at, y),
                good_placed at y h.begun.1,
                begins_goes at (show y) ts (reach why h.passed) refl h.begun.2,
                begins_within at l (show y) h.passed h.begun.3,
                subst (λ n. h.passed < n) (sym (begins_length at (show y))) h.begun.4,
              );
              stuck = λ p good goes. begins_over p.0 l why (show p.1) h.passed (h.stuck p.1 (good_unplaced p good) (goes_begins p.0 (show p.1) (tokens_of ts) (suc h.passed) goes));
            }
        | inr s ↦ absurd (got_not_refused s.3)
      ]

  pub placed_reads : Reads l {X = ℕ × A} (λ p. begins p.0 (show p.1)) (λ p. Shape p.1) (placed r)
  placed_reads = record {
    one = ((0, one.one.0), good_placed 0 one.one.0 one.one.1);
    some_mark = λ p. subst (λ n. 0 < n) (sym (begins_length p.0 (show p.1))) (one.some_mark p.1);
    told = λ p. begins_told p.0 (show p.1) (one.told p.1);
    sole = placed_sole;
    found = placed_found;
    refused = placed_refused;
  }
