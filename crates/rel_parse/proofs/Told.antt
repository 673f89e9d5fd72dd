-- Trees told by their first two tokens.
use Rattle.std.proofs.Common.{◌≡◌, ℕ, zero, suc, ◌<◌, ◌≤◌, Bool, true, false, List, [], ◌∷◌, length, Some, None, ◌⊎◌, inl, inr, refl, sym, subst, arith}
use Rattle.std.proofs.Math.Path.{fun_ext}
use Rattle.std.specs.Prelude.{if◌then◌else◌}
use Rattle.std.specs.List.{AllByRecursion}
use Rattle.std.proofs.lemmas.Bool.{both_ways}
use Rattle.rel_lang.specs.Syntax.{Word}
use Rattle.rel_lang.specs.Text.{Mark}
use Rattle.rel_lang.specs.Refusal.{Limits, IsWithin, IsBefore, GoesOn, AreWithin, Reason, Unexpected, TooDeep, TooMany, IsOver, IsOverAt, reach}
use Rattle.rel_lexer.specs.declared.Token.{Token}
use Rattle.rel_lexer.specs.Tokens.{tokens_of}
use Rattle.rel_parse.specs.Reading.{Reading, Got, Refused, Reader, unexpected, either}
use Rattle.rel_parse.proofs.Laws.{HaveKinds, Spelled, CanAllBeSaid, IsToldBy, AreTold, Good, AllWithin, Refuses, IsSole, Reads}

-- the first mark is meant only before this text
abbrev pub told_first : Word → List Mark → List Mark
told_first w [] = []
told_first w (m ∷ ms) = record m { told = Some w } ∷ ms

-- the next mark has this text
abbrev pub IsTellable : Word → List Mark → Type 0
IsTellable w [] = ⊥
IsTellable w (m ∷ ms) = (m.told ≡ None) × IsToldBy (Some w) ms

-- the next token has this text
abbrev pub Tells : Word → List Token → Type 0
Tells w [] = ⊥
Tells w (t ∷ ts) = IsBefore (Some w) (tokens_of ts)

before_none : (m : Mark) (ts : List Token) → m.told ≡ None → IsBefore m.told (tokens_of ts)
before_none m ts e = subst (λ o. IsBefore o (tokens_of ts)) (sym e) tt

spelled_untold : (w : Word) (ms : List Mark) (ts rest : List Token) → IsTellable w ms → Spelled (told_first w ms) ts rest → Spelled ms ts rest
spelled_untold w [] ts rest can s = s
spelled_untold w (m ∷ ms) [] rest can s = s
spelled_untold w (m ∷ ms) (t ∷ ts) rest can s = (s.0, s.1, before_none m ts can.0, s.3)

spelled_told : (w : Word) (ms : List Mark) (ts rest : List Token) → Tells w ts → Spelled ms ts rest → Spelled (told_first w ms) ts rest
spelled_told w [] ts rest tells s = s
spelled_told w (m ∷ ms) [] rest tells s = s
spelled_told w (m ∷ ms) (t ∷ ts) rest tells s = (s.0, s.1, tells, s.3)

goes_untold : (n : ℕ) (w : Word) (ms : List Mark) (ts : List Token) → IsTellable w ms → GoesOn n (told_first w ms) (tokens_of ts) → GoesOn n ms (tokens_of ts)
goes_untold zero w ms ts can g = tt
goes_untold (suc n) w [] ts can g = g
goes_untold (suc n) w (m ∷ ms) [] can g = g
goes_untold (suc n) w (m ∷ ms) (t ∷ ts) can g = (g.0, g.1, before_none m ts can.0, g.3)

goes_told : (n : ℕ) (w : Word) (ms : List Mark) (ts : List Token) → Tells w ts → GoesOn n ms (tokens_of ts) → GoesOn n (told_first w ms) (tokens_of ts)
goes_told zero w ms ts tells g = tt
goes_told (suc n) w [] ts tells g = g
goes_told (suc n) w (m ∷ ms) [] tells g = g
goes_told (suc n) w (m ∷ ms) (t ∷ ts) tells g = (g.0, g.1, tells, g.3)

length_told : (w : Word) (ms : List Mark) → length (told_first w ms) ≡ length ms
length_told w [] = refl
length_told w (m ∷ ms) = refl

can_told : (w : Word) (ms : List Mark) → CanAllBeSaid (told_first w ms) ≡ CanAllBeSaid ms
can_told w [] = refl
can_told w (m ∷ ms) = refl

within_told : (l : Limits) (w : Word) (ms : List Mark) → AllByRecursion (IsWithin l) (told_first w ms) ≡ AllByRecursion (IsWithin l) ms
within_told l w [] = refl
within_told l w (m ∷ ms) = refl

front_told : (l : Limits) (n : ℕ) (w : Word) (ms : List Mark) → AreWithin l n (told_first w ms) ≡ AreWithin l n ms
front_told l zero w ms = refl
front_told l (suc n) w [] = refl
front_told l (suc n) w (m ∷ ms) = refl

is_over_told : (l : Limits) (r : Reason) (w : Word) (m : Mark) → IsOver l r (record m { told = Some w }) ≡ IsOver l r m
is_over_told l Unexpected w m = refl
is_over_told l TooDeep w m = refl
is_over_told l TooMany w m = refl

over_told : (l : Limits) (r : Reason) (n : ℕ) (w : Word) (ms : List Mark) → IsOverAt l r n (told_first w ms) ≡ IsOverAt l r n ms
over_told l r zero w [] = refl
over_told l r (suc n) w [] = refl
over_told l r zero w (m ∷ ms) = is_over_told l r w m
over_told l r (suc n) w (m ∷ ms) = refl

are_told : (w : Word) (ms : List Mark) → IsTellable w ms → AreTold ms → AreTold (told_first w ms)
are_told w [] can told = absurd can
are_told w (m ∷ ms) can told = (can.1, told.1)

along : {A B : Type 0} → A ≡ B → A → B
along e a = let P : Type 0 → Type 0 = λ T. T in subst P e a

pub if_taken : {A : Type 0} (b : Bool) (x y z : Reading A) → b ≡ true → (if b then x else y) ≡ z → x ≡ z
if_taken true x y z e h = h
if_taken false x y z e h = absurd cc

if_left : {A : Type 0} (b : Bool) (x y z : Reading A) → b ≡ false → (if b then x else y) ≡ z → y ≡ z
if_left true x y z e h = absurd cc
if_left false x y z e h = h

twice : {A : Type 0} (v : Bool) (x y z : A) → (if v then (if v then x else y) else z) ≡ (if v then x else z)
twice true x y z = refl
twice false x y z = refl

-- what is read only where the tokens pass
abbrev pub only : {X : Type 0} → (List Token → Bool) → Reader X → Reader X
only p r = either p r (λ ts. unexpected ts)

module _ (l : Limits) {X : Type 0} (show : X → List Mark) (Shape : X → Type 0) (r : Reader X) (w : Word) (p : List Token → Bool) (read : Reads l show Shape r)
    (tellable : (x : X) → IsTellable w (show x))
    (passes : (x : X) (ts : List Token) → HaveKinds ts → Good (λ y. told_first w (show y)) Shape x → GoesOn 1 (told_first w (show x)) (tokens_of ts) → p ts ≡ true)
    (tells : (ts : List Token) → HaveKinds ts → p ts ≡ true → Tells w ts) where
  abbrev shown : X → List Mark
  shown x = told_first w (show x)

  good : (x : X) → Good shown Shape x → Good show Shape x
  good x g = (g.0, along (can_told w (show x)) g.1)

  found_by : (v : Bool) (ts rest : List Token) (x : X) → HaveKinds ts → p ts ≡ v → only p r ts ≡ Got x rest → Spelled (shown x) ts rest × Good shown Shape x × AllWithin l shown Shape x
  found_by true ts rest x kinds e h =
      let f = read.found ts rest x kinds (if_taken (p ts) (r ts) (unexpected ts) (Got x rest) e h) in
      (spelled_told w (show x) ts rest (tells ts kinds e) f.0, (f.1.0, along (sym (can_told w (show x))) f.1.1), along (sym (within_told l w (show x))) f.2)
  found_by false ts rest x kinds e h = let h2 : unexpected ts ≡ Got x rest = if_left (p ts) (r ts) (unexpected ts) (Got x rest) e h in absurd cc

  refused_by : (v : Bool) (ts : List Token) (why : Reason) (left : ℕ) → HaveKinds ts → p ts ≡ v → only p r ts ≡ Refused why left → Refuses l shown Shape why left ts
  refused_by true ts why left kinds e h =
      let f = read.refused ts why left kinds (if_taken (p ts) (r ts) (unexpected ts) (Refused why left) e h) in
      let y = f.begun.0 in
      record {
        passed = f.passed;
        behind = f.behind;
        begun = (y, (f.begun.1.0, along (sym (can_told w (show y))) f.begun.1.1), goes_told (reach why f.passed) w (show y) ts (tells ts kinds e) f.begun.2, along (sym (front_told l f.passed w (show y))) f.begun.3, subst (λ n. f.passed < n) (sym (length_told w (show y))) f.begun.4);
        stuck = λ z g goes. along (sym (over_told l why f.passed w (show z))) (f.stuck z (good z g) (goes_untold (suc f.passed) w (show z) ts (tellable z) goes));
      }
  refused_by false ts why left kinds e h =
      let h2 : Refused Unexpected (length ts) ≡ Refused why left = if_left (p ts) (r ts) (unexpected ts) (Refused why left) e h in
      let is : Unexpected ≡ why = cc in
      let at : length ts ≡ left = cc in
      let y = read.one.0 in
      let some : 0 < length (shown y) = subst (λ n. 0 < n) (sym (length_told w (show y))) (read.some_mark y) in
      let refuse : Refuses l shown Shape Unexpected (length ts) ts = record {
        passed = 0;
        behind = omega arith;
        begun = (y, (read.one.1.0, along (sym (can_told w (show y))) read.one.1.1), tt, tt, some);
        stuck = λ z g goes. absurd (both_ways (p ts) e (passes z ts kinds g goes));
      } in
      subst (λ n. Refuses l shown Shape why n ts) at (subst (λ v. Refuses l shown Shape v (length ts) ts) is refuse)

  sole_of : (x : X) → Good shown Shape x → IsSole l shown Shape x
  sole_of x g y ts n kinds g2 le within goes goes2 =
      let le2 : (length (show x) ≤ n) ⊎ (length (show y) ≤ n) = elim le [ inl h ↦ inl (subst (λ k. k ≤ n) (length_told w (show x)) h) | inr h ↦ inr (subst (λ k. k ≤ n) (length_told w (show y)) h) ] in
      read.sole x (good x g) y ts n kinds (good y g2) le2 (along (front_told l n w (show x)) within) (goes_untold n w (show x) ts (tellable x) goes) (goes_untold n w (show y) ts (tellable y) goes2)

  pub told_first_reads : Reads l (λ x. told_first w (show x)) Shape (only p r)
  told_first_reads = record {
    one = (read.one.0, (read.one.1.0, along (sym (can_told w (show read.one.0))) read.one.1.1));
    some_mark = λ x. subst (λ n. 0 < n) (sym (length_told w (show x))) (read.some_mark x);
    told = λ x. are_told w (show x) (tellable x) (read.told x);
    sole = sole_of;
    found = λ ts rest x kinds h. found_by (p ts) ts rest x kinds refl h;
    refused = λ ts why left kinds h. refused_by (p ts) ts why left kinds refl h;
  }

-- the second test is not needed
pub either_twice : {X : Type 0} (p : List Token → Bool) (a b c : Reader X) → either p (either p a c) b ≡ either p a b
either_twice p a b c = fun_ext (λ ts. twice (p ts) (a ts) (c ts) (b ts))
