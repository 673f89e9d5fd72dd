-- Reading trees one after the other, as a loop does.
use Rattle.std.proofs.Common.{◌≡◌, ℕ, zero, suc, ◌+◌, ◌-◌, ◌<◌, ◌≤◌, Bool, true, false, if◌then◌else◌, List, [], ◌∷◌, ◌++◌, length, map, refl, sym, ap, ◌∙◌, append_assoc, arith}
use Rattle.std.proofs.lemmas.List.{append-nil, map_push}
use Rattle.rel_lang.specs.Refusal.{TooMany}
use Rattle.rel_lexer.specs.declared.Token.{Token}
use Rattle.rel_parse.specs.declared.fault.Fault.{Fault}
use Rattle.rel_parse.specs.declared.fault.Fault.TheVariants as faults
use Rattle.rel_parse.specs.Gives.{Fails}
use Rattle.rel_parse.specs.Reading.{Reading, Got, Refused, Reader, then_read, with_front, with_first, many_at}

-- What is read in all, after those in front: so many are still left to read at most.
pub record SoFar {A : Type 0} (begins : List Token → Bool) (r : Reader A) (left : ℕ) (front : List A) (rest : List Token) (total : Reading (List A)) : Type 0 where
  pub all : with_front front (many_at begins r left rest) ≡ total

pub when : {A : Type 0} (b : Bool) (x y : A) → b ≡ true → (if b then x else y) ≡ x
when true x y e = refl
when false x y e = absurd cc

pub unless : {A : Type 0} (b : Bool) (x y : A) → b ≡ false → (if b then x else y) ≡ y
unless true x y e = absurd cc
unless false x y e = refl

module _ {A : Type 0} (begins : List Token → Bool) (r : Reader A) where
  pub stops_at : (n : ℕ) (ts : List Token) → begins ts ≡ false → many_at begins r n ts ≡ Got [] ts
  unfolding many_at
  stops_at zero ts e = unless (begins ts) (Refused TooMany (length ts)) (Got [] ts) e
  stops_at (suc n) ts e = unless (begins ts) (then_read (r ts) (λ x rest. with_first x (many_at begins r n rest))) (Got [] ts) e

  pub no_more : (ts : List Token) → begins ts ≡ true → many_at begins r 0 ts ≡ Refused TooMany (length ts)
  unfolding many_at
  no_more ts e = when (begins ts) (Refused TooMany (length ts)) (Got [] ts) e

  pub one_more : (n : ℕ) (ts : List Token) → begins ts ≡ true → many_at begins r (suc n) ts ≡ then_read (r ts) (λ x rest. with_first x (many_at begins r n rest))
  unfolding many_at
  one_more n ts e = when (begins ts) (then_read (r ts) (λ x rest. with_first x (many_at begins r n rest))) (Got [] ts) e

regroup : {A : Type 0} (front : List A) (x : A) (read : Reading (List A)) → with_front front (with_first x read) ≡ with_front (front ++ x ∷ []) read
regroup front x (Refused why left) = refl
regroup front x (Got xs rest) = ap (λ ys. Got ys rest) (simp append_assoc)

pub begun : {A : Type 0} (begins : List Token → Bool) (r : Reader A) (limit : ℕ) (front : List A) (ts : List Token) → SoFar begins r limit front ts (with_front front (many_at begins r limit ts))
begun begins r limit front ts = record { all = refl }

unchanged : {A : Type 0} (read : Reading (List A)) → with_front [] read ≡ read
unchanged (Refused why left) = refl
unchanged (Got xs rest) = refl

-- with none in front
pub begun_empty : {T A : Type 0} (v : T → A) (xs : List T) (begins : List Token → Bool) (r : Reader A) (limit : ℕ) (ts : List Token) → xs ≡ [] → SoFar begins r limit (map v xs) ts (many_at begins r limit ts)
begun_empty v xs begins r limit ts e = record { all = rw e (unchanged (many_at begins r limit ts)) }

pub goes_on : {T A : Type 0} (v : T → A) (xs ys : List T) (x : T) (begins : List Token → Bool) (r : Reader A) (limit i : ℕ) (ts behind : List Token) (total : Reading (List A))
    → i < limit → begins ts ≡ true → r ts ≡ Got (v x) behind → ys ≡ xs ++ x ∷ [] → SoFar begins r (limit - i) (map v xs) ts total → SoFar begins r (limit - (i + 1)) (map v ys) behind total
goes_on v xs ys x begins r limit i ts behind total lt begun read pushed so =
    let n = limit - (i + 1) in
    let k : limit - i ≡ suc n = omega arith in
    let one : many_at begins r (limit - i) ts ≡ with_first (v x) (many_at begins r n behind) =
    ap (λ (m : ℕ). many_at begins r m ts) k ∙ one_more begins r n ts begun ∙ ap (λ o. then_read o (λ z rest. with_first z (many_at begins r n rest))) read in
    let front : map v ys ≡ map v xs ++ v x ∷ [] = ap (map v) pushed ∙ map_push v xs x in
    record { all = rw front (sym (regroup (map v xs) (v x) (many_at begins r n behind)) ∙ sym (ap (with_front (map v xs)) one) ∙ so.all) }

-- what is refused is refused for all that follows
pub fails_then : {A B : Type 0} (e : Fault) (read : Reading A) (f : A → List Token → Reading B) → Fails e read → Fails e (then_read read f)
fails_then faults.Memory read f h = tt
fails_then (faults.Unexpected n) read f h = rw h refl
fails_then (faults.TooDeep n) read f h = rw h refl
fails_then (faults.TooMany n) read f h = rw h refl

fails_along : {A : Type 0} (e : Fault) (read other : Reading A) → read ≡ other → Fails e read → Fails e other
fails_along faults.Memory read other same h = tt
fails_along (faults.Unexpected n) read other same h = sym same ∙ h
fails_along (faults.TooDeep n) read other same h = sym same ∙ h
fails_along (faults.TooMany n) read other same h = sym same ∙ h

pub fails : {A : Type 0} (begins : List Token → Bool) (r : Reader A) (limit i : ℕ) (front : List A) (ts : List Token) (e : Fault) (total : Reading (List A))
    → i < limit → begins ts ≡ true → Fails e (r ts) → SoFar begins r (limit - i) front ts total → Fails e total
fails begins r limit i front ts e total lt begun read so =
    let n = limit - (i + 1) in
    let k : limit - i ≡ suc n = omega arith in
    let one : many_at begins r (limit - i) ts ≡ then_read (r ts) (λ z rest. with_first z (many_at begins r n rest)) = ap (λ (m : ℕ). many_at begins r m ts) k ∙ one_more begins r n ts begun in
    fails_along e _ total so.all (fails_then e (many_at begins r (limit - i) ts) (λ xs rest. Got (front ++ xs) rest) (fails_along e _ (many_at begins r (limit - i) ts) (sym one) (fails_then e (r ts) (λ z rest. with_first z (many_at begins r n rest)) read)))

-- one too many
pub is_full : {A : Type 0} (begins : List Token → Bool) (r : Reader A) (limit i : ℕ) (front : List A) (ts : List Token) (total : Reading (List A))
    → limit ≤ i → begins ts ≡ true → SoFar begins r (limit - i) front ts total → total ≡ Refused TooMany (length ts)
is_full begins r limit i front ts total le begun so =
    let k : limit - i ≡ 0 = omega arith in
    sym so.all ∙ ap (with_front front) (ap (λ (m : ℕ). many_at begins r m ts) k ∙ no_more begins r ts begun)

pub ended : {A : Type 0} (begins : List Token → Bool) (r : Reader A) (left : ℕ) (front : List A) (ts : List Token) (total : Reading (List A))
    → begins ts ≡ false → SoFar begins r left front ts total → total ≡ Got front ts
ended begins r left front ts total stop so =
    sym so.all ∙ ap (with_front front) (stops_at begins r left ts stop) ∙ ap (λ xs. Got xs ts) (append-nil front)
