-- One reader after another is exact where each is.
use Rattle.std.proofs.Common.{◌≡◌, ℕ, zero, suc, ◌+◌, ◌-◌, ◌<◌, ◌≤◌, List, ◌++◌, length, ◌⊎◌, inl, inr, refl, sym, ap, subst, arith}
use Rattle.std.proofs.lemmas.List.{length-append}
use Rattle.rel_lang.specs.Text.{CanBeSaid, Mark}
use Rattle.rel_lang.specs.Refusal.{Limits, IsWithin, GoesOn, AreWithin, Reason, IsOverAt, reach}
use Rattle.rel_lexer.specs.declared.Token.{Token}
use Rattle.rel_lexer.specs.Tokens.{tokens_of}
use Rattle.rel_parse.specs.Reading.{Reading, Got, Refused, Reader, then_read, both}
use Rattle.rel_parse.proofs.Exact.{HaveKinds, Spelled, Good, AllWithin, Refuses, IsSole, Reads}
use Rattle.rel_parse.proofs.Along.{all_join, all_left, all_right, kinds_behind, spelled_length, spelled_goes, spelled_one, spelled_join, goes_less, goes_in, goes_out, goes_join, goes_split, within_less, within_all, within_in, within_out, within_join, within_behind, over_in, over_join, told_join, reach_behind, le_reach}

-- ---- what follows what is read

pub bind_got : {A B : Type 0} (read : Reading A) (f : A → List Token → Reading B) (y : B) (rest : List Token) → then_read read f ≡ Got y rest
    → (x : A) × (mid : List Token) × (read ≡ Got x mid) × (f x mid ≡ Got y rest)
bind_got (Got x mid) f y rest e = (x, mid, refl, e)
bind_got (Refused why left) f y rest e = absurd cc

pub bind_refused : {A B : Type 0} (read : Reading A) (f : A → List Token → Reading B) (why : Reason) (left : ℕ) → then_read read f ≡ Refused why left
    → (read ≡ Refused why left) ⊎ ((x : A) × (mid : List Token) × (read ≡ Got x mid) × (f x mid ≡ Refused why left))
bind_refused (Got x mid) f why left e = inr (x, mid, refl, e)
bind_refused (Refused w n) f why left e = let p : w ≡ why = cc in let q : n ≡ left = cc in inl (rw (p, q) refl)

pub got_is : {X : Type 0} {x y : X} {r s : List Token} → Got x r ≡ Got y s → (x ≡ y) × (r ≡ s)
got_is e = (cc, cc)

pub got_not_refused : {X : Type 0} {x : X} {r : List Token} {why : Reason} {left : ℕ} → Got x r ≡ Refused why left → ⊥
got_not_refused e = cc

pub compared : (m n : ℕ) → (m ≤ n) ⊎ (n < m)
compared zero n = inl (omega arith)
compared (suc m) zero = inr (omega arith)
compared (suc m) (suc n) = elim (compared m n) [ inl h ↦ inl (omega arith) | inr h ↦ inr (omega arith) ]

least : (a b n : ℕ) → (a ≤ n) ⊎ (b ≤ n) → a ≤ b → a ≤ n
least a b n (inl h) le = h
least a b n (inr h) le = omega arith

turned : (a b n : ℕ) → (a ≤ n) ⊎ (b ≤ n) → (b ≤ n) ⊎ (a ≤ n)
turned a b n (inl h) = inr h
turned a b n (inr h) = inl h

-- ---- the first of some trees

module _ (l : Limits) {A : Type 0} (show : A → List Mark) (Shape : A → Type 0) (a : Reader A) (one : Reads l show Shape a) where
  -- the first trees are the same
  pub first_same : (x y : A) (ns os : List Mark) (ts : List Token) (n : ℕ) → HaveKinds ts → Good show Shape x → Good show Shape y → (length (show x) ≤ n) ⊎ (length (show y) ≤ n)
      → AreWithin l n (show x ++ ns) → GoesOn n (show x ++ ns) (tokens_of ts) → GoesOn n (show y ++ os) (tokens_of ts) → y ≡ x
  first_same x y ns os ts n kinds gx gy end within goes along =
      let by : (k : ℕ) → k ≤ n → k ≤ length (show x) → k ≤ length (show y) → (length (show x) ≤ k) ⊎ (length (show y) ≤ k) → y ≡ x =
      λ k le lx ly ended.
      one.sole x gx y ts k kinds gy ended (within_out l (show x) ns k (within_less l (show x ++ ns) k n le within))
      (goes_out (show x) ns (tokens_of ts) k lx (goes_less (show x ++ ns) (tokens_of ts) k n le goes))
      (goes_out (show y) os (tokens_of ts) k ly (goes_less (show y ++ os) (tokens_of ts) k n le along)) in
      elim (compared (length (show x)) (length (show y))) [
        | inl h ↦ by (length (show x)) (least _ _ n end h) (omega arith) h (inl (omega arith))
        | inr h ↦ by (length (show y)) (least _ _ n (turned _ _ n end) (omega arith)) (omega arith) (omega arith) (inr (omega arith))
      ]

  -- what is refused is no whole tree
  pub never_whole : (ts : List Token) (why : Reason) (left : ℕ) → HaveKinds ts → (h : Refuses l show Shape why left ts) (x : A) → Good show Shape x
      → length (show x) ≤ h.passed → GoesOn (length (show x)) (show x) (tokens_of ts) → ⊥
  never_whole ts why left kinds h x good le goes =
      let y = h.begun.0 in
      let n = length (show x) in
      let far = le_reach why h.passed in
      let same : x ≡ y =
      one.sole y h.begun.1 x ts n kinds good (inr (omega arith)) (within_less l (show y) n h.passed le h.begun.3) (goes_less (show y) (tokens_of ts) n (reach why h.passed) (omega arith) h.begun.2) goes in
      let lengths : length (show x) ≡ length (show y) = ap (λ w. length (show w)) same in
      omega (arith, h.begun.4)

  pub first_stuck : (ts : List Token) (why : Reason) (left : ℕ) → HaveKinds ts → (h : Refuses l show Shape why left ts) (x : A) (ns : List Mark) → Good show Shape x
      → GoesOn (suc h.passed) (show x ++ ns) (tokens_of ts) → IsOverAt l why h.passed (show x ++ ns)
  first_stuck ts why left kinds h x ns good goes =
      elim (compared (suc h.passed) (length (show x))) [
        | inl le ↦ over_in l why (show x) ns h.passed (h.stuck x good (goes_out (show x) ns (tokens_of ts) (suc h.passed) le goes))
        | inr lt ↦
            let n = length (show x) in
            absurd (never_whole ts why left kinds h x good (omega arith) (goes_out (show x) ns (tokens_of ts) n (omega arith) (goes_less (show x ++ ns) (tokens_of ts) n (suc h.passed) (omega arith) goes)))
      ]

  -- what goes on as far as what was found begins with it
  pub first_found : (ts mid : List Token) (x y : A) (os : List Mark) (n : ℕ) → HaveKinds ts → Spelled (show x) ts mid → Good show Shape x → AllWithin l show Shape x → Good show Shape y
      → length (show x) ≤ n → GoesOn n (show y ++ os) (tokens_of ts) → y ≡ x
  first_found ts mid x y os n kinds spelled gx within gy le goes =
      let m = length (show x) in
      let whole = within_all l (show x) m within in
      let on_x = spelled_goes (show x) ts mid spelled in
      elim (compared m (length (show y))) [
        | inl h ↦ one.sole x gx y ts m kinds gy (inl (omega arith)) whole on_x (goes_out (show y) os (tokens_of ts) m h (goes_less (show y ++ os) (tokens_of ts) m n le goes))
        | inr h ↦
            let k = length (show y) in
            one.sole x gx y ts k kinds gy (inr (omega arith)) (within_less l (show x) k m (omega arith) whole) (goes_less (show x) (tokens_of ts) k m (omega arith) on_x)
            (goes_out (show y) os (tokens_of ts) k (omega arith) (goes_less (show y ++ os) (tokens_of ts) k n (omega arith) goes))
      ]

-- ---- both

module _ (l : Limits) {A B : Type 0} (show : A → List Mark) (Shape : A → Type 0) (a : Reader A) (show2 : B → List Mark) (Shape2 : B → Type 0) (b : Reader B)
    (one : Reads l show Shape a) (two : Reads l show2 Shape2 b) where
  abbrev show_both : A × B → List Mark
  show_both p = show p.0 ++ show2 p.1

  abbrev ShapeBoth : A × B → Type 0
  ShapeBoth p = Shape p.0 × Shape2 p.1

  good_first : (p : A × B) → Good show_both ShapeBoth p → Good show Shape p.0
  good_first p g = (g.0.0, all_left (λ m. CanBeSaid m.said) (show p.0) (show2 p.1) g.1)

  good_second : (p : A × B) → Good show_both ShapeBoth p → Good show2 Shape2 p.1
  good_second p g = (g.0.1, all_right (λ m. CanBeSaid m.said) (show p.0) (show2 p.1) g.1)

  good_both : (x : A) (u : B) → Good show Shape x → Good show2 Shape2 u → Good show_both ShapeBoth (x, u)
  good_both x u g h = ((g.0, h.0), all_join (λ m. CanBeSaid m.said) (show x) (show2 u) g.1 h.1)

  second_same : (x : A) (u v : B) (ts : List Token) (n : ℕ) → HaveKinds ts → Good show2 Shape2 u → Good show2 Shape2 v
      → (length (show x ++ show2 u) ≤ n) ⊎ (length (show x ++ show2 v) ≤ n) → AreWithin l n (show x ++ show2 u)
      → GoesOn n (show x ++ show2 u) (tokens_of ts) → GoesOn n (show x ++ show2 v) (tokens_of ts) → v ≡ u
  second_same x u v ts n kinds gu gv end within goes along =
      let lu : length (show x ++ show2 u) ≡ length (show x) + length (show2 u) = length-append (show x) (show2 u) in
      let lv : length (show x ++ show2 v) ≡ length (show x) + length (show2 v) = length-append (show x) (show2 v) in
      let k = n - length (show x) in
      let sum : n ≡ length (show x) + k = elim end [ inl h ↦ omega arith | inr h ↦ omega arith ] in
      let ended : (length (show2 u) ≤ k) ⊎ (length (show2 v) ≤ k) = elim end [ inl h ↦ inl (omega arith) | inr h ↦ inr (omega arith) ] in
      let p = goes_split (show x) (show2 u) ts n k sum goes in
      let q = goes_split (show x) (show2 v) ts n k sum along in
      let same : q.0 ≡ p.0 = spelled_one (show x) ts q.0 p.0 q.1 p.1 in
      two.sole u gu v p.0 k (kinds_behind (show x) ts p.0 kinds p.1) gv ended (within_behind l (show x) (show2 u) n k sum within) p.2 (subst (λ us. GoesOn k (show2 v) (tokens_of us)) same q.2)

  both_sole : (p : A × B) → Good show_both ShapeBoth p → IsSole l show_both ShapeBoth p
  both_sole (x, u) good (y, v) ts n kinds other end within goes along =
      let lu : length (show x ++ show2 u) ≡ length (show x) + length (show2 u) = length-append (show x) (show2 u) in
      let lv : length (show y ++ show2 v) ≡ length (show y) + length (show2 v) = length-append (show y) (show2 v) in
      let firsts : (length (show x) ≤ n) ⊎ (length (show y) ≤ n) = elim end [ inl h ↦ inl (omega arith) | inr h ↦ inr (omega arith) ] in
      let gx = good_first (x, u) good in
      let gy = good_first (y, v) other in
      let gu = good_second (x, u) good in
      let gv = good_second (y, v) other in
      let same : y ≡ x = first_same l show Shape a one x y (show2 u) (show2 v) ts n kinds gx gy firsts within goes along in
      let P : A → Type 0 = λ z. (length (show x ++ show2 u) ≤ n) ⊎ (length (show z ++ show2 v) ≤ n) → GoesOn n (show z ++ show2 v) (tokens_of ts) → ◌≡◌ {A = A × B} (z, v) (x, u) in
      subst P (sym same) (λ ended going. ap (λ w. (x, w)) (second_same x u v ts n kinds gu gv ended within goes going)) end along

  both_found : (ts rest : List Token) (p : A × B) → HaveKinds ts → both a b ts ≡ Got p rest → Spelled (show_both p) ts rest × Good show_both ShapeBoth p × AllWithin l show_both ShapeBoth p
  both_found ts rest p kinds e =
      let s = bind_got (a ts) (λ x mid. then_read (b mid) (λ y behind. Got (x, y) behind)) p rest e in
      let t = bind_got (b s.1) (λ y behind. Got (s.0, y) behind) p rest s.3 in
      let same = got_is t.3 in
      let f = one.found ts s.1 s.0 kinds s.2 in
      let g = two.found s.1 t.1 t.0 (kinds_behind (show s.0) ts s.1 kinds f.0) t.2 in
      let P : A × B → List Token → Type 0 = λ q us. Spelled (show_both q) ts us × Good show_both ShapeBoth q × AllWithin l show_both ShapeBoth q in
      subst (λ q. P q rest) same.0 (subst (P (s.0, t.0)) same.1
      (spelled_join (show s.0) (show2 t.0) ts s.1 t.1 f.0 g.0, good_both s.0 t.0 f.1 g.1, all_join (IsWithin l) (show s.0) (show2 t.0) f.2 g.2))

  first_refused : (ts : List Token) (why : Reason) (left : ℕ) → HaveKinds ts → Refuses l show Shape why left ts → Refuses l show_both ShapeBoth why left ts
  first_refused ts why left kinds refusal =
      let y = refusal.begun.0 in
      let z = two.one in
      let longer : length (show y ++ show2 z.0) ≡ length (show y) + length (show2 z.0) = length-append (show y) (show2 z.0) in
      record {
        passed = refusal.passed;
        behind = refusal.behind;
        begun = (
          (y, z.0),
          good_both y z.0 refusal.begun.1 z.1,
          goes_in (show y) (show2 z.0) (tokens_of ts) (reach why refusal.passed) refusal.begun.2,
          within_in l (show y) (show2 z.0) refusal.passed (omega (arith, refusal.begun.4)) refusal.begun.3,
          omega (arith, refusal.begun.4),
        );
        stuck = λ q good goes. first_stuck l show Shape a one ts why left kinds refusal q.0 (show2 q.1) (good_first q good) goes;
      }

  second_refused : (ts mid : List Token) (x : A) (why : Reason) (left : ℕ) → HaveKinds ts → Spelled (show x) ts mid → Good show Shape x → AllWithin l show Shape x → Refuses l show2 Shape2 why left mid
      → Refuses l show_both ShapeBoth why left ts
  second_refused ts mid x why left kinds spelled good within refusal =
      let m = length (show x) in
      let n = m + refusal.passed in
      let u = refusal.begun.0 in
      let total = spelled_length (show x) ts mid spelled in
      let longer : length (show x ++ show2 u) ≡ length (show x) + length (show2 u) = length-append (show x) (show2 u) in
      let far : reach why n ≡ m + reach why refusal.passed = reach_behind why n m refusal.passed refl in
      record {
        passed = n;
        behind = omega (arith, refusal.behind, total);
        begun = (
          (x, u),
          good_both x u good refusal.begun.1,
          goes_join (show x) (show2 u) ts mid (reach why n) (reach why refusal.passed) far spelled refusal.begun.2,
          within_join l (show x) (show2 u) n refusal.passed refl within refusal.begun.3,
          omega (arith, refusal.begun.4),
        );
        stuck = λ q g goes.
            let y = q.0 in
            let v = q.1 in
            let same : y ≡ x = first_found l show Shape a one ts mid x y (show2 v) (suc n) kinds spelled good within (good_first q g) (omega arith) goes in
            let sum : suc n ≡ m + suc refusal.passed = omega arith in
            let P : A → Type 0 = λ z. GoesOn (suc n) (show z ++ show2 v) (tokens_of ts) → IsOverAt l why n (show z ++ show2 v) in
            subst P (sym same) (λ going.
            let p = goes_split (show x) (show2 v) ts (suc n) (suc refusal.passed) sum going in
            let behind : p.0 ≡ mid = spelled_one (show x) ts p.0 mid p.1 spelled in
            over_join l why (show x) (show2 v) n refusal.passed refl (refusal.stuck v (good_second q g) (subst (λ us. GoesOn (suc refusal.passed) (show2 v) (tokens_of us)) behind p.2))) goes;
      }

  both_refused : (ts : List Token) (why : Reason) (left : ℕ) → HaveKinds ts → both a b ts ≡ Refused why left → Refuses l show_both ShapeBoth why left ts
  both_refused ts why left kinds e =
      elim (bind_refused (a ts) (λ x mid. then_read (b mid) (λ y behind. Got (x, y) behind)) why left e) [
        | inl h ↦ first_refused ts why left kinds (one.refused ts why left kinds h)
        | inr s ↦
            let f = one.found ts s.1 s.0 kinds s.2 in
            elim (bind_refused (b s.1) (λ y behind. Got (s.0, y) behind) why left s.3) [
              | inl h ↦ second_refused ts s.1 s.0 why left kinds f.0 f.1 f.2 (two.refused s.1 why left (kinds_behind (show s.0) ts s.1 kinds f.0) h)
              | inr t ↦ absurd (got_not_refused t.3)
            ]
      ]

  pub both_reads : Reads l {X = A × B} (λ p. show p.0 ++ show2 p.1) (λ p. Shape p.0 × Shape2 p.1) (both a b)
  both_reads = record {
    one = ((one.one.0, two.one.0), good_both one.one.0 two.one.0 one.one.1 two.one.1);
    some_mark = λ p. let e = length-append (show p.0) (show2 p.1) in let h = one.some_mark p.0 in omega (arith, e, h);
    told = λ p. told_join (show p.0) (show2 p.1) (one.told p.0) (two.told p.1);
    sole = both_sole;
    found = both_found;
    refused = both_refused;
  }
