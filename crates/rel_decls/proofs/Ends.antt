-- A repetition up to the end of the tokens.
use Rattle.std.proofs.Common.{◌≡◌, ℕ, zero, suc, ◌+◌, ◌<◌, ◌≤◌, Bool, true, false, if◌then◌else◌, List, [], ◌∷◌, ◌++◌, length, Option, Some, None, inl, inr, refl, sym, ap, ◌∙◌, subst, arith}
use Rattle.std.specs.List.{AllByRecursion}
use Rattle.std.proofs.lemmas.List.{length-append}
use Rattle.rel_lang.specs.Text.{Says, CanBeSaid, Mark, word, element, repeated, Match}
use Rattle.rel_lang.specs.Refusal.{Limits, IsWithin, IsBefore, GoesOn, AreWithin, Reason, Unexpected, TooDeep, TooMany, IsOver, IsOverAt, reach}
use Rattle.rel_lexer.specs.declared.Token.{Token}
use Rattle.rel_lexer.specs.declared.Kind.{Kind}
use Rattle.rel_lexer.specs.Tokens.{tokens_of}
use Rattle.rel_parse.specs.Reading.{Reading, Got, Refused, Reader, then_read, with_first, many_at}
use Rattle.rel_parse.proofs.Laws.{HaveKinds, Spelled, CanAllBeSaid, IsToldBy, AreTold, Good, AllWithin, Refuses, Reads, Always, fixed_text, IsShallow, ShapeAll, element_reads}
use Rattle.rel_parse.proofs.Along.{all_join, all_left, all_right, kinds_behind, spelled_length, spelled_goes, spelled_one, spelled_join, goes_length, goes_less, goes_in, goes_out, within_less, within_all, within_out, told_join, le_reach}
use Rattle.rel_parse.proofs.Both.{bind_got, bind_refused, got_is, got_not_refused, compared}
use Rattle.rel_parse.proofs.Single.{clash, refused_is}

when : {A : Type 0} (b : Bool) (x y z : Reading A) → b ≡ true → (if b then x else y) ≡ z → x ≡ z
when true x y z e h = h
when false x y z e h = absurd cc

unless : {A : Type 0} (b : Bool) (x y z : Reading A) → b ≡ false → (if b then x else y) ≡ z → y ≡ z
unless true x y z e h = absurd cc
unless false x y z e h = h

-- ---- marks and tokens

is_before : (m : Mark) (ms : List Mark) (ts : List Token) → IsToldBy m.told ms → Match ms (tokens_of ts) → (o : Option (List ℕ)) → o ≡ m.told → IsToldBy o ms → IsBefore o (tokens_of ts)
is_before m ms ts told match None e h = tt
is_before m [] ts told match (Some w) e h = absurd h
is_before m (n ∷ ms) [] told match (Some w) e h = absurd match
is_before m (n ∷ ms) (t ∷ ts) told match (Some w) e h = subst (λ s. Says t.text.now s) h match.0

pub match_spelled : (ms : List Mark) (ts : List Token) → AreTold ms → Match ms (tokens_of ts) → Spelled ms ts []
match_spelled [] [] told match = refl
match_spelled [] (t ∷ ts) told match = absurd match
match_spelled (m ∷ ms) [] told match = absurd match
match_spelled (m ∷ ms) (t ∷ ts) told match = (match.0, match.1, is_before m ms ts told.0 match.2 m.told refl told.0, match_spelled ms ts told.1 match.2)

pub spelled_match : (ms : List Mark) (ts : List Token) → Spelled ms ts [] → Match ms (tokens_of ts)
spelled_match [] [] h = tt
spelled_match [] (t ∷ ts) h = absurd cc
spelled_match (m ∷ ms) [] h = absurd h
spelled_match (m ∷ ms) (t ∷ ts) h = (h.0, h.1, spelled_match ms ts h.3)

spelled_split : (ms ns : List Mark) (ts rest : List Token) → Spelled (ms ++ ns) ts rest → (mid : List Token) × Spelled ms ts mid × Spelled ns mid rest
spelled_split [] ns ts rest h = (ts, refl, h)
spelled_split (m ∷ ms) ns [] rest h = absurd h
spelled_split (m ∷ ms) ns (t ∷ ts) rest h = let s = spelled_split ms ns ts rest h.3 in (s.0, (h.0, h.1, h.2, s.1), s.2)

-- past the limit behind the last mark stands nothing
over_out : (l : Limits) (why : Reason) (ms : List Mark) (m : Mark) (n : ℕ) → suc n ≤ length ms → IsOverAt l why n (ms ++ m ∷ []) → IsOverAt l why n ms
over_out l why [] m n le h = absurd (omega arith)
over_out l why (a ∷ ms) m zero le h = h
over_out l why (a ∷ ms) m (suc n) le h = over_out l why ms m n (omega arith) h

never_over : (l : Limits) (why : Reason) (w : List ℕ) → IsOver l why (word w) → ⊥
never_over l Unexpected w h = h
never_over l TooDeep w h = omega (arith, h)
never_over l TooMany w h = omega (arith, h.1)

over_last : (l : Limits) (why : Reason) (ms : List Mark) (w : List ℕ) (n : ℕ) → length ms ≤ n → IsOverAt l why n (ms ++ word w ∷ []) → ⊥
over_last l why [] w zero le h = never_over l why w h
over_last l why [] w (suc n) le h = h
over_last l why (a ∷ ms) w zero le h = omega arith
over_last l why (a ∷ ms) w (suc n) le h = over_last l why ms w n (omega arith) h

-- ---- the repetition

module _ (l : Limits) {X : Type 0} (show : X → List Mark) (Shape : X → Type 0) (r : Reader X) (p : List Token → Bool) (one : Reads l show Shape r) (shallow : (x : X) → IsShallow l (show x)) (none : p [] ≡ false) where
  abbrev nth : ℕ → X → List Mark
  nth n x = element n (show x)

  exact : (n : ℕ) → n ≤ l.most → Reads l (nth n) Shape r
  exact n le = element_reads l show Shape r n le shallow one

  element_told : (n : ℕ) (ms : List Mark) → AreTold ms → AreTold (element n ms)
  element_told n [] h = h
  element_told n (m ∷ ms) h = h

  pub all_told : (n : ℕ) (xs : List X) → AreTold (repeated show n xs)
  all_told n [] = tt
  all_told n (x ∷ xs) = told_join (nth n x) (repeated show (suc n) xs) (element_told n (show x) (one.told x)) (all_told (suc n) xs)

  abbrev pub Goods : ℕ → List X → Type 0
  Goods n xs = AllByRecursion Shape xs × CanAllBeSaid (repeated show n xs)

  good_first : (n : ℕ) (x : X) (xs : List X) → Goods n (x ∷ xs) → Good (nth n) Shape x
  good_first n x xs g = (g.0.0, all_left (λ m. CanBeSaid m.said) (nth n x) (repeated show (suc n) xs) g.1)

  good_rest : (n : ℕ) (x : X) (xs : List X) → Goods n (x ∷ xs) → Goods (suc n) xs
  good_rest n x xs g = (g.0.1, all_right (λ m. CanBeSaid m.said) (nth n x) (repeated show (suc n) xs) g.1)

  abbrev pub Found : ℕ → List Token → List Token → List X → Type 0
  Found n ts rest xs = Spelled (repeated show n xs) ts rest × Goods n xs × AllByRecursion (IsWithin l) (repeated show n xs) × (p rest ≡ false)

  found_none : (n : ℕ) (ts rest : List Token) (xs : List X) → p ts ≡ false → Got [] ts ≡ Got xs rest → Found n ts rest xs
  found_none n ts rest xs e h =
      let s = got_is h in
      let q : Found n ts ts [] = (refl, (tt, tt), tt, e) in
      subst (λ ys. Found n ts rest ys) s.0 (subst (λ us. Found n ts us []) s.1 q)

  found_some : (n : ℕ) (ts mid rest : List Token) (x : X) (xs : List X) → n ≤ l.most → HaveKinds ts → r ts ≡ Got x mid → Found (suc n) mid rest xs → Found n ts rest (x ∷ xs)
  found_some n ts mid rest x xs le kinds e g =
      let f = (exact n le).found ts mid x kinds e in (
        spelled_join (nth n x) (repeated show (suc n) xs) ts mid rest f.0 g.0,
        ((f.1.0, g.1.0), all_join (λ m. CanBeSaid m.said) (nth n x) (repeated show (suc n) xs) f.1.1 g.1.1),
        all_join (IsWithin l) (nth n x) (repeated show (suc n) xs) f.2 g.2,
        g.3,
      )

  behind_found : (n : ℕ) (ts mid : List Token) (x : X) → n ≤ l.most → HaveKinds ts → r ts ≡ Got x mid → HaveKinds mid
  behind_found n ts mid x le kinds e = kinds_behind (nth n x) ts mid kinds ((exact n le).found ts mid x kinds e).0

  found_by : (v : Bool) (k n : ℕ) (ts rest : List Token) (xs : List X) → p ts ≡ v → n + k ≡ suc l.most → HaveKinds ts → many_at p r k ts ≡ Got xs rest → Found n ts rest xs
  unfolding many_at
  found_by true zero n ts rest xs e sum kinds h = absurd (got_not_refused (sym (when (p ts) (Refused TooMany (length ts)) (Got [] ts) (Got xs rest) e h)))
  found_by false zero n ts rest xs e sum kinds h = found_none n ts rest xs e (unless (p ts) (Refused TooMany (length ts)) (Got [] ts) (Got xs rest) e h)
  found_by false (suc k) n ts rest xs e sum kinds h =
      found_none n ts rest xs e (unless (p ts) (then_read (r ts) (λ x mid. with_first x (many_at p r k mid))) (Got [] ts) (Got xs rest) e h)
  found_by true (suc k) n ts rest xs e sum kinds h =
      let s = bind_got (r ts) (λ x mid. with_first x (many_at p r k mid)) xs rest (when (p ts) (then_read (r ts) (λ x mid. with_first x (many_at p r k mid))) (Got [] ts) (Got xs rest) e h) in
      let t = bind_got (many_at p r k s.1) (λ ys us. Got (s.0 ∷ ys) us) xs rest s.3 in
      let q = got_is t.3 in
      let le : n ≤ l.most = omega arith in
      let g = found_by (p s.1) k (suc n) s.1 t.1 t.0 refl (omega arith) (behind_found n ts s.1 s.0 le kinds s.2) t.2 in
      subst (λ ys. Found n ts rest ys) q.0 (subst (λ us. Found n ts us (s.0 ∷ t.0)) q.1 (found_some n ts s.1 t.1 s.0 t.0 le kinds s.2 g))

  pub many_found : (k n : ℕ) (ts rest : List Token) (xs : List X) → n + k ≡ suc l.most → HaveKinds ts → many_at p r k ts ≡ Got xs rest → Found n ts rest xs
  many_found k n ts rest xs sum kinds h = found_by (p ts) k n ts rest xs refl sum kinds h

  -- ---- no two lists are spelled alike

  same_first : (n : ℕ) → n ≤ l.most → (x y : X) (ts mid other : List Token) → HaveKinds ts → Good (nth n) Shape x → AllWithin l (nth n) Shape x → Good (nth n) Shape y
      → Spelled (nth n x) ts mid → Spelled (nth n y) ts other → y ≡ x
  same_first n le x y ts mid other kinds gx within gy sx sy =
      elim (compared (length (nth n x)) (length (nth n y))) [
        | inl shorter ↦ (exact n le).sole x gx y ts (length (nth n x)) kinds gy (inl (omega arith)) (within_all l (nth n x) (length (nth n x)) within) (spelled_goes (nth n x) ts mid sx)
            (goes_less (nth n y) (tokens_of ts) (length (nth n x)) (length (nth n y)) shorter (spelled_goes (nth n y) ts other sy))
        | inr longer ↦ (exact n le).sole x gx y ts (length (nth n y)) kinds gy (inr (omega arith)) (within_all l (nth n x) (length (nth n y)) within)
            (goes_less (nth n x) (tokens_of ts) (length (nth n y)) (length (nth n x)) (omega (arith, longer)) (spelled_goes (nth n x) ts mid sx)) (spelled_goes (nth n y) ts other sy)
      ]

  first_mark : (n : ℕ) (x : X) (xs : List X) → n ≤ l.most → (rest : List Token) → Spelled (repeated show n (x ∷ xs)) [] rest → ⊥
  first_mark n x xs le rest h =
      let s = spelled_split (nth n x) (repeated show (suc n) xs) [] rest h in
      let len = spelled_length (nth n x) [] s.0 s.1 in
      let some = (exact n le).some_mark x in
      omega (arith, len, some)

  abbrev Within : ℕ → List X → Type 0
  Within n xs = AllByRecursion (IsWithin l) (repeated show n xs)

  -- an element within the limits has a number that is
  in_number : (n : ℕ) (x : X) (xs : List X) → Within n (x ∷ xs) → n ≤ l.most
  in_number n x xs w = number_of (show x) (repeated show (suc n) xs) (one.some_mark x) w
    where
      number_of : (ms ns : List Mark) → 0 < length ms → AllByRecursion (IsWithin l) (element n ms ++ ns) → n ≤ l.most
      number_of [] ns some w = absurd (omega (arith, some))
      number_of (m ∷ ms) ns some w = w.0.1

  none_left : (n : ℕ) (y : X) (ys : List X) (ts : List Token) → ts ≡ [] → Spelled (repeated show n (y ∷ ys)) ts [] → ⊥
  none_left n y ys ts e h = marks (show y) (repeated show (suc n) ys) (one.some_mark y) (subst (λ us. Spelled (repeated show n (y ∷ ys)) us []) e h)
    where
      marks : (ms ns : List Mark) → 0 < length ms → Spelled (element n ms ++ ns) [] [] → ⊥
      marks [] ns some h = omega (arith, some)
      marks (m ∷ ms) ns some h = h

  pub same_lists : (n : ℕ) (xs ys : List X) (ts : List Token) → HaveKinds ts → Goods n xs → Within n xs → Goods n ys → Spelled (repeated show n xs) ts [] → Spelled (repeated show n ys) ts [] → xs ≡ ys
  same_lists n [] [] ts kinds gx within gy sx sy = refl
  same_lists n [] (y ∷ ys) ts kinds gx within gy sx sy = absurd (none_left n y ys ts sx sy)
  same_lists n (x ∷ xs) [] ts kinds gx within gy sx sy = absurd (none_left n x xs ts sy sx)
  same_lists n (x ∷ xs) (y ∷ ys) ts kinds gx within gy sx sy =
      let le = in_number n x xs within in
      let a = spelled_split (nth n x) (repeated show (suc n) xs) ts [] sx in
      let b = spelled_split (nth n y) (repeated show (suc n) ys) ts [] sy in
      let w = all_left (IsWithin l) (nth n x) (repeated show (suc n) xs) within in
      let same = same_first n le x y ts a.0 b.0 kinds (good_first n x xs gx) w (good_first n y ys gy) a.1 b.1 in
      let mid = spelled_one (nth n x) ts b.0 a.0 (subst (λ z. Spelled (nth n z) ts b.0) same b.1) a.1 in
      let rest = same_lists (suc n) xs ys a.0 (kinds_behind (nth n x) ts a.0 kinds a.1) (good_rest n x xs gx) (all_right (IsWithin l) (nth n x) (repeated show (suc n) xs) within) (good_rest n y ys gy) a.2 (subst (λ us. Spelled (repeated show (suc n) ys) us []) mid b.2) in
      ap (λ z. z ∷ xs) (sym same) ∙ ap (λ zs. y ∷ zs) rest

  -- ---- a whole list isn't refused at its end

  short_by : (v : Bool) (ts : List Token) → p ts ≡ v → v ≡ true → length ts ≡ 0 → ⊥
  short_by v [] e t z = clash (p []) (e ∙ t) none
  short_by v (t ∷ ts) e u z = omega (arith, z)

  refused_whole : (n : ℕ) (y : X) (ts mid : List Token) (why : Reason) → n ≤ l.most → HaveKinds ts → Good (nth n) Shape y → Spelled (nth n y) ts mid → r ts ≡ Refused why 0 → ⊥
  refused_whole n y ts mid why le kinds gy sy e =
      let h = (exact n le).refused ts why 0 kinds e in
      let z = h.begun.0 in
      let len = spelled_length (nth n y) ts mid sy in
      let reaches = le_reach why h.passed in
      let enough : length (nth n y) ≤ h.passed = omega (arith, len, h.behind) in
      let same = (exact n le).sole z h.begun.1 y ts (length (nth n y)) kinds gy (inr (omega arith)) (within_less l (nth n z) (length (nth n y)) h.passed enough h.begun.3)
      (goes_less (nth n z) (tokens_of ts) (length (nth n y)) (reach why h.passed) (omega (arith, enough, reaches)) h.begun.2) (spelled_goes (nth n y) ts mid sy) in
      let longer : h.passed < length (nth n y) = subst (λ x. h.passed < length (nth n x)) (sym same) h.begun.4 in
      omega (arith, longer, enough)

  never_by : (v : Bool) (k n : ℕ) (ts : List Token) (ys : List X) (why : Reason) → p ts ≡ v → n + k ≡ suc l.most → HaveKinds ts → Goods n ys → Spelled (repeated show n ys) ts [] → many_at p r k ts ≡ Refused why 0 → ⊥
  unfolding many_at
  never_by true zero n ts ys why e sum kinds g s h = short_by true ts e refl (refused_is (when (p ts) (Refused TooMany (length ts)) (Got [] ts) (Refused why 0) e h)).1
  never_by false zero n ts ys why e sum kinds g s h = got_not_refused (unless (p ts) (Refused TooMany (length ts)) (Got [] ts) (Refused why 0) e h)
  never_by false (suc k) n ts ys why e sum kinds g s h = got_not_refused (unless (p ts) (then_read (r ts) (λ x mid. with_first x (many_at p r k mid))) (Got [] ts) (Refused why 0) e h)
  never_by true (suc k) n ts [] why e sum kinds g s h = clash (p []) (subst (λ us. p us ≡ true) s e) none
  never_by true (suc k) n ts (y ∷ ys) why e sum kinds g s h =
      let le : n ≤ l.most = omega arith in
      let b = spelled_split (nth n y) (repeated show (suc n) ys) ts [] s in
      elim (bind_refused (r ts) (λ x mid. with_first x (many_at p r k mid)) why 0 (when (p ts) (then_read (r ts) (λ x mid. with_first x (many_at p r k mid))) (Got [] ts) (Refused why 0) e h)) [
        | inl refused ↦ refused_whole n y ts b.0 why le kinds (good_first n y ys g) b.1 refused
        | inr f ↦
            let q = (exact n le).found ts f.1 f.0 kinds f.2 in
            let same = same_first n le f.0 y ts f.1 b.0 kinds q.1 q.2 (good_first n y ys g) q.0 b.1 in
            let mid = spelled_one (nth n f.0) ts b.0 f.1 (subst (λ z. Spelled (nth n z) ts b.0) same b.1) q.0 in
            elim (bind_refused (many_at p r k f.1) (λ zs us. Got (f.0 ∷ zs) us) why 0 f.3) [
              | inl more ↦ never_by (p f.1) k (suc n) f.1 ys why refl (omega arith) (kinds_behind (nth n f.0) ts f.1 kinds q.0) (good_rest n y ys g) (subst (λ us. Spelled (repeated show (suc n) ys) us []) mid b.2) more
              | inr got ↦ got_not_refused got.3
            ]
      ]

  pub never_short : (k n : ℕ) (ts : List Token) (ys : List X) (why : Reason) → n + k ≡ suc l.most → HaveKinds ts → Goods n ys → Spelled (repeated show n ys) ts [] → many_at p r k ts ≡ Refused why 0 → ⊥
  never_short k n ts ys why sum kinds g s h = never_by (p ts) k n ts ys why refl sum kinds g s h

  -- ---- refusals

  -- some list goes on up to the refused token, and with it for a limit; each that goes on with it is past the limit there
  pub record Stops (why : Reason) (left : ℕ) (ts : List Token) : Type 0 where
    pub passed : ℕ
    pub behind : passed + left ≡ length ts
    pub begun : (ys : List X) × Goods 1 ys × GoesOn (reach why passed) (repeated show 1 ys) (tokens_of ts) × AreWithin l passed (repeated show 1 ys)
    pub stuck : (ys : List X) → Goods 1 ys → GoesOn (suc passed) (repeated show 1 ys) (tokens_of ts) → IsOverAt l why passed (repeated show 1 ys)

  module _ (k : Kind) where
    abbrev show_closed : List X × Unit {0} → List Mark
    show_closed q = repeated show 1 q.0 ++ word (fixed_text k) ∷ []

    abbrev ShapeClosed : List X × Unit {0} → Type 0
    ShapeClosed = ShapeAll Shape (Always {X = Unit {0}})

    good_closed : (ys : List X) → Goods 1 ys → Good show_closed ShapeClosed (ys, tt)
    good_closed ys g = ((g.0, tt), all_join (λ m. CanBeSaid m.said) (repeated show 1 ys) (word (fixed_text k) ∷ []) g.1 (tt, tt))

    good_open : (q : List X × Unit {0}) → Good show_closed ShapeClosed q → Goods 1 q.0
    good_open q g = (g.0.0, all_left (λ m. CanBeSaid m.said) (repeated show 1 q.0) (word (fixed_text k) ∷ []) g.1)

    reached : (why : Reason) (left : ℕ) (ts : List Token) (h : Refuses l show_closed ShapeClosed why left ts) → reach why h.passed ≤ length (repeated show 1 h.begun.0.0)
    reached why left ts h =
        let ms = repeated show 1 h.begun.0.0 in
        let len = length-append ms (word (fixed_text k) ∷ []) in
        by_reason why h.passed ms (omega (arith, h.begun.4, len)) (λ goes. h.stuck h.begun.0 h.begun.1 goes) h.begun.2
      where
        by_reason : (why : Reason) (n : ℕ) (ms : List Mark) → n ≤ length ms → (GoesOn (suc n) (ms ++ word (fixed_text k) ∷ []) (tokens_of ts) → IsOverAt l why n (ms ++ word (fixed_text k) ∷ []))
            → GoesOn (reach why n) (ms ++ word (fixed_text k) ∷ []) (tokens_of ts) → reach why n ≤ length ms
        by_reason Unexpected n ms le stuck goes = le
        by_reason TooDeep n ms le stuck goes = elim (compared (suc n) (length ms)) [ inl lt ↦ lt | inr ge ↦ absurd (over_last l TooDeep ms (fixed_text k) n (omega (arith, ge)) (stuck goes)) ]
        by_reason TooMany n ms le stuck goes = elim (compared (suc n) (length ms)) [ inl lt ↦ lt | inr ge ↦ absurd (over_last l TooMany ms (fixed_text k) n (omega (arith, ge)) (stuck goes)) ]

    pub stops_of : (why : Reason) (left : ℕ) (ts : List Token) → Refuses l show_closed ShapeClosed why left ts → Stops why left ts
    stops_of why left ts h =
        let ys = h.begun.0.0 in
        let last = word (fixed_text k) ∷ [] in
        record {
          passed = h.passed;
          behind = h.behind;
          begun = (
            ys,
            good_open h.begun.0 h.begun.1,
            goes_out (repeated show 1 ys) last (tokens_of ts) (reach why h.passed) (reached why left ts h) h.begun.2,
            within_out l (repeated show 1 ys) last h.passed h.begun.3,
          );
          stuck = λ zs g goes.
              over_out l why (repeated show 1 zs) (word (fixed_text k)) h.passed (goes_length (repeated show 1 zs) (tokens_of ts) (suc h.passed) goes)
              (h.stuck (zs, tt) (good_closed zs g) (goes_in (repeated show 1 zs) last (tokens_of ts) (suc h.passed) goes));
        }
