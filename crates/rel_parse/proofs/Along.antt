-- How marks go along tokens: of some marks, and of those in front of others.
use Rattle.std.proofs.Common.{◌≡◌, ℕ, zero, suc, ◌+◌, ◌≤◌, List, [], ◌∷◌, ◌++◌, length, Option, Some, None, refl, sym, ap, ◌∙◌, subst, arith}
use Rattle.std.specs.List.{AllByRecursion}
use Rattle.rel_lang.specs.Syntax.{Word}
use Rattle.rel_lang.specs.Tokens.{Token as Piece}
use Rattle.rel_lang.specs.Text.{Mark}
use Rattle.rel_lang.specs.Refusal.{Limits, IsWithin, GoesOn, AreWithin, Reason, Unexpected, TooDeep, TooMany, IsOverAt, reach}
use Rattle.rel_lexer.specs.declared.Token.{Token}
use Rattle.rel_lexer.specs.Tokens.{tokens_of}
use Rattle.rel_parse.proofs.Exact.{HaveKinds, Spelled, IsToldBy, AreTold}

-- ---- all of some, in front of others

module _ {X : Type 0} (P : X → Type 0) where
  pub all_join : (xs ys : List X) → AllByRecursion P xs → AllByRecursion P ys → AllByRecursion P (xs ++ ys)
  all_join [] ys h k = k
  all_join (x ∷ xs) ys h k = (h.0, all_join xs ys h.1 k)

  pub all_left : (xs ys : List X) → AllByRecursion P (xs ++ ys) → AllByRecursion P xs
  all_left [] ys h = tt
  all_left (x ∷ xs) ys h = (h.0, all_left xs ys h.1)

  pub all_right : (xs ys : List X) → AllByRecursion P (xs ++ ys) → AllByRecursion P ys
  all_right [] ys h = h
  all_right (x ∷ xs) ys h = all_right xs ys h.1

-- ---- marks that are spelled

pub kinds_behind : (ms : List Mark) (ts rest : List Token) → HaveKinds ts → Spelled ms ts rest → HaveKinds rest
kinds_behind [] ts rest kinds s = subst HaveKinds s kinds
kinds_behind (m ∷ ms) [] rest kinds s = absurd s
kinds_behind (m ∷ ms) (t ∷ ts) rest kinds s = kinds_behind ms ts rest kinds.1 s.3

pub spelled_length : (ms : List Mark) (ts rest : List Token) → Spelled ms ts rest → length ms + length rest ≡ length ts
spelled_length [] ts rest s = let e : length ts ≡ length rest = ap length s in omega arith
spelled_length (m ∷ ms) [] rest s = absurd s
spelled_length (m ∷ ms) (t ∷ ts) rest s = let e = spelled_length ms ts rest s.3 in omega arith

pub spelled_goes : (ms : List Mark) (ts rest : List Token) → Spelled ms ts rest → GoesOn (length ms) ms (tokens_of ts)
spelled_goes [] ts rest s = tt
spelled_goes (m ∷ ms) [] rest s = absurd s
spelled_goes (m ∷ ms) (t ∷ ts) rest s = (s.0, s.1, s.2, spelled_goes ms ts rest s.3)

-- what stands behind them is one
pub spelled_one : (ms : List Mark) (ts rest other : List Token) → Spelled ms ts rest → Spelled ms ts other → rest ≡ other
spelled_one [] ts rest other s o = sym s ∙ o
spelled_one (m ∷ ms) [] rest other s o = absurd s
spelled_one (m ∷ ms) (t ∷ ts) rest other s o = spelled_one ms ts rest other s.3 o.3

pub spelled_join : (ms ns : List Mark) (ts mid rest : List Token) → Spelled ms ts mid → Spelled ns mid rest → Spelled (ms ++ ns) ts rest
spelled_join [] ns ts mid rest s o = subst (λ us. Spelled ns us rest) (sym s) o
spelled_join (m ∷ ms) ns [] mid rest s o = absurd s
spelled_join (m ∷ ms) ns (t ∷ ts) mid rest s o = (s.0, s.1, s.2, spelled_join ms ns ts mid rest s.3 o)

pub spelled_split : (ms ns : List Mark) (ts rest : List Token) → Spelled (ms ++ ns) ts rest → (mid : List Token) × Spelled ms ts mid × Spelled ns mid rest
spelled_split [] ns ts rest s = (ts, refl, s)
spelled_split (m ∷ ms) ns [] rest s = absurd s
spelled_split (m ∷ ms) ns (t ∷ ts) rest s = let h = spelled_split ms ns ts rest s.3 in (h.0, (s.0, s.1, s.2, h.1), h.2)

-- ---- marks that go on

pub goes_length : (ms : List Mark) (ps : List Piece) (n : ℕ) → GoesOn n ms ps → n ≤ length ms
goes_length ms ps zero g = omega arith
goes_length [] ps (suc n) g = absurd g
goes_length (m ∷ ms) [] (suc n) g = absurd g
goes_length (m ∷ ms) (p ∷ ps) (suc n) g = let h = goes_length ms ps n g.3 in omega arith

pub goes_less : (ms : List Mark) (ps : List Piece) (j n : ℕ) → j ≤ n → GoesOn n ms ps → GoesOn j ms ps
goes_less ms ps zero n le g = tt
goes_less ms ps (suc j) zero le g = absurd (omega arith)
goes_less [] ps (suc j) (suc n) le g = absurd g
goes_less (m ∷ ms) [] (suc j) (suc n) le g = absurd g
goes_less (m ∷ ms) (p ∷ ps) (suc j) (suc n) le g = (g.0, g.1, g.2, goes_less ms ps j n (omega arith) g.3)

pub goes_in : (ms ns : List Mark) (ps : List Piece) (n : ℕ) → GoesOn n ms ps → GoesOn n (ms ++ ns) ps
goes_in ms ns ps zero g = tt
goes_in [] ns ps (suc n) g = absurd g
goes_in (m ∷ ms) ns [] (suc n) g = absurd g
goes_in (m ∷ ms) ns (p ∷ ps) (suc n) g = (g.0, g.1, g.2, goes_in ms ns ps n g.3)

pub goes_out : (ms ns : List Mark) (ps : List Piece) (n : ℕ) → n ≤ length ms → GoesOn n (ms ++ ns) ps → GoesOn n ms ps
goes_out ms ns ps zero le g = tt
goes_out [] ns ps (suc n) le g = absurd (omega arith)
goes_out (m ∷ ms) ns [] (suc n) le g = absurd g
goes_out (m ∷ ms) ns (p ∷ ps) (suc n) le g = (g.0, g.1, g.2, goes_out ms ns ps n (omega arith) g.3)

pub goes_join : (ms ns : List Mark) (ts mid : List Token) (n k : ℕ) → n ≡ length ms + k → Spelled ms ts mid → GoesOn k ns (tokens_of mid) → GoesOn n (ms ++ ns) (tokens_of ts)
goes_join [] ns ts mid n k e s g =
    let same : k ≡ n = omega arith in
    subst (λ us. GoesOn n ns (tokens_of us)) (sym s) (subst (λ j. GoesOn j ns (tokens_of mid)) same g)
goes_join (m ∷ ms) ns [] mid n k e s g = absurd s
goes_join (m ∷ ms) ns (t ∷ ts) mid zero k e s g = tt
goes_join (m ∷ ms) ns (t ∷ ts) mid (suc n) k e s g = (s.0, s.1, s.2, goes_join ms ns ts mid n k (omega arith) s.3 g)

-- the first are spelled, and the others go on behind them
pub goes_split : (ms ns : List Mark) (ts : List Token) (n k : ℕ) → n ≡ length ms + k → GoesOn n (ms ++ ns) (tokens_of ts) → (mid : List Token) × Spelled ms ts mid × GoesOn k ns (tokens_of mid)
goes_split [] ns ts n k e g = let same : n ≡ k = omega arith in (ts, refl, subst (λ j. GoesOn j ns (tokens_of ts)) same g)
goes_split (m ∷ ms) ns ts zero k e g = absurd (omega arith)
goes_split (m ∷ ms) ns [] (suc n) k e g = absurd g
goes_split (m ∷ ms) ns (t ∷ ts) (suc n) k e g = let h = goes_split ms ns ts n k (omega arith) g.3 in (h.0, (g.0, g.1, g.2, h.1), h.2)

-- ---- limits

module _ (l : Limits) where
  pub within_less : (ms : List Mark) (j n : ℕ) → j ≤ n → AreWithin l n ms → AreWithin l j ms
  within_less ms zero n le w = tt
  within_less ms (suc j) zero le w = absurd (omega arith)
  within_less [] (suc j) (suc n) le w = tt
  within_less (m ∷ ms) (suc j) (suc n) le w = (w.0, within_less ms j n (omega arith) w.1)

  pub within_all : (ms : List Mark) (n : ℕ) → AllByRecursion (IsWithin l) ms → AreWithin l n ms
  within_all ms zero h = tt
  within_all [] (suc n) h = tt
  within_all (m ∷ ms) (suc n) h = (h.0, within_all ms n h.1)

  pub all_within : (ms : List Mark) (n : ℕ) → length ms ≤ n → AreWithin l n ms → AllByRecursion (IsWithin l) ms
  all_within [] n le w = tt
  all_within (m ∷ ms) zero le w = absurd (omega arith)
  all_within (m ∷ ms) (suc n) le w = (w.0, all_within ms n (omega arith) w.1)

  pub within_in : (ms ns : List Mark) (n : ℕ) → n ≤ length ms → AreWithin l n ms → AreWithin l n (ms ++ ns)
  within_in ms ns zero le w = tt
  within_in [] ns (suc n) le w = absurd (omega arith)
  within_in (m ∷ ms) ns (suc n) le w = (w.0, within_in ms ns n (omega arith) w.1)

  pub within_out : (ms ns : List Mark) (n : ℕ) → AreWithin l n (ms ++ ns) → AreWithin l n ms
  within_out ms ns zero w = tt
  within_out [] ns (suc n) w = tt
  within_out (m ∷ ms) ns (suc n) w = (w.0, within_out ms ns n w.1)

  pub within_join : (ms ns : List Mark) (n k : ℕ) → n ≡ length ms + k → AllByRecursion (IsWithin l) ms → AreWithin l k ns → AreWithin l n (ms ++ ns)
  within_join [] ns n k e h w = let same : k ≡ n = omega arith in subst (λ j. AreWithin l j ns) same w
  within_join (m ∷ ms) ns zero k e h w = tt
  within_join (m ∷ ms) ns (suc n) k e h w = (h.0, within_join ms ns n k (omega arith) h.1 w)

  pub within_behind : (ms ns : List Mark) (n k : ℕ) → n ≡ length ms + k → AreWithin l n (ms ++ ns) → AreWithin l k ns
  within_behind [] ns n k e w = let same : n ≡ k = omega arith in subst (λ j. AreWithin l j ns) same w
  within_behind (m ∷ ms) ns zero k e w = absurd (omega arith)
  within_behind (m ∷ ms) ns (suc n) k e w = within_behind ms ns n k (omega arith) w.1

  pub over_in : (why : Reason) (ms ns : List Mark) (n : ℕ) → IsOverAt l why n ms → IsOverAt l why n (ms ++ ns)
  over_in why [] ns n o = absurd o
  over_in why (m ∷ ms) ns zero o = o
  over_in why (m ∷ ms) ns (suc n) o = over_in why ms ns n o

  pub over_join : (why : Reason) (ms ns : List Mark) (n k : ℕ) → n ≡ length ms + k → IsOverAt l why k ns → IsOverAt l why n (ms ++ ns)
  over_join why [] ns n k e o = let same : k ≡ n = omega arith in subst (λ j. IsOverAt l why j ns) same o
  over_join why (m ∷ ms) ns zero k e o = absurd (omega arith)
  over_join why (m ∷ ms) ns (suc n) k e o = over_join why ms ns n k (omega arith) o

-- ---- told texts

told_in : (o : Option Word) (ms ns : List Mark) → IsToldBy o ms → IsToldBy o (ms ++ ns)
told_in None ms ns t = tt
told_in (Some w) [] ns t = absurd t
told_in (Some w) (m ∷ ms) ns t = t

pub told_join : (ms ns : List Mark) → AreTold ms → AreTold ns → AreTold (ms ++ ns)
told_join [] ns t u = u
told_join (m ∷ ms) ns t u = (told_in m.told ms ns t.0, told_join ms ns t.1 u)

-- ---- how far

pub reach_behind : (why : Reason) (n m k : ℕ) → n ≡ m + k → reach why n ≡ m + reach why k
reach_behind Unexpected n m k e = e
reach_behind TooDeep n m k e = omega arith
reach_behind TooMany n m k e = omega arith

pub le_reach : (why : Reason) (n : ℕ) → n ≤ reach why n
le_reach Unexpected n = omega arith
le_reach TooDeep n = omega arith
le_reach TooMany n = omega arith
