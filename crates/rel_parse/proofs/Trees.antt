-- What a reader that is exact reads from a token on, and what it refuses there, with the tokens by their number.
use Rattle.std.proofs.Common.{◌≡◌, ℕ, zero, suc, ◌+◌, ◌-◌, ◌<◌, ◌≤◌, List, [], ◌∷◌, length, take, drop, All, Result, Ok, Err, inl, inr, refl, sym, subst, arith, length-drop}
use Rattle.std.specs.Prelude.{IfOk, IfErr}
use Rattle.std.specs.List.{AllByRecursion}
use Rattle.std.proofs.lemmas.List.Elements.{recursion_from_All}
use Rattle.std.proofs.lemmas.Slice.{between_to_end}
use Rattle.rel_lang.specs.Text.{Mark}
use Rattle.rel_lang.specs.Refusal.{limits, IsWithin, GoesOn, Reason, Unexpected, TooDeep, TooMany, IsOverAt, reach}
use Rattle.rel_lexer.specs.declared.Token.{Token}
use Rattle.rel_lexer.specs.Tokens.{tokens_of, HasKind}
use Rattle.rel_parse.specs.declared.fault.Fault.{Fault}
use Rattle.rel_parse.specs.declared.fault.Fault.TheVariants as faults
use Rattle.rel_parse.specs.declared.tree.ParseFault.{ParseFault}
use Rattle.rel_parse.specs.declared.tree.ParseFault.TheVariants as refusal
use Rattle.rel_parse.specs.Gives.{Gives}
use Rattle.rel_parse.specs.Reading.{Got, Refused, Reader}
use Rattle.rel_parse.specs.Trees.{IsWithinLimits, CanBePrinted, Stands, IsRead, IsTreeRefused, HasParseFault, numbered}
use Rattle.rel_parse.proofs.Laws.{HaveKinds, Good, Reads}
use Rattle.rel_parse.proofs.Along.{spelled_length, spelled_goes, goes_less, within_less, within_all, le_reach}
use Rattle.rel_parse.proofs.Both.{compared}

kinds_from : (n : ℕ) (ts : List Token) → HaveKinds ts → HaveKinds (drop n ts)
kinds_from zero ts kinds = kinds
kinds_from (suc n) [] kinds = kinds
kinds_from (suc n) (t ∷ ts) kinds = kinds_from n ts kinds.1

module _ {X : Type 0} (show : X → List Mark) (Shape : X → Type 0) (r : Reader X) (reads : Reads limits show Shape r) (us : List Token) (kinds : HaveKinds us) where
  long : (x : X) (rest : List Token) → r us ≡ Got x rest → length (show x) + length rest ≡ length us
  long x rest h = spelled_length (show x) us rest (reads.found us rest x kinds h).0

  -- a tree whose marks are all said there is the one that is read
  same : (x y : X) (rest : List Token) → r us ≡ Got x rest → Good show Shape y → GoesOn (length (show y)) (show y) (tokens_of us) → x ≡ y
  same x y rest h g said =
      let f = reads.found us rest x kinds h in
      let gone = spelled_goes (show x) us rest f.0 in
      sym (elim (compared (length (show x)) (length (show y))) [
        | inl shorter ↦ reads.sole x f.1 y us (length (show x)) kinds g (inl (omega arith)) (within_all limits (show x) (length (show x)) f.2) gone
            (goes_less (show y) (tokens_of us) (length (show x)) (length (show y)) shorter said)
        | inr longer ↦ reads.sole x f.1 y us (length (show y)) kinds g (inr (omega arith)) (within_all limits (show x) (length (show y)) f.2)
            (goes_less (show x) (tokens_of us) (length (show y)) (length (show x)) (omega (arith, longer)) gone) said
      ])

  never_over : (why : Reason) (n : ℕ) (ms : List Mark) → IsOverAt limits why n ms → AllByRecursion (IsWithin limits) ms → ⊥
  never_over why n [] o w = o
  never_over Unexpected zero (m ∷ ms) o w = o
  never_over TooDeep zero (m ∷ ms) o w = let le = w.0.0 in omega (arith, o, le)
  never_over TooMany zero (m ∷ ms) o w = let le = w.0.1 in let lt = o.1 in omega (arith, lt, le)
  never_over why (suc n) (m ∷ ms) o w = never_over why n ms o w.1

  -- such a tree within the limits isn't refused
  taken : (y : X) (why : Reason) (left : ℕ) → r us ≡ Refused why left → Good show Shape y → GoesOn (length (show y)) (show y) (tokens_of us) → IsWithinLimits show y → ⊥
  taken y why left h g said w =
      let f = reads.refused us why left kinds h in
      let z = f.begun.0 in
      let reaches = le_reach why f.passed in
      elim (compared (length (show y)) f.passed) [
        | inl short ↦
            let one = reads.sole z f.begun.1 y us (length (show y)) kinds g (inr (omega arith)) (within_less limits (show z) (length (show y)) f.passed short f.begun.3)
            (goes_less (show z) (tokens_of us) (length (show y)) (reach why f.passed) (omega (arith, short, reaches)) f.begun.2) said in
            let more : f.passed < length (show y) = subst (λ x. f.passed < length (show x)) (sym one) f.begun.4 in
            omega (arith, more, short)
        | inr longer ↦
            never_over why f.passed (show y) (f.stuck y g (goes_less (show y) (tokens_of us) (suc f.passed) (length (show y)) (omega (arith, longer)) said)) w
      ]

-- what a call promises of its result, with the tree that is seen of the code's value
pub record IsExact {V X : Type 0} (tree : V → X) (show : X → List Mark) (Shape : X → Type 0) (from : ℕ) (ts : List Token) (result : Result (V × ℕ) ParseFault) : Type 0 where
  pub read : IfOk result (λ x. IsRead show Shape from ts (tree x.0) x.1)
  pub only : (y : X) → Stands show Shape from ts y → IfOk result (λ x. tree x.0 ≡ y)
  pub found : (y : X) → Stands show Shape from ts y → IsWithinLimits show y → IfErr result (λ f. f ≡ refusal.Memory)
  pub refused : IfErr result (λ f. HasParseFault show Shape from ts f)

module _ {W V X : Type 0} (seen : W → V × List Token) (tree : V → X) (show : X → List Mark) (Shape : X → Type 0) (r : Reader X) (reads : Reads limits show Shape r) (from : ℕ) (ts : List Token) (have : All HasKind ts) (inside : from ≤ length ts) where
  abbrev us : List Token
  us = drop from ts

  kinds : HaveKinds us
  kinds = kinds_from from ts (recursion_from_All HasKind ts have)

  printed : (x : X) → Good show Shape x → CanBePrinted show Shape x
  printed x g = record { shape = g.0; words = g.1 }

  good : (x : X) → CanBePrinted show Shape x → Good show Shape x
  good x p = (p.shape, p.words)

  abbrev Sees : Result W Fault → Type 0
  Sees read = Gives {X = W} {Y = X} (λ w. (tree (seen w).0, (seen w).1)) read (r us)

  read_by : (read : Result W Fault) → Sees read → IfOk (numbered seen (length ts) read) (λ x. IsRead show Shape from ts (tree x.0) x.1)
  read_by (Ok w) h =
      let x = tree (seen w).0 in
      let f = reads.found us (seen w).1 x kinds h in
      let one = long show Shape r reads us kinds x (seen w).1 h in
      let two = length-drop from ts in
      record {
        stands = record { printed = printed x f.1; said = spelled_goes (show x) us (seen w).1 f.0 };
        fits = f.2;
        behind = omega (arith, one, two, inside);
      }
  read_by (Err e) h = tt

  only_by : (read : Result W Fault) → Sees read → (y : X) → Stands show Shape from ts y → IfOk (numbered seen (length ts) read) (λ x. tree x.0 ≡ y)
  only_by (Ok w) h y s = same show Shape r reads us kinds (tree (seen w).0) y (seen w).1 h (good y s.printed) s.said
  only_by (Err e) h y s = tt

  never : (y : X) (why : Reason) (left : ℕ) → r us ≡ Refused why left → Stands show Shape from ts y → IsWithinLimits show y → ⊥
  never y why left h s fits = taken show Shape r reads us kinds y why left h (good y s.printed) s.said fits

  found_by : (read : Result W Fault) → Sees read → (y : X) → Stands show Shape from ts y → IsWithinLimits show y → IfErr (numbered seen (length ts) read) (λ f. f ≡ refusal.Memory)
  found_by (Ok w) h y s fits = tt
  found_by (Err (faults.Unexpected left)) h y s fits = absurd (never y Unexpected left h s fits)
  found_by (Err (faults.TooDeep left)) h y s fits = absurd (never y TooDeep left h s fits)
  found_by (Err (faults.TooMany left)) h y s fits = absurd (never y TooMany left h s fits)
  found_by (Err faults.Memory) h y s fits = refl

  refused_at : (why : Reason) (left : ℕ) → r us ≡ Refused why left → IsTreeRefused show Shape why from ts (length ts - left)
  refused_at why left h =
      let f = reads.refused us why left kinds h in
      let y = f.begun.0 in
      let two = length-drop from ts in
      let behind = f.behind in
      record {
        passed = f.passed;
        placed = omega (arith, two, behind, inside);
        inside = omega arith;
        begun = (y, printed y f.begun.1, f.begun.2, f.begun.3, f.begun.4);
        stuck = λ z p goes. f.stuck z (good z p) goes;
      }

  refused_by : (read : Result W Fault) → Sees read → IfErr (numbered seen (length ts) read) (λ f. HasParseFault show Shape from ts f)
  refused_by (Ok w) h = tt
  refused_by (Err (faults.Unexpected left)) h = refused_at Unexpected left h
  refused_by (Err (faults.TooDeep left)) h = refused_at TooDeep left h
  refused_by (Err (faults.TooMany left)) h = refused_at TooMany left h
  refused_by (Err faults.Memory) h = tt

  numbered_exact : (read : Result W Fault) → Sees read → IsExact tree show Shape from ts (numbered seen (length ts) read)
  numbered_exact read h = record { read = read_by read h; only = only_by read h; found = found_by read h; refused = refused_by read h }

-- at each depth
pub is_exact : {W V X : Type 0} (seen : W → V × List Token) (tree : V → X) (show : ℕ → X → List Mark) (Shape : X → Type 0) (at : ℕ → Reader X)
    → ((d left : ℕ) → d + left ≡ suc limits.deepest → Reads limits (show d) Shape (at left))
    → (d from : ℕ) (ts : List Token) → All HasKind ts → from ≤ length ts → d ≤ suc limits.deepest → (read : Result W Fault) (result : Result (V × ℕ) ParseFault)
    → Gives {X = W} {Y = X} (λ w. (tree (seen w).0, (seen w).1)) read (at (65 - d) (take (length ts - from) (drop from ts))) → result ≡ numbered seen (length ts) read
    → IsExact tree (show d) Shape from ts result
is_exact {W = W} {X = X} seen tree show Shape at law d from ts have inside deep read result h e =
    let sum : d + (65 - d) ≡ suc limits.deepest = omega (arith, deep) in
    let exact = numbered_exact seen tree (show d) Shape (at (65 - d)) (law d (65 - d) sum) from ts have inside read (subst (λ us. Gives {X = W} {Y = X} (λ w. (tree (seen w).0, (seen w).1)) read (at (65 - d) us)) (between_to_end ts from (length ts) (omega arith)) h) in
    subst (λ x. IsExact tree (show d) Shape from ts x) (sym e) exact
