-- Trees told by their first tokens.
use Rattle.std.proofs.Common.{◌≡◌, ℕ, zero, suc, ◌<◌, ◌≤◌, Bool, true, false, not, ◌&&◌, ◌||◌, List, [], ◌∷◌, ◌++◌, length, ℤ, pos, negsuc, Option, Some, None, ◌⊎◌, inl, inr, refl, sym, ap, subst, ◌∙◌, arith}
use Rattle.std.specs.Prelude.{if◌then◌else◌}
use Rattle.std.specs.List.{AllByRecursion}
use Rattle.std.proofs.lemmas.Slice.Eq.{bytes_eq-Decides}
use Rattle.rel_lang.specs.Syntax.{Word}
use Rattle.rel_lang.specs.Text.{Said, Fixed, Name, Literal, Says, CanBeSaid, Mark, word, tree}
use Rattle.rel_lang.specs.Tokens.{is_name}
use Rattle.std.proofs.lemmas.Bool.{both_ways, and_parts, not-true, or_left, or_right}
use Rattle.rel_lang.specs.Refusal.{Limits, IsWithin, GoesOn, AreWithin, Reason, IsOverAt, reach}
use Rattle.rel_lexer.specs.declared.Token.{Token}
use Rattle.rel_lexer.specs.Tokens.{tokens_of, HasKind, IsOfKind}
use Rattle.rel_lexer.specs.declared.Kind.{Kind}
use Rattle.rel_lexer.specs.declared.Kind.TheVariants as kind
use Rattle.rel_lexer.specs.Words.{keyword_text, symbol_text}
use Rattle.rel_lexer.proofs.Kinding.{kind_of_keyword, kind_of_symbol, kind_of_name, kind_of_number}
use Rattle.rel_parse.specs.Reading.{Reading, Got, Refused, Reader, same_fixed, is_name_kind, is_number_kind, expect_at, made, either, then_read}
use Rattle.rel_parse.specs.Firsts.{First, AName, ANumber, This, begins, begins_one, means}
use Rattle.rel_parse.proofs.Laws.{HaveKinds, Spelled, CanAllBeSaid, AreTold, Good, AllWithin, Refuses, IsSole, Reads, Always, fixed_text, IsFixed, IsToldBy, word_reads, IsBare, tree_reads}

-- ---- what a first mark says of a first token

abbrev pub IsFirst : First → List Mark → Type 0
IsFirst c [] = ⊥
IsFirst AName (m ∷ ms) = (x : Word) × (m.said ≡ Name x)
IsFirst ANumber (m ∷ ms) = (n : ℤ) × (m.said ≡ Literal n)
IsFirst (This k) (m ∷ ms) = IsFixed k × (m.said ≡ Fixed (fixed_text k))

abbrev pub IsAmong : First → List First → Type 0
IsAmong c [] = ⊥
IsAmong c (d ∷ ds) = (c ≡ d) ⊎ IsAmong c ds

-- the kind of a token passes
abbrev pub takes : First → Kind → Bool
takes AName k = is_name_kind k
takes ANumber k = is_number_kind k
takes (This j) k = same_fixed k j

abbrev pub takes_one : List First → Kind → Bool
takes_one [] k = false
takes_one (c ∷ []) k = takes c k
takes_one (c ∷ d ∷ ds) k = takes c k || takes_one (d ∷ ds) k

-- a kind of the first
abbrev pub sample : First → Kind
sample AName = kind.Name
sample ANumber = kind.Number (pos 0)
sample (This k) = k

begins_takes : (c : First) (t : Token) (ts : List Token) → begins c (t ∷ ts) ≡ takes c t.kind
begins_takes AName t ts = refl
begins_takes ANumber t ts = refl
begins_takes (This k) t ts = refl

begins_takes_one : (cs : List First) (t : Token) (ts : List Token) → begins_one cs (t ∷ ts) ≡ takes_one cs t.kind
begins_takes_one [] t ts = refl
begins_takes_one (c ∷ []) t ts = begins_takes c t ts
begins_takes_one (c ∷ d ∷ ds) t ts = rw (begins_takes c t ts, begins_takes_one (d ∷ ds) t ts) refl

takes_number : (c : First) (m n : ℤ) → takes c (kind.Number m) ≡ takes c (kind.Number n)
takes_number AName m n = refl
takes_number ANumber m n = refl
takes_number (This (kind.Word k)) m n = refl
takes_number (This kind.Name) m n = refl
takes_number (This (kind.Number k)) m n = refl
takes_number (This (kind.Symbol s)) m n = refl

takes_one_number : (cs : List First) (m n : ℤ) → takes_one cs (kind.Number m) ≡ takes_one cs (kind.Number n)
takes_one_number [] m n = refl
takes_one_number (c ∷ []) m n = takes_number c m n
takes_one_number (c ∷ d ∷ ds) m n = rw (takes_number c m n, takes_one_number (d ∷ ds) m n) refl

-- the kind of a token that says a word or a symbol
pub kind_said : (k : Kind) (t : Token) → IsFixed k → HasKind t → t.text.now ≡ fixed_text k → t.kind ≡ k
kind_said (kind.Word k) t fixed h same = kind_of_keyword t.text.now t.kind k h same
kind_said kind.Name t fixed h same = absurd fixed
kind_said (kind.Number n) t fixed h same = absurd fixed
kind_said (kind.Symbol s) t fixed h same = kind_of_symbol t.text.now t.kind s h same

-- names, numbers and the rest
pub number_said : (n : ℤ) (t : Token) → HasKind t → CanBeSaid (Literal n) → Says t.text.now (Literal n) → t.kind ≡ kind.Number n
number_said (pos n) t h can says = kind_of_number t.text.now t.kind n h (sym says) can
number_said (negsuc n) t h can says = absurd can

says_as : (m : Mark) (s : Said) (t : Token) → m.said ≡ s → Says t.text.now m.said → Says t.text.now s
says_as m s t e says = subst (λ x. Says t.text.now x) e says

can_as : (m : Mark) (s : Said) → m.said ≡ s → CanBeSaid m.said → CanBeSaid s
can_as m s e can = subst CanBeSaid e can

first_takes : (cs : List First) (c : First) (m : Mark) (ms : List Mark) (t : Token) → IsFirst c (m ∷ ms) → HasKind t → CanBeSaid m.said → Says t.text.now m.said → takes_one cs t.kind ≡ takes_one cs (sample c)
first_takes cs AName m ms t f h can says =
    let e : Says t.text.now (Name f.0) = says_as m (Name f.0) t f.1 says in
    let n = can_as m (Name f.0) f.1 can in
    ap (takes_one cs) (kind_of_name t.text.now t.kind h (ap is_name (sym e) ∙ n))
first_takes cs ANumber m ms t f h can says =
    ap (takes_one cs) (number_said f.0 t h (can_as m (Literal f.0) f.1 can) (says_as m (Literal f.0) t f.1 says)) ∙ takes_one_number cs f.0 (pos 0)
first_takes cs (This k) m ms t f h can says =
    ap (takes_one cs) (kind_said k t f.0 h (sym (says_as m (Fixed (fixed_text k)) t f.1 says)))

pub first_begins : (cs : List First) (c : First) (ms : List Mark) (ts : List Token) → IsFirst c ms → HaveKinds ts → CanAllBeSaid ms → GoesOn 1 ms (tokens_of ts) → begins_one cs ts ≡ takes_one cs (sample c)
first_begins cs c [] ts f kinds can goes = absurd goes
first_begins cs c (m ∷ ms) [] f kinds can goes = absurd goes
first_begins cs c (m ∷ ms) (t ∷ ts) f kinds can goes = begins_takes_one cs t ts ∙ first_takes cs c m ms t f kinds.0 can.0 goes.0

pub same_fixed_self : (k : Kind) → IsFixed k → same_fixed k k ≡ true
same_fixed_self (kind.Word k) fixed = (bytes_eq-Decides (keyword_text k) (keyword_text k)).1 refl
same_fixed_self kind.Name fixed = absurd fixed
same_fixed_self (kind.Number n) fixed = absurd fixed
same_fixed_self (kind.Symbol s) fixed = (bytes_eq-Decides (symbol_text s) (symbol_text s)).1 refl

takes_self : (c : First) (ms : List Mark) → IsFirst c ms → takes c (sample c) ≡ true
takes_self AName ms f = refl
takes_self ANumber ms f = refl
takes_self (This k) [] f = absurd f
takes_self (This k) (m ∷ ms) f = same_fixed_self k f.0

takes_among : (cs : List First) (c : First) → IsAmong c cs → takes c (sample c) ≡ true → takes_one cs (sample c) ≡ true
takes_among [] c among e = absurd among
takes_among (d ∷ []) c (inl same) e = subst (λ x. takes x (sample c) ≡ true) same e
takes_among (d ∷ []) c (inr among) e = absurd among
takes_among (d ∷ g ∷ ds) c (inl same) e = or_left (takes d (sample c)) (takes_one (g ∷ ds) (sample c)) (subst (λ x. takes x (sample c) ≡ true) same e)
takes_among (d ∷ g ∷ ds) c (inr among) e = or_right (takes d (sample c)) (takes_one (g ∷ ds) (sample c)) (takes_among (g ∷ ds) c among e)

-- none of the second ones is one of the first
abbrev pub are_apart : List First → List First → Bool
are_apart cs [] = true
are_apart cs (d ∷ ds) = not (takes_one cs (sample d)) && are_apart cs ds

apart_among : (cs ds : List First) (c : First) → are_apart cs ds ≡ true → IsAmong c ds → takes_one cs (sample c) ≡ false
apart_among cs [] c apart among = absurd among
apart_among cs (d ∷ ds) c apart (inl same) = let parts = and_parts (not (takes_one cs (sample d))) (are_apart cs ds) apart in subst (λ x. takes_one cs (sample x) ≡ false) (sym same) (not-true _ parts.0)
apart_among cs (d ∷ ds) c apart (inr among) = let parts = and_parts (not (takes_one cs (sample d))) (are_apart cs ds) apart in apart_among cs ds c parts.1 among

pub among_front : (cs ds : List First) (c : First) → IsAmong c cs → IsAmong c (cs ++ ds)
among_front [] ds c among = absurd among
among_front (d ∷ cs) ds c (inl same) = inl same
among_front (d ∷ cs) ds c (inr among) = inr (among_front cs ds c among)

pub among_back : (cs ds : List First) (c : First) → IsAmong c ds → IsAmong c (cs ++ ds)
among_back [] ds c among = among
among_back (d ∷ cs) ds c among = inr (among_back cs ds c among)

-- ---- a part of the trees of a kind, that begin with some first tokens

abbrev pub BeginsAs : List First → List Mark → Type 0
BeginsAs cs ms = (c : First) × IsAmong c cs × IsFirst c ms

pub always_begins : (cs : List First) (ms : List Mark) (ts : List Token) → BeginsAs cs ms → HaveKinds ts → CanAllBeSaid ms → GoesOn 1 ms (tokens_of ts) → begins_one cs ts ≡ true
always_begins cs ms ts b kinds can goes = first_begins cs b.0 ms ts b.2 kinds can goes ∙ takes_among cs b.0 b.1 (takes_self b.0 ms b.2)

pub never_begins : (cs ds : List First) (ms : List Mark) (ts : List Token) → are_apart cs ds ≡ true → BeginsAs ds ms → HaveKinds ts → CanAllBeSaid ms → GoesOn 1 ms (tokens_of ts) → begins_one cs ts ≡ false
never_begins cs ds ms ts apart b kinds can goes = first_begins cs b.0 ms ts b.2 kinds can goes ∙ apart_among cs ds b.0 apart b.1

no_first : (c : First) → IsFirst c [] → ⊥
no_first AName f = f
no_first ANumber f = f
no_first (This k) f = f

goes_first : (n : ℕ) (ms : List Mark) (ts : List Token) → GoesOn (suc n) ms (tokens_of ts) → GoesOn 1 ms (tokens_of ts)
goes_first n [] ts goes = absurd goes
goes_first n (m ∷ ms) [] goes = absurd goes
goes_first n (m ∷ ms) (t ∷ ts) goes = (goes.0, goes.1, goes.2, tt)

pub some_mark : (cs : List First) (ms : List Mark) → BeginsAs cs ms → 0 < length ms
some_mark cs [] b = absurd (no_first b.0 b.2)
some_mark cs (m ∷ ms) b = omega arith

goes_along : (n : ℕ) (ms : List Mark) (ts : List Token) → 0 < n → GoesOn n ms (tokens_of ts) → GoesOn 1 ms (tokens_of ts)
goes_along zero ms ts lt goes = absurd (omega arith)
goes_along (suc n) ms ts lt goes = goes_first n ms ts goes

-- as many as one of the two has, and so some
some_of_two : (cs ds : List First) (ms ns : List Mark) (n : ℕ) → BeginsAs cs ms → BeginsAs ds ns → (length ms ≤ n) ⊎ (length ns ≤ n) → 0 < n
some_of_two cs ds ms ns n b c (inl le) = let one = some_mark cs ms b in omega (arith, one)
some_of_two cs ds ms ns n b c (inr le) = let one = some_mark ds ns c in omega (arith, one)

pub record Part (l : Limits) {X : Type 0} (show : X → List Mark) (cs : List First) (Shape : X → Type 0) (r : Reader X) : Type 0 where
  pub one : (x : X) × Good show Shape x
  pub firsts : (x : X) → Shape x → BeginsAs cs (show x)
  pub sole : (x : X) → Good show Shape x → IsSole l show Shape x
  pub found : (ts rest : List Token) (x : X) → HaveKinds ts → r ts ≡ Got x rest → Spelled (show x) ts rest × Good show Shape x × AllWithin l show Shape x
  pub refused : (ts : List Token) (why : Reason) (left : ℕ) → HaveKinds ts → r ts ≡ Refused why left → Refuses l show Shape why left ts

when : {A : Type 0} (b : Bool) (x y z : Reading A) → b ≡ true → (if b then x else y) ≡ z → x ≡ z
when true x y z e h = h
when false x y z e h = absurd cc

unless : {A : Type 0} (b : Bool) (x y z : Reading A) → b ≡ false → (if b then x else y) ≡ z → y ≡ z
unless true x y z e h = absurd cc
unless false x y z e h = h

-- this part, or that one, which begins otherwise
module _ (l : Limits) {X : Type 0} (show : X → List Mark) (cs ds : List First) (P Q : X → Type 0) (a b : Reader X) (apart : are_apart cs ds ≡ true) (one : Part l show cs P a) (two : Part l show ds Q b) where
  abbrev Either : X → Type 0
  Either x = P x ⊎ Q x

  begins_first : (x : X) (ts : List Token) → HaveKinds ts → Good show P x → GoesOn 1 (show x) (tokens_of ts) → begins_one cs ts ≡ true
  begins_first x ts kinds good goes = always_begins cs (show x) ts (one.firsts x good.0) kinds good.1 goes

  begins_other : (x : X) (ts : List Token) → HaveKinds ts → Good show Q x → GoesOn 1 (show x) (tokens_of ts) → begins_one cs ts ≡ false
  begins_other x ts kinds good goes = never_begins cs ds (show x) ts apart (two.firsts x good.0) kinds good.1 goes

  differ : (x y : X) (ts : List Token) {Z : Type 0} → HaveKinds ts → Good show P x → Good show Q y → GoesOn 1 (show x) (tokens_of ts) → GoesOn 1 (show y) (tokens_of ts) → Z
  differ x y ts kinds good other goes goes2 = absurd (both_ways (begins_one cs ts) (begins_other y ts kinds other goes2) (begins_first x ts kinds good goes))

  sole_by : (x : X) (px : P x ⊎ Q x) (y : X) (py : P y ⊎ Q y) (ts : List Token) (n : ℕ) → HaveKinds ts → CanAllBeSaid (show x) → CanAllBeSaid (show y) → (length (show x) ≤ n) ⊎ (length (show y) ≤ n)
      → AreWithin l n (show x) → GoesOn n (show x) (tokens_of ts) → GoesOn n (show y) (tokens_of ts) → y ≡ x
  sole_by x (inl px) y (inl py) ts n kinds can can2 le within goes goes2 = one.sole x (px, can) y ts n kinds (py, can2) le within goes goes2
  sole_by x (inl px) y (inr py) ts n kinds can can2 le within goes goes2 =
      let some = some_of_two cs ds (show x) (show y) n (one.firsts x px) (two.firsts y py) le in
      differ x y ts kinds (px, can) (py, can2) (goes_along n (show x) ts some goes) (goes_along n (show y) ts some goes2)
  sole_by x (inr px) y (inl py) ts n kinds can can2 le within goes goes2 =
      let some = some_of_two ds cs (show x) (show y) n (two.firsts x px) (one.firsts y py) le in
      differ y x ts kinds (py, can2) (px, can) (goes_along n (show y) ts some goes2) (goes_along n (show x) ts some goes)
  sole_by x (inr px) y (inr py) ts n kinds can can2 le within goes goes2 = two.sole x (px, can) y ts n kinds (py, can2) le within goes goes2

  found_by : (v : Bool) (ts rest : List Token) (x : X) → HaveKinds ts → begins_one cs ts ≡ v → either (begins_one cs) a b ts ≡ Got x rest → Spelled (show x) ts rest × Good show Either x × AllWithin l show Either x
  found_by true ts rest x kinds e h = let f = one.found ts rest x kinds (when (begins_one cs ts) (a ts) (b ts) (Got x rest) e h) in (f.0, (inl f.1.0, f.1.1), f.2)
  found_by false ts rest x kinds e h = let f = two.found ts rest x kinds (unless (begins_one cs ts) (a ts) (b ts) (Got x rest) e h) in (f.0, (inr f.1.0, f.1.1), f.2)

  refused_by : (v : Bool) (ts : List Token) (why : Reason) (left : ℕ) → HaveKinds ts → begins_one cs ts ≡ v → either (begins_one cs) a b ts ≡ Refused why left → Refuses l show Either why left ts
  refused_by true ts why left kinds e h =
      let f = one.refused ts why left kinds (when (begins_one cs ts) (a ts) (b ts) (Refused why left) e h) in
      record {
        passed = f.passed;
        behind = f.behind;
        begun = (f.begun.0, (inl f.begun.1.0, f.begun.1.1), f.begun.2, f.begun.3, f.begun.4);
        stuck = λ y good goes. elim good.0 as (λ z. IsOverAt l why f.passed (show y)) [
          | inl p ↦ f.stuck y (p, good.1) goes
          | inr q ↦ absurd (both_ways (begins_one cs ts) (begins_other y ts kinds (q, good.1) (goes_first f.passed (show y) ts goes)) e)
        ];
      }
  refused_by false ts why left kinds e h =
      let f = two.refused ts why left kinds (unless (begins_one cs ts) (a ts) (b ts) (Refused why left) e h) in
      record {
        passed = f.passed;
        behind = f.behind;
        begun = (f.begun.0, (inr f.begun.1.0, f.begun.1.1), f.begun.2, f.begun.3, f.begun.4);
        stuck = λ y good goes. elim good.0 as (λ z. IsOverAt l why f.passed (show y)) [
          | inl p ↦ absurd (both_ways (begins_one cs ts) e (begins_first y ts kinds (p, good.1) (goes_first f.passed (show y) ts goes)))
          | inr q ↦ f.stuck y (q, good.1) goes
        ];
      }

  firsts_by : (x : X) → P x ⊎ Q x → BeginsAs (cs ++ ds) (show x)
  firsts_by x (inl p) = let f = one.firsts x p in (f.0, among_front cs ds f.0 f.1, f.2)
  firsts_by x (inr q) = let f = two.firsts x q in (f.0, among_back cs ds f.0 f.1, f.2)

  pub choose : Part l show (cs ++ ds) (λ x. P x ⊎ Q x) (either (begins_one cs) a b)
  choose = record {
    one = (one.one.0, (inl one.one.1.0, one.one.1.1));
    firsts = firsts_by;
    sole = λ x good y ts n kinds good2 le within goes goes2. sole_by x good.0 y good2.0 ts n kinds good.1 good2.1 le within goes goes2;
    found = λ ts rest x kinds h. found_by (begins_one cs ts) ts rest x kinds refl h;
    refused = λ ts why left kinds h. refused_by (begins_one cs ts) ts why left kinds refl h;
  }

pub choose_of : {l : Limits} {X : Type 0} {show : X → List Mark} {cs ds : List First} {P Q : X → Type 0} {a b : Reader X} → Part l show cs P a → Part l show ds Q b → are_apart cs ds ≡ true
    → Part l show (cs ++ ds) (λ x. P x ⊎ Q x) (either (begins_one cs) a b)
choose_of {l = l} {show = show} {cs = cs} {ds = ds} {P = P} {Q = Q} {a = a} {b = b} one two apart = choose l show cs ds P Q a b apart one two

-- ---- the trees that a production makes of others

abbrev pub Image : {A X : Type 0} → (A → X) → (A → Type 0) → X → Type 0
Image {A = A} f Shape x = (a : A) × (f a ≡ x) × Shape a

made_got : {A X : Type 0} (f : A → X) (read : Reading A) (x : X) (rest : List Token) → then_read read (λ a behind. Got (f a) behind) ≡ Got x rest → (a : A) × (read ≡ Got a rest) × (f a ≡ x)
made_got f (Got a behind) x rest e = let same : f a ≡ x = cc in let also : behind ≡ rest = cc in (a, ap (Got a) also, same)
made_got f (Refused why left) x rest e = absurd cc

made_refused : {A X : Type 0} (f : A → X) (read : Reading A) (why : Reason) (left : ℕ) → then_read read (λ a behind. Got (f a) behind) ≡ Refused why left → read ≡ Refused why left
made_refused f (Got a behind) why left e = absurd cc
made_refused f (Refused w n) why left e = let one : w ≡ why = cc in let two : n ≡ left = cc in ap (λ v. Refused v n) one ∙ ap (Refused why) two

module _ (l : Limits) {A X : Type 0} (shown : A → List Mark) (Shape : A → Type 0) (r : Reader A) (show : X → List Mark) (f : A → X) (cs : List First) (read : Reads l shown Shape r) (same : (a : A) → show (f a) ≡ shown a) (first : (a : A) → BeginsAs cs (shown a)) where
  path : (x : X) (i : Image f Shape x) → show x ≡ shown i.0
  path x i = ap show (sym i.1) ∙ same i.0

  sole_of : (x : X) → Good show (Image f Shape) x → IsSole l show (Image f Shape) x
  sole_of x good y ts n kinds good2 le within goes goes2 =
      let a = good.0.0 in
      let b = good2.0.0 in
      let px = path x good.0 in
      let py = path y good2.0 in
      let le2 : (length (shown a) ≤ n) ⊎ (length (shown b) ≤ n) = elim le [ inl h ↦ inl (subst (λ ms. length ms ≤ n) px h) | inr h ↦ inr (subst (λ ms. length ms ≤ n) py h) ] in
      let s = read.sole a (good.0.2, subst CanAllBeSaid px good.1) b ts n kinds (good2.0.2, subst CanAllBeSaid py good2.1) le2
      (subst (λ ms. AreWithin l n ms) px within) (subst (λ ms. GoesOn n ms (tokens_of ts)) px goes) (subst (λ ms. GoesOn n ms (tokens_of ts)) py goes2) in
      sym good2.0.1 ∙ ap f s ∙ good.0.1

  found_of : (ts rest : List Token) (x : X) → HaveKinds ts → made f r ts ≡ Got x rest → Spelled (show x) ts rest × Good show (Image f Shape) x × AllWithin l show (Image f Shape) x
  found_of ts rest x kinds h =
      let m = made_got f (r ts) x rest h in
      let g = read.found ts rest m.0 kinds m.1 in
      let i : Image f Shape x = (m.0, m.2, g.1.0) in
      let back = sym (path x i) in
      (subst (λ ms. Spelled ms ts rest) back g.0, (i, subst CanAllBeSaid back g.1.1), subst (λ ms. AllByRecursion (IsWithin l) ms) back g.2)

  refused_of : (ts : List Token) (why : Reason) (left : ℕ) → HaveKinds ts → made f r ts ≡ Refused why left → Refuses l show (Image f Shape) why left ts
  refused_of ts why left kinds h =
      let g = read.refused ts why left kinds (made_refused f (r ts) why left h) in
      let a = g.begun.0 in
      let back = sym (same a) in
      record {
        passed = g.passed;
        behind = g.behind;
        begun = (f a, ((a, refl, g.begun.1.0), subst CanAllBeSaid back g.begun.1.1), subst (λ ms. GoesOn (reach why g.passed) ms (tokens_of ts)) back g.begun.2, subst (λ ms. AreWithin l g.passed ms) back g.begun.3, subst (λ ms. g.passed < length ms) back g.begun.4);
        stuck = λ y good goes. let p = path y good.0 in subst (λ ms. IsOverAt l why g.passed ms) (sym p) (g.stuck good.0.0 (good.0.2, subst CanAllBeSaid p good.1) (subst (λ ms. GoesOn (suc g.passed) ms (tokens_of ts)) p goes));
      }

  pub production : Part l show cs (Image f Shape) (made f r)
  production = record {
    one = (f read.one.0, ((read.one.0, refl, read.one.1.0), subst CanAllBeSaid (sym (same read.one.0)) read.one.1.1));
    firsts = λ x i. subst (BeginsAs cs) (sym (path x i)) (first i.0);
    sole = sole_of;
    found = found_of;
    refused = refused_of;
  }

-- of trees with their depth
pub leveled : (l : Limits) (d : ℕ) → d ≤ l.deepest → {A X : Type 0} (bare : A → List Mark) (Shape : A → Type 0) (r : Reader A) (show : X → List Mark) (f : A → X) (cs : List First)
    → ((a : A) → IsBare (bare a)) → Reads l bare Shape r → ((a : A) → show (f a) ≡ tree d (bare a)) → ((a : A) → BeginsAs cs (tree d (bare a))) → Part l show cs (Image f Shape) (made f r)
leveled l d le bare Shape r show f cs plain read same first = production l (λ a. tree d (bare a)) Shape r show f cs (tree_reads l bare Shape r d le plain read) same first

-- what one token means
pub meaning : (l : Limits) {X : Type 0} (show : X → List Mark) (k : Kind) → IsFixed k → (x : X) → show x ≡ word (fixed_text k) ∷ [] → Part l show (This k ∷ []) (Image (λ (u : Unit {0}). x) Always) (means k x)
meaning l show k fixed x e = production l (λ u. word (fixed_text k) ∷ []) Always (expect_at k) show (λ u. x) (This k ∷ []) (word_reads l k fixed) (λ u. e) (λ u. (This k, inl refl, (fixed, refl)))

-- the same of trees with their depth
pub meaning_at : (l : Limits) (d : ℕ) → d ≤ l.deepest → {X : Type 0} (show : X → List Mark) (k : Kind) → IsFixed k → (x : X) → show x ≡ tree d (word (fixed_text k) ∷ []) → Part l show (This k ∷ []) (Image (λ (u : Unit {0}). x) Always) (means k x)
meaning_at l d le show k fixed x e = leveled l d le (λ u. word (fixed_text k) ∷ []) Always (expect_at k) show (λ u. x) (This k ∷ []) (λ u. (refl, refl)) (word_reads l k fixed) (λ u. e) (λ u. (This k, inl refl, (fixed, refl)))

-- ---- all trees of a kind

module _ (l : Limits) {X : Type 0} (show : X → List Mark) (cs : List First) (P : X → Type 0) (r : Reader X) (part : Part l show cs P r) (total : (x : X) → P x) (marks : (x : X) → 0 < length (show x)) (told : (x : X) → AreTold (show x)) where
  all : (x : X) → Good show Always x → Good show P x
  all x good = (total x, good.1)

  refused_all : (ts : List Token) (why : Reason) (left : ℕ) → HaveKinds ts → r ts ≡ Refused why left → Refuses l show Always why left ts
  refused_all ts why left kinds h =
      let g = part.refused ts why left kinds h in
      record { passed = g.passed; behind = g.behind; begun = (g.begun.0, (tt, g.begun.1.1), g.begun.2, g.begun.3, g.begun.4); stuck = λ y good goes. g.stuck y (all y good) goes }

  pub whole : Reads l show Always r
  whole = record {
    one = (part.one.0, (tt, part.one.1.1));
    some_mark = marks;
    told = told;
    sole = λ x good y ts n kinds good2 le within goes goes2. part.sole x (all x good) y ts n kinds (all y good2) le within goes goes2;
    found = λ ts rest x kinds h. let g = part.found ts rest x kinds h in (g.0, (tt, g.1.1), g.2);
    refused = refused_all;
  }

-- ---- some tree begins with a token

pub number_of_kind : (k : Kind) (w : Word) → IsOfKind k w → is_number_kind k ≡ true → (n : ℤ) × Says w (Literal n) × CanBeSaid (Literal n)
number_of_kind (kind.Word k) w h e = absurd cc
number_of_kind kind.Name w h e = absurd cc
number_of_kind (kind.Number (pos n)) w h e = (pos n, sym h.0, h.1)
number_of_kind (kind.Number (negsuc n)) w h e = absurd h
number_of_kind (kind.Symbol s) w h e = absurd cc

pub name_of_kind : (k : Kind) (w : Word) → IsOfKind k w → is_name_kind k ≡ true → is_name w ≡ true
name_of_kind (kind.Word k) w h e = absurd cc
name_of_kind kind.Name w h e = h
name_of_kind (kind.Number n) w h e = absurd cc
name_of_kind (kind.Symbol s) w h e = absurd cc

pub fixed_of_kind : (j k : Kind) (w : Word) → IsOfKind j w → same_fixed j k ≡ true → fixed_text k ≡ w
fixed_of_kind (kind.Word j) (kind.Word k) w h e = sym ((bytes_eq-Decides (keyword_text j) (keyword_text k)).0 e) ∙ sym h
fixed_of_kind (kind.Symbol j) (kind.Symbol k) w h e = sym ((bytes_eq-Decides (symbol_text j) (symbol_text k)).0 e) ∙ sym h
fixed_of_kind (kind.Word j) kind.Name w h e = absurd cc
fixed_of_kind (kind.Word j) (kind.Number k) w h e = absurd cc
fixed_of_kind (kind.Word j) (kind.Symbol k) w h e = absurd cc
fixed_of_kind (kind.Symbol j) kind.Name w h e = absurd cc
fixed_of_kind (kind.Symbol j) (kind.Number k) w h e = absurd cc
fixed_of_kind (kind.Symbol j) (kind.Word k) w h e = absurd cc
fixed_of_kind kind.Name (kind.Word k) w h e = absurd cc
fixed_of_kind kind.Name kind.Name w h e = absurd cc
fixed_of_kind kind.Name (kind.Number k) w h e = absurd cc
fixed_of_kind kind.Name (kind.Symbol k) w h e = absurd cc
fixed_of_kind (kind.Number j) (kind.Word k) w h e = absurd cc
fixed_of_kind (kind.Number j) kind.Name w h e = absurd cc
fixed_of_kind (kind.Number j) (kind.Number k) w h e = absurd cc
fixed_of_kind (kind.Number j) (kind.Symbol k) w h e = absurd cc

-- ---- told marks last where marks are put together

is_told_before : (o : Option Word) (ms ns : List Mark) → IsToldBy o ms → IsToldBy o (ms ++ ns)
is_told_before None ms ns told = tt
is_told_before (Some w) [] ns told = absurd told
is_told_before (Some w) (m ∷ ms) ns told = told

pub told_append : (ms ns : List Mark) → AreTold ms → AreTold ns → AreTold (ms ++ ns)
told_append [] ns told more = more
told_append (m ∷ ms) ns told more = (is_told_before m.told ms ns told.0, told_append ms ns told.1 more)

pub told_tree : (d : ℕ) (ms : List Mark) → AreTold ms → AreTold (tree d ms)
told_tree d [] told = told
told_tree d (m ∷ ms) told = told
