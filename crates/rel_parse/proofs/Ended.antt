-- A symbol behind what is read may be read further in.
use Rattle.std.proofs.Common.{◌≡◌, Bool, true, false, refl, sym}
use Rattle.std.proofs.Math.Path.{fun_ext}
use Rattle.std.specs.Prelude.{if◌then◌else◌, List, length}
use Rattle.rel_lang.specs.Refusal.{Unexpected, TooDeep}
use Rattle.rel_lexer.specs.declared.Token.{Token}
use Rattle.rel_lexer.specs.declared.Kind.{Kind}
use Rattle.rel_parse.specs.Reading.{Reading, Got, Refused, Reader, then_read, expect_at, made, both, after, before, placed, place_of, either, too_deep_at}

pub then_then : {A B C : Type 0} (read : Reading A) (f : A → List Token → Reading B) (g : B → List Token → Reading C)
    → then_read (then_read read f) g ≡ then_read read (λ a rest. then_read (f a rest) g)
then_then (Got a rest) f g = refl
then_then (Refused why left) f g = refl

-- what is made of a tree, with the symbol behind it
moved : {A X : Type 0} (f : A → X) (k : Kind) (read : Reading A)
    → then_read (then_read read (λ a rest. Got (f a) rest)) (λ x rest. then_read (expect_at k rest) (λ u behind. Got x behind))
    ≡ then_read (then_read read (λ x rest. then_read (expect_at k rest) (λ u behind. Got x behind))) (λ a rest. Got (f a) rest)
moved f k (Got a rest) = sym (then_then (expect_at k rest) (λ u behind. Got a behind) (λ x behind. Got (f x) behind))
moved f k (Refused why left) = refl

pub before_made : {A X : Type 0} (k : Kind) (f : A → X) (r : Reader A) → before k (made f r) ≡ made f (before k r)
before_made k f r = fun_ext (λ ts. moved f k (r ts))

pub before_after : {A : Type 0} (k j : Kind) (r : Reader A) → before k (after j r) ≡ after j (before k r)
before_after k j r = fun_ext (λ ts. then_then (expect_at j ts) (λ u rest. r rest) (λ x rest. then_read (expect_at k rest) (λ u behind. Got x behind)))

beside : {A B : Type 0} (k : Kind) (b : Reader B) (read : Reading A)
    → then_read {A = A × B} (then_read read (λ x rest. then_read (b rest) (λ y behind. Got (x, y) behind))) (λ p rest. then_read (expect_at k rest) (λ u behind. Got p behind))
    ≡ then_read read (λ x rest. then_read {A = B} (then_read (b rest) (λ y behind. then_read (expect_at k behind) (λ u last. Got y last))) (λ y behind. Got (x, y) behind))
beside k b (Got x rest) = moved (λ y. (x, y)) k (b rest)
beside k b (Refused why left) = refl

pub before_both : {A B : Type 0} (k : Kind) (a : Reader A) (b : Reader B) → before k (both a b) ≡ both a (before k b)
before_both k a b = fun_ext (λ ts. beside k b (a ts))

pub chosen : {A B : Type 0} (v : Bool) (x y : Reading A) (f : A → List Token → Reading B) → then_read (if v then x else y) f ≡ (if v then then_read x f else then_read y f)
chosen true x y f = refl
chosen false x y f = refl

pub before_either : {A : Type 0} (k : Kind) (p : List Token → Bool) (a b : Reader A) → before k (either p a b) ≡ either p (before k a) (before k b)
before_either k p a b = fun_ext (λ ts. chosen (p ts) (a ts) (b ts) (λ x rest. then_read (expect_at k rest) (λ u behind. Got x behind)))

pub before_placed : {A : Type 0} (k : Kind) (r : Reader A) → before k (placed r) ≡ placed (before k r)
before_placed k r = fun_ext (λ ts. moved (λ x. (place_of ts, x)) k (r ts))

abbrev refused_by : {X : Type 0} → Bool → List Token → Reading X
refused_by v ts = if v then Refused TooDeep (length ts) else Refused Unexpected (length ts)

stays : {A : Type 0} (v : Bool) (ts : List Token) (k : Kind) → then_read {A = A} {B = A} (refused_by v ts) (λ x rest. then_read (expect_at k rest) (λ u behind. Got x behind)) ≡ refused_by v ts
stays true ts k = refl
stays false ts k = refl

pub before_too_deep : {A : Type 0} (k : Kind) (p : List Token → Bool) → before k (too_deep_at {X = A} p) ≡ too_deep_at p
before_too_deep {A = A} k p = fun_ext (λ ts. stays {A = A} (p ts) ts k)

-- the first of two is kept, and the second is a symbol
kept : {A X : Type 0} (f : A → X) (k : Kind) (read : Reading A)
    → then_read {A = A × Unit {0}} (then_read read (λ x rest. then_read (expect_at k rest) (λ u behind. Got (x, u) behind))) (λ q rest. Got (f q.0) rest)
    ≡ then_read (then_read read (λ a rest. Got (f a) rest)) (λ x rest. then_read (expect_at k rest) (λ u behind. Got x behind))
kept f k (Got a rest) = then_then (expect_at k rest) (λ u behind. Got (a, u) behind) (λ q rest. Got (f q.0) rest)
kept f k (Refused why left) = refl

pub made_first : {A X : Type 0} (f : A → X) (k : Kind) (r : Reader A) → made (λ (q : A × Unit {0}). f q.0) (both r (expect_at k)) ≡ before k (made f r)
made_first f k r = fun_ext (λ ts. kept f k (r ts))

kept_alone : {A : Type 0} (k : Kind) (read : Reading A)
    → then_read {A = A × Unit {0}} (then_read read (λ x rest. then_read (expect_at k rest) (λ u behind. Got (x, u) behind))) (λ q rest. Got q.0 rest)
    ≡ then_read read (λ x rest. then_read (expect_at k rest) (λ u behind. Got x behind))
kept_alone k (Got a rest) = then_then (expect_at k rest) (λ u behind. Got (a, u) behind) (λ q rest. Got q.0 rest)
kept_alone k (Refused why left) = refl

pub first_alone : {A : Type 0} (k : Kind) (r : Reader A) → made (λ (q : A × Unit {0}). q.0) (both r (expect_at k)) ≡ before k r
first_alone k r = fun_ext (λ ts. kept_alone k (r ts))
