-- What is made of what a reader reads may be made further in.
use Rattle.std.proofs.Common.{◌≡◌, Bool, true, false, refl}
use Rattle.std.proofs.Math.Path.{fun_ext}
use Rattle.std.specs.Prelude.{if◌then◌else◌, List}
use Rattle.rel_lexer.specs.declared.Token.{Token}
use Rattle.rel_lexer.specs.declared.Kind.{Kind}
use Rattle.rel_parse.specs.Reading.{Reading, Got, Refused, Reader, then_read, expect_at, made, after, before, either}

made_then : {A B X : Type 0} (f : B → X) (read : Reading A) (r : A → List Token → Reading B)
    → then_read (then_read read r) (λ b rest. Got (f b) rest) ≡ then_read read (λ a rest. then_read (r a rest) (λ b behind. Got (f b) behind))
made_then f (Got a rest) r = refl
made_then f (Refused why left) r = refl

pub made_made : {A B X : Type 0} (f : B → X) (g : A → B) (r : Reader A) → made f (made g r) ≡ made (λ a. f (g a)) r
made_made f g r = fun_ext (λ ts. made_then f (r ts) (λ a rest. Got (g a) rest))

pub made_after : {A X : Type 0} (f : A → X) (k : Kind) (r : Reader A) → made f (after k r) ≡ after k (made f r)
made_after f k r = fun_ext (λ ts. made_then f (expect_at k ts) (λ u rest. r rest))

closing : {A X : Type 0} (f : A → X) (k : Kind) (read : Reading A)
    → then_read (then_read read (λ x rest. then_read (expect_at k rest) (λ u behind. Got x behind))) (λ a rest. Got (f a) rest)
    ≡ then_read (then_read read (λ a rest. Got (f a) rest)) (λ x rest. then_read (expect_at k rest) (λ u behind. Got x behind))
closing f k (Got a rest) = made_then f (expect_at k rest) (λ u behind. Got a behind)
closing f k (Refused why left) = refl

pub made_before : {A X : Type 0} (f : A → X) (k : Kind) (r : Reader A) → made f (before k r) ≡ before k (made f r)
made_before f k r = fun_ext (λ ts. closing f k (r ts))

choice : {A X : Type 0} (f : A → X) (v : Bool) (a b : Reading A)
    → then_read (if v then a else b) (λ x rest. Got (f x) rest) ≡ (if v then then_read a (λ x rest. Got (f x) rest) else then_read b (λ x rest. Got (f x) rest))
choice f true a b = refl
choice f false a b = refl

pub made_either : {A X : Type 0} (f : A → X) (p : List Token → Bool) (a b : Reader A) → made f (either p a b) ≡ either p (made f a) (made f b)
made_either f p a b = fun_ext (λ ts. choice f (p ts) (a ts) (b ts))
