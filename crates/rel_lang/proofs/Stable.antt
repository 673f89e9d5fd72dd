-- Relational truth is what isn't false.
use Rattle.std.proofs.Common.{Bool, true, false, IsTrue, refl, true≢false, sym}
use Rattle.rel_lang.specs.Syntax.{Left, Right, RelTrue, RelFalse, OnLeft, OnRight, Both, Agree, AgreeImage, RelNot, RelAnd, RelOr, RelImplies, RelEvery, RelExists, Eventually}
use Rattle.rel_lang.specs.Relation.{with_member}
use Rattle.rel_lang.specs.Laws.{RelationalTruthIsStable}

test_is_stable : (b : Bool) → ¬ (¬ (IsTrue b)) → IsTrue b
test_is_stable true h = refl
test_is_stable false h = absurd (h (λ e. true≢false (sym e)))

not_is_stable : {A : Type 0} → ¬ (¬ (¬ A)) → ¬ A
not_is_stable h a = h (λ n. n a)

pub stable : RelationalTruthIsStable
stable tables RelTrue l r q h = tt
stable tables RelFalse l r q h = h (λ e. e)
stable tables (OnLeft p) l r q h = test_is_stable _ h
stable tables (OnRight p) l r q h = test_is_stable _ h
stable tables (Both p) l r q h = (test_is_stable _ (λ n. h (λ b. n b.0)), test_is_stable _ (λ n. h (λ b. n b.1)))
stable tables (Agree a b) l r q h = test_is_stable _ h
stable tables (AgreeImage g f) l r q h = test_is_stable _ h
stable tables (RelNot a) l r q h = not_is_stable h
stable tables (RelAnd a b) l r q h = (stable tables a l r q (λ n. h (λ b. n b.0)), stable tables b l r q (λ n. h (λ b. n b.1)))
stable tables (RelOr a b) l r q h = not_is_stable h
stable tables (RelImplies a b) l r q h = λ e. stable tables b l r q (λ n. h (λ f. n (f e)))
stable tables (RelEvery Left x c g a) l r q h = λ o m. stable tables a (with_member x c o l) r q (λ n. h (λ f. n (f o m)))
stable tables (RelEvery Right x c g a) l r q h = λ o m. stable tables a l (with_member x c o r) q (λ n. h (λ f. n (f o m)))
stable tables (RelExists Left x c g a) l r q h = not_is_stable h
stable tables (RelExists Right x c g a) l r q h = not_is_stable h
stable tables (Eventually a) l r q h = not_is_stable h
