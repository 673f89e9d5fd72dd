-- A proof file says few enough steps for numbers of 32 bits.
use Rattle.std.proofs.Common.{◌≡◌, ℕ, suc, ◌<◌, ◌^◌, true, false, Bool, cond, List, [], ◌∷◌, length, Option, Some, None, option_map, option_and_then, refl, ap, arith}
use Rattle.std.proofs.lemmas.Bool.{leb-true}
use Rattle.std.specs.Prelude.{nat_le}
use Rattle.serde_json.specs.Data.{Data}
use Rattle.rel_straight.specs.declared.step.Step.{Step}
use Rattle.rel_top.specs.ProofFile.{traverse, step_of, steps_of, derivation_of, json_of, proof_of}

length_traverse : {A B : Type 0} (f : A → Option B) (xs : List A) (ys : List B) → traverse f xs ≡ Some ys → length ys ≡ length xs
length_traverse f [] [] e = refl
length_traverse f [] (y ∷ ys) e = cc
length_traverse {A} {B} f (x ∷ xs) ys e = cases (f x) (traverse f xs) (length_traverse f xs) ys e
  where
    cases : (o : Option B) (rest : Option (List B)) → ((zs : List B) → rest ≡ Some zs → length zs ≡ length xs) → (ys : List B)
        → option_and_then (λ y. option_map (λ zs. y ∷ zs) rest) o ≡ Some ys → length ys ≡ suc (length xs)
    cases None rest h ys e = cc
    cases (Some y) None h ys e = cc
    cases (Some y) (Some zs) h [] e = cc
    cases (Some y) (Some zs) h (z ∷ more) e = let same : zs ≡ more = cc in ap suc (h more (ap Some same))

few : (b : Bool) (n : ℕ) (rest : Option (List Step)) (steps : List Step) → nat_le n (2 ^ 20) ≡ b → ((zs : List Step) → rest ≡ Some zs → length zs ≡ n) → cond b rest None ≡ Some steps
    → length steps < 2 ^ 32
few true n rest steps is h e = omega (arith, leb-true n (2 ^ 20) is, h steps e)
few false n rest steps is h e = cc

of_steps : (o : Option (List Data)) (steps : List Step) → option_and_then steps_of o ≡ Some steps → length steps < 2 ^ 32
of_steps None steps e = cc
of_steps (Some ds) steps e = few (nat_le (length ds) (2 ^ 20)) (length ds) (traverse step_of ds) steps refl (length_traverse step_of ds) e

pub few_steps : (bytes : List ℕ) (steps : List Step) → proof_of bytes ≡ Some steps → length steps < 2 ^ 32
few_steps bytes steps e = of_steps (option_and_then derivation_of (json_of bytes)) steps e
