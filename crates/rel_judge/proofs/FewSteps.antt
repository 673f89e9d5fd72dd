-- A proof file says few enough steps for numbers of 32 bits.
use Rattle.std.proofs.Common.{◌≡◌, ℕ, suc, ◌<◌, ◌^◌, true, false, Bool, cond, List, [], ◌∷◌, length, map, Result, Ok, Err, refl, sym, ap, subst, ◌∙◌, arith}
use Rattle.std.proofs.lemmas.Bool.{leb-true}
use Rattle.std.proofs.lemmas.List.{length-map}
use Rattle.std.specs.Prelude.{nat_le, ok_or}
use Rattle.std.specs.List.{AllByRecursion}
use Rattle.serde_json.specs.Data.{Data}
use Rattle.rules_table.specs.Nodes.{Stp}
use Rattle.rules_table.specs.View.{step_of}
use Rattle.rules_table.specs.declared.step.Step.{Step}
use Rattle.rel_proofio.specs.Parts.{elements_of}
use Rattle.rel_proofio.specs.ProofFile.{result_and_then, each, most_steps, step_at, steps_at, derivation_at, derivations_of, json_of, proof_in, proof_of}
use Rattle.rel_proofio.specs.declared.fault.ProofFault.{ProofFault}
use Rattle.rel_proofio.specs.declared.fault.ProofFault.TheVariants.{NotJson, Malformed}
use Rattle.rel_proofio.specs.declared.fault.Spot.TheVariants as spot
use Rattle.rel_judge.specs.Judged.{IsShort}

ok_is : {A E : Type 0} (x y : A) → ◌≡◌ {A = Result A E} (Ok x) (Ok y) → x ≡ y
ok_is x y e = cc

and_then_ok : {A B E : Type 0} (f : A → Result B E) (r : Result A E) (y : B) → result_and_then f r ≡ Ok y → (x : A) × (r ≡ Ok x) × (f x ≡ Ok y)
and_then_ok f (Ok x) y e = (x, refl, e)
and_then_ok f (Err g) y e = absurd cc

module _ {A B E : Type 0} (f : ℕ → A → Result B E) where
  abbrev more : ℕ → List A → B → Result (List B) E
  more n xs y = result_and_then (λ ys. Ok (y ∷ ys)) (each f (suc n) xs)

  length_each : (n : ℕ) (xs : List A) (ys : List B) → each f n xs ≡ Ok ys → length ys ≡ length xs
  length_each n [] ys e = ap length (sym (ok_is [] ys e))
  length_each n (x ∷ xs) ys e =
      let a = and_then_ok (more n xs) (f n x) ys e in
      let b = and_then_ok (λ zs. Ok (a.0 ∷ zs)) (each f (suc n) xs) ys a.2 in
      ap length (sym (ok_is (a.0 ∷ b.0) ys b.2)) ∙ ap suc (length_each (suc n) xs b.0 b.1)

  all_each : (P : B → Type 0) → ((n : ℕ) (x : A) (y : B) → f n x ≡ Ok y → P y) → (n : ℕ) (xs : List A) (ys : List B) → each f n xs ≡ Ok ys → AllByRecursion P ys
  all_each P h n [] ys e = subst (AllByRecursion P) (ok_is [] ys e) tt
  all_each P h n (x ∷ xs) ys e =
      let a = and_then_ok (more n xs) (f n x) ys e in
      let b = and_then_ok (λ zs. Ok (a.0 ∷ zs)) (each f (suc n) xs) ys a.2 in
      subst (AllByRecursion P) (ok_is (a.0 ∷ b.0) ys b.2) (h n x a.0 a.1, all_each P h (suc n) xs b.0 b.1)

few : (b : Bool) (n : ℕ) (r : Result (List Stp) ProofFault) (f : ProofFault) (steps : List Stp) → nat_le n most_steps ≡ b → ((zs : List Stp) → r ≡ Ok zs → length zs ≡ n) → cond b r (Err f) ≡ Ok steps
    → IsShort steps
few true n r f steps is h e = omega (arith, leb-true n most_steps is, h steps e)
few false n r f steps is h e = absurd cc

few_at : (p : ℕ) (ds : List Data) (steps : List Stp) → steps_at p ds ≡ Ok steps → IsShort steps
few_at p ds steps e = few (nat_le (length ds) most_steps) (length ds) (each (step_at p) 0 ds) _ steps refl (length_each (step_at p) 0 ds) e

few_in : (p : ℕ) (d : Data) (steps : List Stp) → derivation_at p d ≡ Ok steps → IsShort steps
few_in p d steps e = let a = and_then_ok (steps_at p) (ok_or (elements_of d) (Malformed (spot.Proof p))) steps e in few_at p a.0 steps a.2

all_short : (content : List ℕ) (ds : List (List Stp)) → proof_of content ≡ Ok ds → AllByRecursion IsShort ds
all_short content ds e =
    let a = and_then_ok proof_in (ok_or (json_of content) NotJson) ds e in
    let b = and_then_ok (each derivation_at 0) (ok_or (derivations_of a.0) (Malformed spot.File)) ds a.2 in
    all_each derivation_at IsShort few_in 0 b.0 ds b.2

in_code : (ls : List (List Step)) → AllByRecursion IsShort (map (map step_of) ls) → AllByRecursion IsShort ls
in_code [] all = tt
in_code (l ∷ ls) all = (subst (λ n. n < 2 ^ 32) (length-map l step_of) all.0, in_code ls all.1)

pub few_steps : (content : List ℕ) (ls : List (List Step)) → proof_of content ≡ Ok (map (map step_of) ls) → AllByRecursion IsShort ls
few_steps content ls e = in_code ls (all_short content (map (map step_of) ls) e)
