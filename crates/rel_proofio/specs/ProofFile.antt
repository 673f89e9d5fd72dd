-- What a proof file says: from its bytes to the steps of its derivations, or to its first fault.
use Rattle.std.specs.Prelude.{ℕ, suc, ◌+◌, ◌^◌, ◌==◌, ◌&&◌, List, [], ◌∷◌, map, length, codes, Bool, false, nat_le, if◌then◌else◌, Option, None, option_map, option_and_then, ok_or, unwrap_or, Result, Ok, Err}
use Rattle.std.specs.Str.{is_utf8}
use Rattle.serde_json.specs.Data.{Data, Members, no_members, member}
use Rattle.serde_json.specs.Read.{read}
use Rattle.serde_json.specs.Find.{get, as_number, as_u64, as_object}
use Rattle.rules_table.specs.Nodes.{Stp}
use Rattle.rules_table.specs.View.{step_of}
use Rattle.rel_proofio.specs.Parts.{elements_of}
use Rattle.rel_proofio.specs.Steps.{step_in}
use Rattle.rel_proofio.specs.declared.fault.ProofFault.{ProofFault}
use Rattle.rel_proofio.specs.declared.fault.ProofFault.TheVariants.{NotJson, Malformed, TooLong}
use Rattle.rel_proofio.specs.declared.fault.Spot.TheVariants as spot
use Rattle.rel_proofio.specs.declared.file.Proof.{Proof}

-- ---- values, or the first fault

abbrev pub result_and_then : {A B E : Type 0} → (A → Result B E) → Result A E → Result B E
result_and_then f (Err e) = Err e
result_and_then f (Ok x) = f x

-- f of each element and its number, the first being n
abbrev pub each : {A B E : Type 0} → (ℕ → A → Result B E) → ℕ → List A → Result (List B) E
each f n [] = Ok []
each f n (x ∷ xs) = result_and_then (λ y. result_and_then (λ ys. Ok (y ∷ ys)) (each f (suc n) xs)) (f n x)

-- ---- derivations

abbrev pub most_steps : ℕ
most_steps = 2 ^ 20

abbrev pub step_at : ℕ → ℕ → Data → Result Stp ProofFault
step_at p s d = ok_or (step_in d) (Malformed (spot.Step p s))

abbrev pub steps_at : ℕ → List Data → Result (List Stp) ProofFault
steps_at p ds = if nat_le (length ds) most_steps then each (step_at p) 0 ds else Err (TooLong p)

abbrev pub derivation_at : ℕ → Data → Result (List Stp) ProofFault
derivation_at p d = result_and_then (steps_at p) (ok_or (elements_of d) (Malformed (spot.Proof p)))

-- ---- the file

abbrev pub count_members : Members → ℕ
count_members no_members = 0
count_members (member k d ms) = 1 + count_members ms

-- the integer 1
abbrev pub is_one : Data → Bool
is_one d = unwrap_or (option_map (λ n. n == 1) (option_and_then as_u64 (as_number d))) false

-- an object with two keys
abbrev pub has_two_keys : Data → Bool
has_two_keys d = unwrap_or (option_map (λ ms. count_members ms == 2) (as_object d)) false

-- the array of the derivations, where the object has just the keys `proofs` and `whyrel`, this one with 1
abbrev pub derivations_of : Data → Option (List Data)
derivations_of d =
    if has_two_keys d && unwrap_or (option_map is_one (get (codes "whyrel") d)) false
    then option_and_then elements_of (get (codes "proofs") d) else None

-- the value that a text has as JSON
abbrev pub json_of : List ℕ → Option Data
json_of bytes = if is_utf8 bytes then read bytes else None

-- the derivations that a JSON value says, or the first fault
abbrev pub proof_in : Data → Result (List (List Stp)) ProofFault
proof_in d = result_and_then (each derivation_at 0) (ok_or (derivations_of d) (Malformed spot.File))

-- the derivations that the bytes of a proof file say, or the first fault
abbrev pub proof_of : List ℕ → Result (List (List Stp)) ProofFault
proof_of bytes = result_and_then proof_in (ok_or (json_of bytes) NotJson)

-- the derivations of the code's proof
abbrev pub derivations : Proof → List (List Stp)
derivations p = map (map step_of) p.lists
