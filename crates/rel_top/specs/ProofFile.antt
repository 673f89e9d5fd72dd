-- What a proof file says: from its bytes to the steps of its one derivation.
use Rattle.std.specs.Prelude.{ℕ, ◌+◌, ◌-◌, ◌^◌, ◌==◌, ◌&&◌, ℤ, pos, neg_ℤ, List, [], ◌∷◌, length, drop, slice_index, codes, Bool, false, nat_lt, nat_le, if◌then◌else◌, Option, Some, None, option_map, option_and_then, unwrap_or}
use Rattle.std.specs.Str.{all_ascii_digits, bytes_eq, is_utf8}
use Rattle.std.specs.Str.Parse.{digits_value}
use Rattle.serde_json.specs.Data.{Data, Items, no_items, item, Members, no_members, member}
use Rattle.serde_json.specs.Read.{read}
use Rattle.serde_json.specs.Find.{get, as_number, as_u64, as_str, as_array, as_object}
use Rattle.rel_straight.specs.declared.step.Step.{Step}
use Rattle.rel_straight.specs.declared.step.Step.TheVariants.{Neint, Farkas}

-- f of each element, where it has a value at each
abbrev pub traverse : {A B : Type 0} → (A → Option B) → List A → Option (List B)
traverse f [] = Some []
traverse f (x ∷ xs) = option_and_then (λ y. option_map (λ ys. y ∷ ys) (traverse f xs)) (f x)

-- the one element of a list
abbrev pub only : {A : Type 0} → List A → Option A
only [] = None
only (x ∷ []) = Some x
only (x ∷ y ∷ rest) = None

-- the two elements of a list
abbrev pub two : {A : Type 0} → List A → Option (A × A)
two [] = None
two (x ∷ []) = None
two (x ∷ y ∷ []) = Some (x, y)
two (x ∷ y ∷ z ∷ rest) = None

abbrev pub listed : Items → List Data
listed no_items = []
listed (item d ds) = d ∷ listed ds

-- the elements of an array
abbrev pub elements_of : Data → Option (List Data)
elements_of d = option_map listed (as_array d)

abbrev pub count_members : Members → ℕ
count_members no_members = 0
count_members (member k d ms) = 1 + count_members ms

-- the number of a formula: an integer of 32 bits
abbrev pub formula_of : Data → Option ℕ
formula_of d = option_and_then (λ n. if nat_lt n (2 ^ 32) then Some n else None) (option_and_then as_u64 (as_number d))

-- the value of digits of which the first isn't `0`, if it is at most the limit
abbrev pub digits_up_to : ℕ → List ℕ → Option ℕ
digits_up_to limit ds =
    if all_ascii_digits ds && nat_le 49 (slice_index ds 0) && nat_le (digits_value 10 ds) limit
    then Some (digits_value 10 ds) else None

-- the integer of 128 bits that a text writes: `0`, or digits of which the first isn't `0`, behind a `-` or not
abbrev pub integer_of : List ℕ → Option ℤ
integer_of text =
    if length text == 1 && (slice_index text 0 == 48) then Some (pos 0)
    else (if slice_index text 0 == 45
    then option_map (λ n. neg_ℤ (pos n)) (digits_up_to (2 ^ 127) (drop 1 text))
    else option_map pos (digits_up_to (2 ^ 127 - 1) text))

-- a formula's number and its multiplier: `[i,"k"]`
abbrev pub pair_of : Data → Option (ℕ × ℤ)
pair_of d = option_and_then
    (λ p. option_and_then
    (λ i. option_map (λ k. (i, k)) (option_and_then integer_of (as_str p.1)))
    (formula_of p.0))
    (option_and_then two (elements_of d))

-- the step with this name and this argument
abbrev pub named_step : List ℕ → Data → Option Step
named_step name argument =
    if bytes_eq name (codes "neint") then option_map Neint (formula_of argument)
    else (if bytes_eq name (codes "farkas")
    then option_map Farkas (option_and_then (traverse pair_of) (elements_of argument))
    else None)

-- `["neint",i]`, or `["farkas",[[i,"k"],..]]`
abbrev pub step_of : Data → Option Step
step_of d = option_and_then
    (λ p. option_and_then (λ name. named_step name p.1) (as_str p.0))
    (option_and_then two (elements_of d))

-- a derivation of at most 1,048,576 steps
abbrev pub steps_of : List Data → Option (List Step)
steps_of ds = if nat_le (length ds) (2 ^ 20) then traverse step_of ds else None

-- the integer 1
abbrev pub is_one : Data → Bool
is_one d = unwrap_or (option_map (λ n. n == 1) (option_and_then as_u64 (as_number d))) false

-- an object with two keys
abbrev pub has_two_keys : Data → Bool
has_two_keys d = unwrap_or (option_map (λ ms. count_members ms == 2) (as_object d)) false

-- the array of the derivations, where the object has just the keys `proofs` and `whyrel`, this one with 1
abbrev pub derivations_of : Data → Option (List Data)
derivations_of d =
    if has_two_keys d && unwrap_or (option_map is_one (get (codes "whyrel") d)) false
    then option_and_then elements_of (get (codes "proofs") d) else None

-- the elements of the one derivation
abbrev pub derivation_of : Data → Option (List Data)
derivation_of d = option_and_then elements_of (option_and_then only (derivations_of d))

-- the value that a text of at most 67,108,864 bytes has as JSON
abbrev pub json_of : List ℕ → Option Data
json_of bytes = if nat_le (length bytes) (2 ^ 26) && is_utf8 bytes then read bytes else None

-- the steps that the bytes of a proof file say
abbrev pub proof_of : List ℕ → Option (List Step)
proof_of bytes = option_and_then steps_of (option_and_then derivation_of (json_of bytes))
