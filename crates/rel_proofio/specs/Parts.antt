-- What the parts of a JSON value say: elements, numbers and integers.
use Rattle.std.specs.Prelude.{ℕ, ◌-◌, ◌^◌, ◌==◌, ◌&&◌, ℤ, pos, neg_ℤ, List, [], ◌∷◌, length, drop, slice_index, nat_lt, nat_le, if◌then◌else◌, Option, Some, None, option_map, option_and_then}
use Rattle.std.specs.Str.{all_ascii_digits}
use Rattle.std.specs.Str.Parse.{digits_value}
use Rattle.serde_json.specs.Data.{Data, Items, no_items, item}
use Rattle.serde_json.specs.Find.{as_number, as_u64, as_str, as_array}

abbrev pub Word : Type 0
Word = List ℕ

abbrev pub listed : Items → List Data
listed no_items = []
listed (item d ds) = d ∷ listed ds

-- the elements of an array
abbrev pub elements_of : Data → Option (List Data)
elements_of d = option_map listed (as_array d)

-- a JSON integer of 32 bits
abbrev pub number_of : Data → Option ℕ
number_of d = option_and_then (λ n. if nat_lt n (2 ^ 32) then Some n else None) (option_and_then as_u64 (as_number d))

-- the value of digits of which the first isn't `0`, if it is at most the limit
abbrev pub digits_up_to : ℕ → Word → Option ℕ
digits_up_to limit ds =
    if all_ascii_digits ds && nat_le 49 (slice_index ds 0) && nat_le (digits_value 10 ds) limit
    then Some (digits_value 10 ds) else None

-- the integer of 128 bits that a text writes: `0`, or digits of which the first isn't `0`, behind a `-` or not
abbrev pub written_integer : Word → Option ℤ
written_integer text =
    if length text == 1 && (slice_index text 0 == 48) then Some (pos 0)
    else (if slice_index text 0 == 45
    then option_map (λ n. neg_ℤ (pos n)) (digits_up_to (2 ^ 127) (drop 1 text))
    else option_map pos (digits_up_to (2 ^ 127 - 1) text))

-- the integer in a string
unfoldable pub integer_of : Data → Option ℤ
integer_of d = option_and_then written_integer (as_str d)

-- ---- lists of so many elements, each read

abbrev pub none : {A : Type 0} → A → List Data → Option A
none a [] = Some a
none a (d ∷ ds) = None

abbrev pub one : {A : Type 0} → (Data → Option A) → List Data → Option A
one f [] = None
one f (d ∷ []) = f d
one f (d ∷ e ∷ ds) = None

abbrev pub two : {A B : Type 0} → (Data → Option A) → (Data → Option B) → List Data → Option (A × B)
two f g [] = None
two f g (d ∷ []) = None
two f g (d ∷ e ∷ []) = option_and_then (λ a. option_map (λ b. (a, b)) (g e)) (f d)
two f g (d ∷ e ∷ i ∷ ds) = None

abbrev pub three : {A B C : Type 0} → (Data → Option A) → (Data → Option B) → (Data → Option C) → List Data → Option (A × (B × C))
three f g h [] = None
three f g h (d ∷ ds) = option_and_then (λ a. option_map (λ p. (a, p)) (two g h ds)) (f d)

-- f of each element, where it has a value at each
abbrev pub traverse : {A B : Type 0} → (A → Option B) → List A → Option (List B)
traverse f [] = Some []
traverse f (x ∷ xs) = option_and_then (λ y. option_map (λ ys. y ∷ ys) (traverse f xs)) (f x)

-- a word and what stands behind it
abbrev pub behind_word : List Data → Option (Word × List Data)
behind_word [] = None
behind_word (d ∷ ds) = option_map (λ w. (w, ds)) (as_str d)

-- an array that begins with a word, and the other elements
abbrev pub headed : Data → Option (Word × List Data)
headed d = option_and_then behind_word (elements_of d)
