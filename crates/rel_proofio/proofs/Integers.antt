-- Elements of arrays, and texts that are integers.
use Rattle.std.proofs.Common.{◌≡◌, ℕ, ◌-◌, ◌^◌, ◌<◌, ◌≤◌, ℤ, pos, neg_ℤ, Bool, true, false, ◌&&◌, cond, eqb, leb, List, [], ◌∷◌, length, get_or, drop, Some, None, Result, Ok, Err, option_map, refl, sym, ap, ◌∙◌, arith}
use Rattle.std.proofs.lemmas.List.{get_or-drop}
use Rattle.std.proofs.lemmas.Bool.{and_from, and_parts, and_right, le-leb, leb-true, eq-eqb, ne_eqb, false_from_ne_true}
use Rattle.std.proofs.lemmas.Str.Parse.{IsNumeralModel, numerals_by_value, tells_all_ascii_digits, parse_signed_minus, parse_signed_plain}
use Rattle.std.specs.Result.{OkIff, result_ok}
use Rattle.std.specs.Str.{all_ascii_digits}
use Rattle.std.specs.Str.Parse.{digits_value, ParsesSigned}
use mir.Syntax.{w128}
use Rattle.serde_json.specs.Data.{Data}
use Rattle.serde_json.specs.View.{items_of}
use Rattle.rel_proofio.specs.Parts.{listed, digits_up_to, written_integer}

pub listed_items : (ds : List Data) → listed (items_of ds) ≡ ds
listed_items [] = refl
listed_items (d ∷ ds) = ap (λ es. d ∷ es) (listed_items ds)

-- ---- an integer's text

own : IsNumeralModel (λ ds. all_ascii_digits ds ≡ true) (digits_value 10)
own = numerals_by_value _ tells_all_ascii_digits

from_parse : {T E : Type 0} (r : Result T E) (P : Type 0) (b : Bool) (v : T)
    → OkIff r P v → (P → b ≡ true) → (b ≡ true → P) → result_ok r ≡ cond b (Some v) None
from_parse (Ok x) P b v h to from = ap Some h.1 ∙ ap (λ t. cond t (Some v) None) (sym (to h.0))
from_parse (Err e) P b v h to from = ap (λ t. cond t (Some v) None) (sym (false_from_ne_true b (λ t. h (from t))))

map_cond : {A B : Type 0} (g : A → B) (b : Bool) (v : A) → option_map g (cond b (Some v) None) ≡ cond b (Some (g v)) None
map_cond g true v = refl
map_cond g false v = refl

some_byte : (ds : List ℕ) → 49 ≤ get_or ds 0 0 → 0 < length ds
some_byte [] h = absurd (omega arith)
some_byte (d ∷ ds) h = omega arith

integer_minus : (bs : List ℕ) → get_or bs 0 0 ≡ 45 → written_integer bs ≡ option_map (λ n. neg_ℤ (pos n)) (digits_up_to (2 ^ 127) (drop 1 bs))
integer_minus bs e =
    rw (and_right (eqb (length bs) 1) (eqb (get_or bs 0 0) 48) (ne_eqb (get_or bs 0 0) 48 (λ z. absurd (omega arith))), eq-eqb (get_or bs 0 0) 45 e) refl

integer_plain : (bs : List ℕ) → 49 ≤ get_or bs 0 0 → written_integer bs ≡ option_map pos (digits_up_to (2 ^ 127 - 1) bs)
integer_plain bs h =
    rw (and_right (eqb (length bs) 1) (eqb (get_or bs 0 0) 48) (ne_eqb (get_or bs 0 0) 48 (λ z. absurd (omega arith))), ne_eqb (get_or bs 0 0) 45 (λ z. absurd (omega arith))) refl

pub parsed_minus : {E : Type 0} (bs : List ℕ) (r : Result ℤ E) → ParsesSigned w128 10 bs r → get_or bs 0 0 ≡ 45 → 49 ≤ get_or bs 1 0 → result_ok r ≡ written_integer bs
parsed_minus bs r h e low =
    let ds = drop 1 bs in
    let first : 49 ≤ get_or ds 0 0 = omega (arith, get_or-drop 1 bs 0 0) in
    let b = all_ascii_digits ds && leb 49 (get_or ds 0 0) && leb (digits_value 10 ds) (2 ^ 127) in
    let p = from_parse r _ b _ (parse_signed_minus own w128 bs r h e)
    (λ q. and_from _ _ (and_from _ _ q.0 (le-leb 49 _ first)) (le-leb _ _ q.2))
    (λ t. let u = and_parts _ _ t in ((and_parts _ _ u.0).0, some_byte ds first, leb-true _ _ u.1)) in
    p ∙ (sym (map_cond (λ n. neg_ℤ (pos n)) b (digits_value 10 ds)) ∙ sym (integer_minus bs e))

pub parsed_plain : {E : Type 0} (bs : List ℕ) (r : Result ℤ E) → ParsesSigned w128 10 bs r → 49 ≤ get_or bs 0 0 → result_ok r ≡ written_integer bs
parsed_plain bs r h first =
    let b = all_ascii_digits bs && leb 49 (get_or bs 0 0) && leb (digits_value 10 bs) (2 ^ 127 - 1) in
    let p = from_parse r _ b _ (parse_signed_plain own w128 bs r h (λ z. omega arith) (λ z. omega arith))
    (λ q. and_from _ _ (and_from _ _ q.0 (le-leb 49 _ first)) (le-leb _ _ (omega arith)))
    (λ t. let u = and_parts _ _ t in let low = leb-true (digits_value 10 bs) (2 ^ 127 - 1) u.1 in ((and_parts _ _ u.0).0, some_byte bs first, omega arith)) in
    p ∙ (sym (map_cond pos b (digits_value 10 bs)) ∙ sym (integer_plain bs first))
