-- Lemmas on the reading of a proof file.
use Rattle.std.proofs.Common.{◌≡◌, ℕ, ◌+◌, ◌-◌, ◌^◌, ◌<◌, ◌≤◌, suc, ℤ, pos, neg_ℤ, Bool, true, false, ◌&&◌, cond, eqb, leb, List, [], ◌∷◌, ◌++◌, map, length, get_or, drop, Option, Some, None, Result, Ok, Err, option_map, option_and_then, refl, sym, ap, ◌∙◌, arith, append_assoc, append-nil, add-one, drop-cons}
use Rattle.std.proofs.Math.ListN.{drop_of_length-le}
use Rattle.std.proofs.lemmas.List.{length-map, get_or-drop}
use Rattle.std.proofs.lemmas.Bool.{and_from, and_parts, and_right, le-leb, leb-true, eq-eqb, ne_eqb, false_from_ne_true}
use Rattle.std.proofs.lemmas.Str.{IsUtf8-from_is_utf8, is_utf8-from_IsUtf8}
use Rattle.std.proofs.lemmas.Str.Parse.{IsNumeralModel, numerals_by_value, tells_all_ascii_digits, parse_signed_minus, parse_signed_plain}
use Rattle.std.specs.Result.{OkIff, result_ok}
use Rattle.std.specs.Str.{IsUtf8, is_utf8, all_ascii_digits}
use Rattle.std.specs.Str.Parse.{digits_value, ParsesSigned}
use mir.Syntax.{w128}
use Rattle.std.specs.Prelude.{String}
use Rattle.std.specs.declared.alloc.Global.{Global}
use Rattle.serde_json.specs.Data.{Data}
use Rattle.serde_json.specs.Read.{read}
use Rattle.serde_json.specs.View.{items_of, members_of, members_view}
use Rattle.serde_json.specs.declared.value.Value.{Value}
use Rattle.rel_top.specs.ProofFile.{listed, traverse, count_members, digits_up_to, integer_of, json_of}

pub listed_items : (ds : List Data) → listed (items_of ds) ≡ ds
listed_items [] = refl
listed_items (d ∷ ds) = ap (λ es. d ∷ es) (listed_items ds)

count_of : (ms : List (String Global × Data)) → count_members (members_of ms) ≡ length ms
count_of [] = refl
count_of (m ∷ ms) = omega (arith, count_of ms)

pub count_view : (ms : List (String Global × Value)) → count_members (members_view ms) ≡ length ms
count_view ms = count_of _ ∙ length-map ms _

-- ---- a loop that reads each element

-- the elements below i gave done
pub record IsReadTo {A B X : Type 0} (f : A → Option B) (v : X → A) (xs : List X) (i : ℕ) (done : List B) : Type 0 where
  pub rest : traverse f (map v xs) ≡ option_map (λ ys. done ++ ys) (traverse f (map v (drop i xs)))

drop_here : {X : Type 0} (xs : List X) (i : ℕ) (x : X) → i < length xs → x ≡ get_or xs i x → drop i xs ≡ x ∷ drop (i + 1) xs
drop_here xs i x h e =
    drop-cons xs i x h ∙ (ap (λ w. w ∷ drop (suc i) xs) (sym e) ∙ ap (λ k. x ∷ drop k xs) (sym (add-one i)))

traverse_here : {A B X : Type 0} (f : A → Option B) (v : X → A) (xs : List X) (i : ℕ) (x : X) → i < length xs → x ≡ get_or xs i x
    → traverse f (map v (drop i xs)) ≡ option_and_then (λ y. option_map (λ ys. y ∷ ys) (traverse f (map v (drop (i + 1) xs)))) (f (v x))
traverse_here f v xs i x h e = ap (λ l. traverse f (map v l)) (drop_here xs i x h e)

joined : {B : Type 0} (done : List B) (y : B) (t : Option (List B))
    → option_map (λ ys. done ++ ys) (option_map (λ ys. y ∷ ys) t) ≡ option_map (λ ys. (done ++ y ∷ []) ++ ys) t
joined done y None = refl
joined done y (Some ys) = ap Some (sym (append_assoc done (y ∷ []) ys))

whole : {B : Type 0} (t : Option (List B)) → t ≡ option_map (λ ys. [] ++ ys) t
whole None = refl
whole (Some ys) = refl

pub read_none : {A B X : Type 0} (f : A → Option B) (v : X → A) (xs : List X) → IsReadTo f v xs 0 []
read_none f v xs = record { rest = whole (traverse f (map v xs)) }

pub read_more : {A B X : Type 0} {f : A → Option B} {v : X → A} {xs : List X} {i : ℕ} {done : List B} (x : X) (y : B)
    → IsReadTo f v xs i done → i < length xs → x ≡ get_or xs i x → f (v x) ≡ Some y → IsReadTo f v xs (i + 1) (done ++ y ∷ [])
read_more {f = f} {v = v} {xs = xs} {i = i} {done = done} x y p h e s = record {
  rest = p.rest ∙ (ap (option_map (λ ys. done ++ ys)) (traverse_here f v xs i x h e
      ∙ ap (option_and_then (λ z. option_map (λ ys. z ∷ ys) (traverse f (map v (drop (i + 1) xs))))) s)
      ∙ joined done y (traverse f (map v (drop (i + 1) xs))));
}

pub read_fails : {A B X : Type 0} {f : A → Option B} {v : X → A} {xs : List X} {i : ℕ} {done : List B} (x : X)
    → IsReadTo f v xs i done → i < length xs → x ≡ get_or xs i x → f (v x) ≡ None → traverse f (map v xs) ≡ None
read_fails {f = f} {v = v} {xs = xs} {i = i} {done = done} x p h e s =
    p.rest ∙ ap (option_map (λ ys. done ++ ys)) (traverse_here f v xs i x h e
    ∙ ap (option_and_then (λ z. option_map (λ ys. z ∷ ys) (traverse f (map v (drop (i + 1) xs))))) s)

pub read_all : {A B X : Type 0} {f : A → Option B} {v : X → A} {xs : List X} {i : ℕ} {done : List B}
    → IsReadTo f v xs i done → length xs ≤ i → traverse f (map v xs) ≡ Some done
read_all {f = f} {v = v} {xs = xs} {i = i} {done = done} p h =
    p.rest ∙ (ap (λ l. option_map (λ ys. done ++ ys) (traverse f (map v l))) (drop_of_length-le xs h) ∙ ap Some (append-nil done))

-- ---- an integer's text

own : IsNumeralModel (λ ds. all_ascii_digits ds ≡ true) (digits_value 10)
own = numerals_by_value _ tells_all_ascii_digits

from_parse : {T E : Type 0} (r : Result T E) (P : Type 0) (b : Bool) (v : T)
    → OkIff r P v → (P → b ≡ true) → (b ≡ true → P) → result_ok r ≡ cond b (Some v) None
from_parse (Ok x) P b v h to from = ap Some h.1 ∙ ap (λ t. cond t (Some v) None) (sym (to h.0))
from_parse (Err e) P b v h to from = ap (λ t. cond t (Some v) None) (sym (false_from_ne_true b (λ t. h (from t))))

map_cond : {A B : Type 0} (g : A → B) (b : Bool) (v : A) → option_map g (cond b (Some v) None) ≡ cond b (Some (g v)) None
map_cond g true v = refl
map_cond g false v = refl

some_byte : (ds : List ℕ) → 49 ≤ get_or ds 0 0 → 0 < length ds
some_byte [] h = absurd (omega arith)
some_byte (d ∷ ds) h = omega arith

integer_minus : (bs : List ℕ) → get_or bs 0 0 ≡ 45 → integer_of bs ≡ option_map (λ n. neg_ℤ (pos n)) (digits_up_to (2 ^ 127) (drop 1 bs))
integer_minus bs e =
    rw (and_right (eqb (length bs) 1) (eqb (get_or bs 0 0) 48) (ne_eqb (get_or bs 0 0) 48 (λ z. absurd (omega arith))), eq-eqb (get_or bs 0 0) 45 e) refl

integer_plain : (bs : List ℕ) → 49 ≤ get_or bs 0 0 → integer_of bs ≡ option_map pos (digits_up_to (2 ^ 127 - 1) bs)
integer_plain bs h =
    rw (and_right (eqb (length bs) 1) (eqb (get_or bs 0 0) 48) (ne_eqb (get_or bs 0 0) 48 (λ z. absurd (omega arith))), ne_eqb (get_or bs 0 0) 45 (λ z. absurd (omega arith))) refl

pub parsed_minus : {E : Type 0} (bs : List ℕ) (r : Result ℤ E) → ParsesSigned w128 10 bs r → get_or bs 0 0 ≡ 45 → 49 ≤ get_or bs 1 0 → result_ok r ≡ integer_of bs
parsed_minus bs r h e low =
    let ds = drop 1 bs in
    let first : 49 ≤ get_or ds 0 0 = omega (arith, get_or-drop 1 bs 0 0) in
    let b = all_ascii_digits ds && leb 49 (get_or ds 0 0) && leb (digits_value 10 ds) (2 ^ 127) in
    let p = from_parse r _ b _ (parse_signed_minus own w128 bs r h e)
    (λ q. and_from _ _ (and_from _ _ q.0 (le-leb 49 _ first)) (le-leb _ _ q.2))
    (λ t. let u = and_parts _ _ t in ((and_parts _ _ u.0).0, some_byte ds first, leb-true _ _ u.1)) in
    p ∙ (sym (map_cond (λ n. neg_ℤ (pos n)) b (digits_value 10 ds)) ∙ sym (integer_minus bs e))

pub parsed_plain : {E : Type 0} (bs : List ℕ) (r : Result ℤ E) → ParsesSigned w128 10 bs r → 49 ≤ get_or bs 0 0 → result_ok r ≡ integer_of bs
parsed_plain bs r h first =
    let b = all_ascii_digits bs && leb 49 (get_or bs 0 0) && leb (digits_value 10 bs) (2 ^ 127 - 1) in
    let p = from_parse r _ b _ (parse_signed_plain own w128 bs r h (λ z. omega arith) (λ z. omega arith))
    (λ q. and_from _ _ (and_from _ _ q.0 (le-leb 49 _ first)) (le-leb _ _ (omega arith)))
    (λ t. let u = and_parts _ _ t in let low = leb-true (digits_value 10 bs) (2 ^ 127 - 1) u.1 in ((and_parts _ _ u.0).0, some_byte bs first, omega arith)) in
    p ∙ (sym (map_cond pos b (digits_value 10 bs)) ∙ sym (integer_plain bs first))

-- ---- the whole text

pub json_of_text : (bs : List ℕ) → length bs ≤ 2 ^ 26 → IsUtf8 bs → json_of bs ≡ read bs
json_of_text bs h u = ap (λ t. cond t (read bs) None) (and_from _ _ (le-leb _ _ h) (is_utf8-from_IsUtf8 bs u))

pub json_of_refused : (bs : List ℕ) → ¬ (IsUtf8 bs) → json_of bs ≡ None
json_of_refused bs wrong =
    ap (λ t. cond t (read bs) None) (and_right _ _ (false_from_ne_true (is_utf8 bs) (λ t. wrong (IsUtf8-from_is_utf8 bs t))))
