-- The lines and the sum for the first items, and the words of an item by its number.
use Rattle.std.proofs.Common.{◌≡◌, ℕ, zero, suc, ◌+◌, ◌<◌, ◌≤◌, List, [], ◌∷◌, ◌++◌, length, map, take, get_or, refl, sym, ap, subst, ◌∙◌, take_all, arith}
use Rattle.rel_lang.specs.View.{item_of}
use Rattle.rel_lang.specs.declared.bundle.Item.{Item}
use Rattle.rel_report.specs.Lines.{words_of, words_at, item_line, item_lines, sum_of}

pub words_at_number : (xs : List Item) (n : ℕ) (x : Item) → n < length xs → x ≡ get_or xs n x → words_at (map item_of xs) n ≡ words_of (item_of x)
words_at_number [] n x within is = absurd (omega (arith, within))
words_at_number (y ∷ xs) zero x within is = ap (λ i. words_of (item_of i)) (sym is)
words_at_number (y ∷ xs) (suc n) x within is = words_at_number xs n x (omega (arith, within)) is

lines_next : (xs : List Item) (ns : List ℕ) (i : ℕ) (d : Item) (e : ℕ) → i < length xs → length ns ≡ length xs
    → item_lines (map item_of (take (suc i) xs)) ns ≡ item_lines (map item_of (take i xs)) ns ++ item_line (item_of (get_or xs i d)) (get_or ns i e) ∷ []
lines_next [] ns i d e within each = absurd (omega (arith, within))
lines_next (x ∷ xs) [] i d e within each = absurd (omega (arith, each))
lines_next (x ∷ xs) (n ∷ ns) zero d e within each = refl
lines_next (x ∷ xs) (n ∷ ns) (suc i) d e within each = ap (λ ls. item_line (item_of x) n ∷ ls) (lines_next xs ns i d e (omega (arith, within)) (omega (arith, each)))

pub lines_more : (before after : List (List ℕ)) (text : List ℕ) (xs ys : List Item) (ns : List ℕ) (i : ℕ) (x : Item) (n : ℕ) → ys ≡ xs → length ns ≡ length xs
    → i < length ys → x ≡ get_or ys i x → n ≡ get_or ns i n → text ≡ item_line (item_of x) n
    → before ≡ item_lines (map item_of (take i xs)) ns → after ≡ before ++ text ∷ [] → after ≡ item_lines (map item_of (take (i + 1) xs)) ns
lines_more before after text xs ys ns i x n same each within is count said was now =
    let inside : i < length xs = subst (λ zs. i < length zs) same within in
    let found : x ≡ get_or xs i x = subst (λ zs. x ≡ get_or zs i x) same is in
    let next : suc i ≡ i + 1 = omega arith in
    now ∙ ap (λ t. t ++ text ∷ []) was
    ∙ ap (λ t. item_lines (map item_of (take i xs)) ns ++ t ∷ []) (said ∙ ap (λ y. item_line (item_of y) n) found ∙ ap (item_line (item_of (get_or xs i x))) count)
    ∙ sym (lines_next xs ns i x n inside each) ∙ ap (λ m. item_lines (map item_of (take m xs)) ns) next

pub lines_all : (now : List (List ℕ)) (xs : List Item) (ns : List ℕ) (i : ℕ) → length xs ≤ i → now ≡ item_lines (map item_of (take i xs)) ns → now ≡ item_lines (map item_of xs) ns
lines_all now xs ns i past h = h ∙ ap (λ ys. item_lines (map item_of ys) ns) (take_all i xs past)

sum_next : (ns : List ℕ) (i n : ℕ) → i < length ns → sum_of (take (suc i) ns) ≡ sum_of (take i ns) + get_or ns i n
sum_next [] i n within = absurd (omega (arith, within))
sum_next (m ∷ ns) zero n within = let none : m + 0 ≡ 0 + m = omega arith in none
sum_next (m ∷ ns) (suc i) n within =
    let rest = sum_next ns i n (omega (arith, within)) in
    let all : m + sum_of (take (suc i) ns) ≡ (m + sum_of (take i ns)) + get_or ns i n = omega (arith, rest) in
    all

pub sum_more : (ns : List ℕ) (i n sum : ℕ) → i < length ns → n ≡ get_or ns i n → sum ≡ sum_of (take i ns) → sum + n ≡ sum_of (take (i + 1) ns)
sum_more ns i n sum within is was =
    let next : suc i ≡ i + 1 = omega arith in
    ap (λ s. s + n) was ∙ ap (λ m. sum_of (take i ns) + m) is ∙ sym (sum_next ns i n within) ∙ ap (λ m. sum_of (take m ns)) next

pub sum_all : (ns : List ℕ) (i sum : ℕ) → length ns ≤ i → sum ≡ sum_of (take i ns) → sum ≡ sum_of ns
sum_all ns i sum past h = h ∙ ap sum_of (take_all i ns past)
