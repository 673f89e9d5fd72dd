-- The numbers of an obligation's variables, and lists of them, as the code makes them.
use Rattle.std.proofs.Common.{◌≡◌, ℕ, zero, suc, ◌+◌, pos, List, [], ◌∷◌, ◌++◌, length, map, refl, sym, ap, ◌∙◌, arith, rules}
use Rattle.std.proofs.lemmas.List.{length-map, map-append}
use Rattle.rel_lang.specs.View.{decl_of}
use Rattle.rel_lang.specs.declared.bundle.Decl as D
use Rattle.rel_logic.specs.Syntax.{var, int}
use Rattle.rel_logic.specs.View.{trm_of}
use Rattle.rel_logic.specs.declared.term.Term.{Term, Int, Var, the_lemmas}
use Rattle.rel_linking.specs.declared.stores.Layout.{Layout}
use Rattle.rel_linking.specs.Layout.{layout_of}
use Rattle.rel_linking.specs.Obligation.{variables_from, left_alloc, first_right, right_alloc, bijection, first_fresh}

pub zero_is : trm_of (Int (pos 0)) ≡ int (pos 0)
zero_is = search (rules, the_lemmas)

pub variable_is : (n : ℕ) → trm_of (Var n) ≡ var n
variable_is n = search (rules, the_lemmas)

pub layout_is : (left right : List D.Decl) (l r : ℕ) → l ≡ length left → r ≡ length right
    → record { left_alloc = l; first_right = l + 1; right_alloc = l + 1 + r; bijection = l + 1 + r + 1; first_fresh = l + 1 + r + 1 + 1 } ≡ layout_of (map decl_of left) (map decl_of right)
layout_is left right l r el er =
    let ds = map decl_of left in
    let es = map decl_of right in
    let lengths : length ds ≡ length left = length-map left decl_of in
    let lengths' : length es ≡ length right = length-map right decl_of in
    let a : l ≡ left_alloc ds es = el ∙ sym lengths in
    let f : l + 1 ≡ first_right ds es = omega (arith, a) in
    let b : l + 1 + r ≡ right_alloc ds es = omega (arith, a, er, lengths') in
    let p : l + 1 + r + 1 ≡ bijection ds es = omega (arith, b) in
    let n : l + 1 + r + 1 + 1 ≡ first_fresh ds es = omega (arith, p) in
    λ i. record { left_alloc = a i; first_right = f i; right_alloc = b i; bijection = p i; first_fresh = n i }

-- one more variable
pub one_more : (n count : ℕ) → variables_from n (count + 1) ≡ variables_from n count ++ var (n + count) ∷ []
one_more n count = ap (variables_from n) (plus_one count) ∙ go n count
  where
    plus_one : (m : ℕ) → m + 1 ≡ suc m
    plus_one m = omega arith

    go : (n count : ℕ) → variables_from n (suc count) ≡ variables_from n count ++ var (n + count) ∷ []
    go n zero = let same : n ≡ n + 0 = omega arith in ap (λ m. var m ∷ []) same
    go n (suc count) =
        let same : suc n + count ≡ n + suc count = omega arith in
        ap (λ l. var n ∷ l) (go (suc n) count ∙ ap (λ m. variables_from (suc n) count ++ var m ∷ []) same)

pub one_pushed : (ts more : List Term) (n count : ℕ) → map trm_of ts ≡ variables_from n count → more ≡ ts ++ Var (n + count) ∷ [] → map trm_of more ≡ variables_from n (count + 1)
one_pushed ts more n count h e =
    ap (map trm_of) e ∙ map-append trm_of ts (Var (n + count) ∷ []) ∙ (λ i. h i ++ variable_is (n + count) i ∷ []) ∙ sym (one_more n count)
