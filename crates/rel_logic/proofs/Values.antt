-- The value of a term and the truth of a formula after a closed term is put for a place.
use Rattle.std.proofs.Common.{◌≡◌, ◌↔◌, ℕ, zero, suc, ◌+◌, ◌==◌, ◌+ℤ◌, ◌-ℤ◌, ◌*ℤ◌, ◌<ℤ◌, ◌≤ℤ◌, Bool, true, false, Decides, if◌then◌else◌, List, [], ◌∷◌, get_or, refl, ap, subst, ◌∙◌, arith}
use Rattle.std.proofs.lemmas.Bool.Decides.{Decides-eqb}
use Rattle.std.specs.FinSet as set
use Rattle.rel_list.specs.References.{just, of_class}
use Rattle.rel_list.specs.Pairs.{Extends, linked}
use Rattle.rel_logic.specs.Syntax.{Trm, var, bound, int, add, sub, mul, null, sel, sto, empty, one, cup, cap, less, img, of, link, Fml, verum, falsum, eq, lt, le, member, is, paired, ext, no, and, or, imp, every, some}
use Rattle.rel_logic.specs.Truth.{Elem, number, rgn, bij, as_number, as_ref, as_rgn, as_pairs, Carrier, elem, Valuation, changed, null_elem, selected, stored, image, value, IsMember, IsOfClass, ArePartners, IsTrueAt}
use Rattle.rel_logic.specs.Bounds.{free_bound_term}
use Rattle.rel_logic.specs.Substitution as S
use Rattle.rel_logic.specs.Substitution.{Place, variable, is_variable, is_number, under, put_term, put, substituted, instantiated}

-- a term without bound numbers has one value whatever their values
module _ (r : Valuation) (bs cs : List Elem) where
  pub closed_value : (t : Trm) → free_bound_term t ≡ 0 → value r bs t ≡ value r cs t
  closed_value (var n) h = refl
  closed_value (bound n) h = absurd (omega (arith, h))
  closed_value (int n) h = refl
  closed_value (add a b) h = λ i. number (as_number (closed_value a (omega (arith, h)) i) +ℤ as_number (closed_value b (omega (arith, h)) i))
  closed_value (sub a b) h = λ i. number (as_number (closed_value a (omega (arith, h)) i) -ℤ as_number (closed_value b (omega (arith, h)) i))
  closed_value (mul k a) h = λ i. number (k *ℤ as_number (closed_value a h i))
  closed_value null h = refl
  closed_value (sel m a) h = λ i. selected (closed_value m (omega (arith, h)) i) (as_ref (closed_value a (omega (arith, h)) i))
  closed_value (sto m a b) h = λ i. stored (closed_value m (omega (arith, h)) i) (as_ref (closed_value a (omega (arith, h)) i)) (closed_value b (omega (arith, h)) i)
  closed_value empty h = refl
  closed_value (one a) h = λ i. rgn (just (as_ref (closed_value a h i)))
  closed_value (cup g k) h = λ i. rgn (set.union (as_rgn (closed_value g (omega (arith, h)) i)) (as_rgn (closed_value k (omega (arith, h)) i)))
  closed_value (cap g k) h = λ i. rgn (set.intersection (as_rgn (closed_value g (omega (arith, h)) i)) (as_rgn (closed_value k (omega (arith, h)) i)))
  closed_value (less g k) h = λ i. rgn (set.difference (as_rgn (closed_value g (omega (arith, h)) i)) (as_rgn (closed_value k (omega (arith, h)) i)))
  closed_value (img m g) h = λ i. rgn (image (closed_value m (omega (arith, h)) i) (as_rgn (closed_value g (omega (arith, h)) i)))
  closed_value (of c g) h = λ i. rgn (of_class c (as_rgn (closed_value g h i)))
  closed_value (link p a b) h = λ i. bij (linked (as_pairs (closed_value p (omega (arith, h)) i)) (as_ref (closed_value a (omega (arith, h)) i)) (as_ref (closed_value b (omega (arith, h)) i)))

-- after t is put for x, each variable and each bound number has the value that it has under q and cs
pub record Puts (x : Place) (t : Trm) (r : Valuation) (bs : List Elem) (q : Valuation) (cs : List Elem) : Type 0 where
  pub variables : (n : ℕ) → value r bs (put_term x t (var n)) ≡ q n
  pub numbers : (n : ℕ) → value r bs (put_term x t (bound n)) ≡ get_or cs n null_elem

module _ (x : Place) (t : Trm) (r : Valuation) (bs : List Elem) (q : Valuation) (cs : List Elem) (h : Puts x t r bs q cs) where
  pub put_value : (a : Trm) → value r bs (put_term x t a) ≡ value q cs a
  put_value (var n) = h.variables n
  put_value (bound n) = h.numbers n
  put_value (int n) = refl
  put_value (add a b) = λ i. number (as_number (put_value a i) +ℤ as_number (put_value b i))
  put_value (sub a b) = λ i. number (as_number (put_value a i) -ℤ as_number (put_value b i))
  put_value (mul k a) = λ i. number (k *ℤ as_number (put_value a i))
  put_value null = refl
  put_value (sel m a) = λ i. selected (put_value m i) (as_ref (put_value a i))
  put_value (sto m a b) = λ i. stored (put_value m i) (as_ref (put_value a i)) (put_value b i)
  put_value empty = refl
  put_value (one a) = λ i. rgn (just (as_ref (put_value a i)))
  put_value (cup g k) = λ i. rgn (set.union (as_rgn (put_value g i)) (as_rgn (put_value k i)))
  put_value (cap g k) = λ i. rgn (set.intersection (as_rgn (put_value g i)) (as_rgn (put_value k i)))
  put_value (less g k) = λ i. rgn (set.difference (as_rgn (put_value g i)) (as_rgn (put_value k i)))
  put_value (img m g) = λ i. rgn (image (put_value m i) (as_rgn (put_value g i)))
  put_value (of c g) = λ i. rgn (of_class c (as_rgn (put_value g i)))
  put_value (link p a b) = λ i. bij (linked (as_pairs (put_value p i)) (as_ref (put_value a i)) (as_ref (put_value b i)))

pub same_test : {A B : Type 0} (a b : Bool) → Decides a A → Decides b B → (A → B) → (B → A) → a ≡ b
same_test true true d e f g = refl
same_test true false d e f g = let h = e.1 (f (d.0 refl)) in cc
same_test false true d e f g = let h = d.1 (g (e.0 refl)) in cc
same_test false false d e f g = refl

pub is_false : {A : Type 0} (a : Bool) → Decides a A → ¬ A → a ≡ false
is_false true d f = absurd (f (d.0 refl))
is_false false d f = refl

-- a closed term goes under a quantifier as it is
module _ (t : Trm) (closed : free_bound_term t ≡ 0) (r : Valuation) (bs : List Elem) (q : Valuation) (cs : List Elem) (e : Elem) where
  puts_under : (x : Place) → Puts x t r bs q cs → Puts (under x) t r (e ∷ bs) q (e ∷ cs)
  puts_under (variable n) h = record {
    variables = λ m. either (m == n) (var m) refl ∙ h.variables m;
    numbers = λ m. shifted m (h.numbers);
  }
    where
      either : (b : Bool) (a : Trm) → value r (e ∷ bs) a ≡ value r bs a → value r (e ∷ bs) (if b then t else a) ≡ value r bs (if b then t else a)
      either true a h = closed_value r (e ∷ bs) bs t closed
      either false a h = h

      shifted : (m : ℕ) → ((m : ℕ) → get_or bs m null_elem ≡ get_or cs m null_elem) → get_or (e ∷ bs) m null_elem ≡ get_or (e ∷ cs) m null_elem
      shifted zero h = refl
      shifted (suc m) h = h m
  puts_under (S.number n) h = record {
    variables = h.variables;
    numbers = λ m. shifted m h.numbers;
  }
    where
      next : (m : ℕ) → (suc m == n + 1) ≡ (m == n)
      next m = same_test _ _ (Decides-eqb (suc m) (n + 1)) (Decides-eqb m n) (λ e. omega (arith, e)) (λ e. omega (arith, e))

      either : (b : Bool) (m : ℕ) → value r (e ∷ bs) (if b then t else bound (suc m)) ≡ value r bs (if b then t else bound m)
      either true m = closed_value r (e ∷ bs) bs t closed
      either false m = refl

      at_zero : (b : Bool) → b ≡ false → value r (e ∷ bs) (if b then t else bound 0) ≡ e
      at_zero true h = cc
      at_zero false h = refl

      shifted : (m : ℕ) → ((m : ℕ) → value r bs (put_term (S.number n) t (bound m)) ≡ get_or cs m null_elem) → value r (e ∷ bs) (put_term (S.number (n + 1)) t (bound m)) ≡ get_or (e ∷ cs) m null_elem
      shifted zero h = at_zero (0 == n + 1) (is_false _ (Decides-eqb 0 (n + 1)) (λ e. omega (arith, e)))
      shifted (suc m) h = ap (λ b. value r (e ∷ bs) (if b then t else bound (suc m))) (next m) ∙ either (m == n) m ∙ h m

module _ (t : Trm) (closed : free_bound_term t ≡ 0) where
  put_true : (x : Place) (r : Valuation) (bs : List Elem) (q : Valuation) (cs : List Elem) → Puts x t r bs q cs → (f : Fml) → IsTrueAt r bs (put x t f) ≡ IsTrueAt q cs f
  put_true x r bs q cs h verum = refl
  put_true x r bs q cs h falsum = refl
  put_true x r bs q cs h (eq a b) = let v = put_value x t r bs q cs h in λ i. v a i ≡ v b i
  put_true x r bs q cs h (lt a b) = let v = put_value x t r bs q cs h in λ i. as_number (v a i) <ℤ as_number (v b i)
  put_true x r bs q cs h (le a b) = let v = put_value x t r bs q cs h in λ i. as_number (v a i) ≤ℤ as_number (v b i)
  put_true x r bs q cs h (member a g) = let v = put_value x t r bs q cs h in λ i. IsMember (as_ref (v a i)) (as_rgn (v g i))
  put_true x r bs q cs h (is c a) = let v = put_value x t r bs q cs h in λ i. IsOfClass c (as_ref (v a i))
  put_true x r bs q cs h (paired p a b) = let v = put_value x t r bs q cs h in λ i. ArePartners (as_pairs (v p i)) (as_ref (v a i)) (as_ref (v b i))
  put_true x r bs q cs h (ext p k) = let v = put_value x t r bs q cs h in λ i. Extends (as_pairs (v p i)) (as_pairs (v k i))
  put_true x r bs q cs h (no f) = λ i. ¬ (put_true x r bs q cs h f i)
  put_true x r bs q cs h (and f g) = λ i. put_true x r bs q cs h f i × put_true x r bs q cs h g i
  put_true x r bs q cs h (or f g) = λ i. ¬ (¬ (put_true x r bs q cs h f i) × ¬ (put_true x r bs q cs h g i))
  put_true x r bs q cs h (imp f g) = λ i. put_true x r bs q cs h f i → put_true x r bs q cs h g i
  put_true x r bs q cs h (every s f) = λ i. (v : Carrier s) → put_true (under x) r (elem s v ∷ bs) q (elem s v ∷ cs) (puts_under t closed r bs q cs (elem s v) x h) f i
  put_true x r bs q cs h (some s f) = λ i. ¬ ((v : Carrier s) → ¬ (put_true (under x) r (elem s v ∷ bs) q (elem s v ∷ cs) (puts_under t closed r bs q cs (elem s v) x h) f i))

along : {A B : Type 0} → A ≡ B → A ↔ B
along {A} e = subst (λ B. A ↔ B) e (λ a. a, λ a. a)

module _ (t : Trm) (closed : free_bound_term t ≡ 0) (r : Valuation) where
  pub substituted_true : (n : ℕ) (f : Fml) → IsTrueAt r [] (substituted n t f) ↔ IsTrueAt (changed r n (value r [] t)) [] f
  substituted_true n f =
      along (put_true t closed (variable n) r [] (changed r n (value r [] t)) [] (record { variables = λ m. either (m == n) m; numbers = λ m. refl }) f)
    where
      either : (b : Bool) (m : ℕ) → value r [] (if b then t else var m) ≡ (if b then value r [] t else r m)
      either true m = refl
      either false m = refl

  pub instantiated_true : (f : Fml) → IsTrueAt r [] (instantiated t f) ↔ IsTrueAt r (value r [] t ∷ []) f
  instantiated_true f =
      along (put_true t closed (S.number 0) r [] r (value r [] t ∷ []) (record { variables = λ m. refl; numbers = λ m. at m }) f)
    where
      at : (m : ℕ) → value r [] (put_term (S.number 0) t (bound m)) ≡ get_or (value r [] t ∷ []) m null_elem
      at zero = refl
      at (suc m) = other (suc m == 0) (is_false _ (Decides-eqb (suc m) 0) (λ e. omega (arith, e)))
        where
          other : (b : Bool) → b ≡ false → value r [] (if b then t else bound (suc m)) ≡ null_elem
          other true e = cc
          other false e = refl
