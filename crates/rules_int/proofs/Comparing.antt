-- What the code's comparisons tell is what the definition's tell.
use Rattle.std.proofs.Common.{◌≡◌, ◌↔◌, ℤ, pos, ◌+ℤ◌, ◌-ℤ◌, ◌*ℤ◌, ◌<ℤ◌, ◌≤ℤ◌, int_lt, int_le, Bool, true, false, ◌&&◌, IsTrue, Option, Some, None, not, T, ◌<◌, negsuc, neg_ℤ, unsigned_abs, List, [], ◌∷◌, refl, sym, ap, subst, ◌∙◌, arith}
use Rattle.std.specs.List.{list_all}
use Rattle.std.specs.Int.Signed.{lt_z_yes, lt_z_no, le_z_yes}
use Rattle.std.specs.Ordering.{int_eq}
use Rattle.std.proofs.lemmas.Bool.{le-leb}
use Rattle.std.proofs.lemmas.Int.{ints}
use Rattle.std.proofs.lemmas.Bool.Decides.{Decides-int_eq}
use Rattle.std.proofs.Math.IntN.{*ℤ-zero, *ℤ_comm}
use Rattle.rel_list.proofs.Sets.{and_both}
use Rattle.rel_logic.specs.Syntax.{Trm}
use Rattle.rules_int.specs.Linear.{Part, Linear, coefficient, has_no_atoms, is_multiple_at, are_multiples}
use Rattle.rules_int.specs.Table.{is_rounded, is_quotient}
use Rattle.rules_int.specs.Products.{distribute_left, one_times, below_divisor}
use Rattle.rules_int.specs.Weights.{no_atoms, multiples_at}
use Rattle.rules_int.specs.Entries.{Numbers}
use Rattle.rules_int.specs.Forms.{parts_at, IsLike, AreMultiples}
use Rattle.rules_int.specs.declared.dense.Dense.{Dense}
use Rattle.rules_int.specs.declared.parts.Parts.{Parts}
use Rattle.rules_int.specs.declared.forms.Form.{Form}
use Rattle.rules_int.specs.Made.{IsFormOf, dense_at}

alike : (a b : Bool) → (a ≡ true → b ≡ true) → (b ≡ true → a ≡ true) → a ≡ b
alike true b h g = sym (h refl)
alike false true h g = g refl
alike false false h g = refl

all_true : (test : Part → Bool) → ((p : Part) → test p ≡ true) → (ps : List Part) → list_all test ps ≡ true
all_true test h [] = refl
all_true test h (p ∷ ps) = let later = all_true test h ps in λ i. h p i && later i

-- the numbers are multiples of one another where the coefficients are
pub same_multiples : (k : ℤ) (a b : Numbers) (f g : Linear) (result : Bool) → ((x : Trm) → a x ≡ coefficient f.parts x) → ((x : Trm) → b x ≡ coefficient g.parts x)
    → (IsTrue result ↔ AreMultiples k a b) → result ≡ are_multiples k f.parts g.parts
same_multiples k a b f g result e d h = alike result (are_multiples k f.parts g.parts)
    (λ yes. let each = λ (p : Part). (Decides-int_eq (coefficient f.parts p.1) (k *ℤ coefficient g.parts p.1)).1 (sym (e p.1) ∙ (h.0 yes p.1 ∙ ap (λ z. k *ℤ z) (d p.1))) in
    let first = all_true (is_multiple_at k f.parts g.parts) each f.parts in
    let second = all_true (is_multiple_at k f.parts g.parts) each g.parts in
    λ i. first i && second i)
    (λ yes. h.1 (λ x. e x ∙ (multiples_at k f.parts g.parts yes x ∙ ap (λ z. k *ℤ z) (sym (d x)))))

-- nothing is left where all numbers are multiples of 0
pub same_nothing : (k : ℤ) (a b : Numbers) (f : Linear) (result : Bool) → ((x : Trm) → a x ≡ coefficient f.parts x) → ((x : Trm) → b x ≡ pos 0) → (IsTrue result ↔ AreMultiples k a b) → result ≡ has_no_atoms f
same_nothing k a b f result e d h = alike result (has_no_atoms f)
    (λ yes. all_true (λ p. int_eq (coefficient f.parts p.1) (pos 0)) (λ p. (Decides-int_eq (coefficient f.parts p.1) (pos 0)).1 (sym (e p.1) ∙ (h.0 yes p.1 ∙ (ap (λ z. k *ℤ z) (d p.1) ∙ *ℤ-zero k)))) f.parts)
    (λ yes. h.1 (λ x. e x ∙ (no_atoms f yes x ∙ (sym (*ℤ-zero k) ∙ ap (λ z. k *ℤ z) (sym (d x))))))

-- ---- orders as tests

pub less_is : (a b : ℤ) → a <ℤ b → int_lt a b ≡ true
less_is a b h = at (int_lt a b) refl
  where
    at : (x : Bool) → int_lt a b ≡ x → x ≡ true
    at true e = refl
    at false e = let most = lt_z_no {a = a} {b = b} (subst (λ x. T (not x)) (sym e) tt) in absurd (omega (arith, ints, h, most))

at_most_is : (a b : ℤ) → a ≤ℤ b → int_le a b ≡ true
at_most_is (pos a) (pos b) h = le-leb a b (omega (arith, ints, h))
at_most_is (pos a) (negsuc b) h = absurd (omega (arith, ints, h))
at_most_is (negsuc a) (pos b) h = refl
at_most_is (negsuc a) (negsuc b) h = le-leb b a (omega (arith, ints, h))

-- ---- a quotient, rounded up

both_bounds : (c d g : ℤ) → d ≤ℤ (g *ℤ c) → (g *ℤ c) <ℤ (d +ℤ g) → is_rounded c d g ≡ true
both_bounds c d g h k = let first = at_most_is d (g *ℤ c) h in let second = less_is (g *ℤ c) (d +ℤ g) k in λ i. first i && second i

-- a remainder is less than the divisor, whatever its sign
small : (r g : ℤ) → unsigned_abs r < unsigned_abs g → pos 1 ≤ℤ g → (r <ℤ g) × (neg_ℤ r <ℤ g)
small (pos r) (pos g) h k = (omega (arith, ints, h), omega (arith, ints, h, k))
small (negsuc r) (pos g) h k = (omega (arith, ints, h, k), omega (arith, ints, h))
small r (negsuc g) h k = absurd (omega (arith, ints, k))

module _ (d g q r : ℤ) (whole : q *ℤ g +ℤ r ≡ d) (below : unsigned_abs r < unsigned_abs g) (one : pos 1 ≤ℤ g) where
  pub rounds_up : pos 0 <ℤ r → is_rounded (q +ℤ pos 1) d g ≡ true
  rounds_up h =
      let more : g *ℤ (q +ℤ pos 1) ≡ q *ℤ g +ℤ g = distribute_left g q (pos 1) ∙ ((λ i. *ℤ_comm g q i +ℤ *ℤ_comm g (pos 1) i) ∙ ap (λ z. q *ℤ g +ℤ z) (one_times g)) in
      let s = small r g below one in
      both_bounds (q +ℤ pos 1) d g (subst (λ z. d ≤ℤ z) (sym more) (first (q *ℤ g) whole s.0)) (subst (λ z. z <ℤ (d +ℤ g)) (sym more) (second (q *ℤ g) whole h))
    where
      first : (p : ℤ) → p +ℤ r ≡ d → r <ℤ g → d ≤ℤ (p +ℤ g)
      first p e s = omega (arith, ints, e, s)

      second : (p : ℤ) → p +ℤ r ≡ d → pos 0 <ℤ r → (p +ℤ g) <ℤ (d +ℤ g)
      second p e h = omega (arith, ints, e, h)

  pub rounds_off : r ≤ℤ pos 0 → is_rounded q d g ≡ true
  rounds_off h =
      let s = small r g below one in
      both_bounds q d g (subst (λ z. d ≤ℤ z) (*ℤ_comm q g) (first (q *ℤ g) whole h)) (subst (λ z. z <ℤ (d +ℤ g)) (*ℤ_comm q g) (second (q *ℤ g) whole s.1))
    where
      first : (p : ℤ) → p +ℤ r ≡ d → r ≤ℤ pos 0 → d ≤ℤ p
      first p e h = omega (arith, ints, e, h)

      second : (p : ℤ) → p +ℤ r ≡ d → neg_ℤ r <ℤ g → p <ℤ (d +ℤ g)
      second p e s = omega (arith, ints, e, s)

in_order : (a b : ℤ) → int_le a b ≡ true → a ≤ℤ b
in_order a b e = le_z_yes (subst T (sym e) tt)

pub below_is : (a b : ℤ) → int_lt a b ≡ true → a <ℤ b
below_is a b e = lt_z_yes (subst T (sym e) tt)

pub not_below : (a b : ℤ) → int_lt a b ≡ false → b ≤ℤ a
not_below a b e = lt_z_no {a = a} {b = b} (subst (λ x. T (not x)) (sym e) tt)

-- there is only one
one_rounded : (b c d g : ℤ) → pos 1 ≤ℤ g → is_rounded b d g ≡ true → is_rounded c d g ≡ true → b ≡ c
one_rounded b c d g one e f =
    let p = and_both (int_le d (g *ℤ b)) (int_lt (g *ℤ b) (d +ℤ g)) e in
    let q = and_both (int_le d (g *ℤ c)) (int_lt (g *ℤ c) (d +ℤ g)) f in
    let up = apart b c (in_order d (g *ℤ b) p.0) (below_is (g *ℤ c) (d +ℤ g) q.1) in
    let down = apart c b (in_order d (g *ℤ c) q.0) (below_is (g *ℤ b) (d +ℤ g) p.1) in
    antisymmetric b c (below_divisor g (c -ℤ b) one up) (below_divisor g (b -ℤ c) one down)
  where
    less : (p q d g z : ℤ) → d ≤ℤ p → q <ℤ (d +ℤ g) → z +ℤ p ≡ q → z <ℤ g
    less p q d g z h k e = omega (arith, ints, h, k, e)

    back : (b c : ℤ) → (c -ℤ b) +ℤ b ≡ c
    back b c = omega (arith, ints)

    apart : (b c : ℤ) → d ≤ℤ (g *ℤ b) → (g *ℤ c) <ℤ (d +ℤ g) → (g *ℤ (c -ℤ b)) <ℤ g
    apart b c h k = less (g *ℤ b) (g *ℤ c) d g (g *ℤ (c -ℤ b)) h k (sym (distribute_left g (c -ℤ b) b) ∙ ap (λ z. g *ℤ z) (back b c))

    antisymmetric : (b c : ℤ) → (c -ℤ b) ≤ℤ pos 0 → (b -ℤ c) ≤ℤ pos 0 → b ≡ c
    antisymmetric b c h k = omega (arith, ints, h, k)

pub rounded_is : (b c d g : ℤ) (result : Bool) → pos 1 ≤ℤ g → (IsTrue result ↔ (b ≡ c)) → is_rounded c d g ≡ true → result ≡ is_rounded b d g
rounded_is b c d g result one h is = alike result (is_rounded b d g) (λ yes. subst (λ c. is_rounded c d g ≡ true) (sym (h.0 yes)) is) (λ yes. h.1 (one_rounded b c d g one yes is))

-- ---- whole comparisons

pub above_zero : (c : ℤ) (s : Linear) (b : Bool) → c ≡ s.constant → pos 0 <ℤ c → b ≡ has_no_atoms s → b ≡ int_lt (pos 0) s.constant && has_no_atoms s
above_zero c s b e h k = k ∙ ap (λ x. x && has_no_atoms s) (sym (less_is (pos 0) s.constant (subst (λ z. pos 0 <ℤ z) e h)))

pub same_constants : (a b : ℤ) (f g : Linear) (m : Bool) → a ≡ f.constant → b ≡ g.constant → a ≡ b → m ≡ are_multiples (pos 1) f.parts g.parts → m ≡ int_eq f.constant g.constant && are_multiples (pos 1) f.parts g.parts
same_constants a b f g m e d same h = h ∙ ap (λ x. x && are_multiples (pos 1) f.parts g.parts) (sym ((Decides-int_eq f.constant g.constant).1 (sym e ∙ (same ∙ d))))

pub some_size : (g : ℤ) → pos 1 ≤ℤ g → 0 < unsigned_abs g
some_size (pos g) h = omega (arith, ints, h)
some_size (negsuc g) h = absurd (omega (arith, ints, h))

pub quotient_of : (g : ℤ) (o p : Option Linear) (sum : Form Dense) (form : Form Parts) (result : Bool) → IsFormOf dense_at o (Some sum) → IsFormOf parts_at p (Some form)
    → ((s f : Linear) → IsLike sum.constant (dense_at sum.numbers) s → IsLike form.constant (parts_at form.numbers) f → result ≡ are_multiples g s.parts f.parts && is_rounded f.constant s.constant g) → result ≡ is_quotient g o p
quotient_of g None p sum form result h k is = absurd h
quotient_of g (Some s) None sum form result h k is = absurd k
quotient_of g (Some s) (Some f) sum form result h k is = is s f h k

pub divisor_is : (g : ℤ) (b c : Bool) → int_lt g (pos 1) ≡ false → b ≡ c → b ≡ int_le (pos 1) g && c
divisor_is g b c e h = h ∙ ap (λ x. x && c) (sym (at_most_is (pos 1) g (not_below g (pos 1) e)))
