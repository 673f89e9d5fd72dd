-- The code's joined forms are those of the definition.
use Rattle.std.proofs.Common.{◌≡◌, ⊎_elim, ℤ, pos, negsuc, ◌+ℤ◌, ◌-ℤ◌, ◌*ℤ◌, neg_ℤ, Bool, true, false, ◌&&◌, if◌then◌else◌, List, [], ◌∷◌, Option, Some, None, MatchOption, refl, sym, ap, subst, ◌∙◌, arith}
use Rattle.std.specs.List.{list_all}
use Rattle.std.proofs.lemmas.Bool.{ltb-true, lt-ltb}
use Rattle.std.proofs.lemmas.Int.{ints}
use Rattle.std.proofs.Math.IntN.{+ℤ_idr}
use Rattle.rel_list.proofs.Sets.{and_both}
use Rattle.rel_logic.specs.Syntax.{Trm}
use Rattle.rules_int.specs.declared.forms.Form.{Form}
use Rattle.rules_int.specs.declared.join.Join.{Join}
use Rattle.rules_int.specs.declared.join.Join.TheVariants.{Plus, Minus, MinusPlusOne, PlusTimes}
use Rattle.rules_int.specs.Linear.{Part, Linear, coefficient, times_parts, plus, minus, times, minus_plus_one, fits, fits_form, within, joined}
use Rattle.rules_int.specs.Products.{minus_one_times}
use Rattle.rules_int.specs.Weights.{append_coefficient, times_coefficient, at_each}
use Rattle.rules_int.specs.Entries.{Numbers}
use Rattle.rules_int.specs.Forms.{join, join_constants, Fits, HasProduct, CanJoinConstants, CanJoinEach, JoinsEach, IsLike}
use Rattle.rules_int.specs.Made.{IsFormOf, joined_by, IsJoinOf}
use Rattle.rules_int.proofs.Progress.{zero_fits}

-- ---- the range

pub fits_number : (z : ℤ) → fits z ≡ true → Fits z
fits_number (pos n) e = record { sfits = ltb-true _ _ e }
fits_number (negsuc n) e = record { sfits = ltb-true _ _ e }

pub number_fits : (z : ℤ) → Fits z → fits z ≡ true
number_fits (pos n) h = lt-ltb _ _ h.sfits
number_fits (negsuc n) h = lt-ltb _ _ h.sfits

pub fits_all : (f : Linear) → fits_form f ≡ true → Fits f.constant × ((x : Trm) → Fits (coefficient f.parts x))
fits_all f e =
    let both = and_both (fits f.constant) (list_all (λ p. fits (coefficient f.parts p.1)) f.parts) e in (
      fits_number f.constant both.0,
      λ x. ⊎_elim (λ h. h) (λ none. subst Fits (sym none) zero_fits)
          (at_each (λ a. Fits (coefficient f.parts a)) (λ p. fits (coefficient f.parts p.1)) (λ p h. fits_number (coefficient f.parts p.1) h) f.parts both.1 x),
    )

each_fits : (f : Linear) → ((x : Trm) → Fits (coefficient f.parts x)) → (ps : List Part) → list_all (λ p. fits (coefficient f.parts p.1)) ps ≡ true
each_fits f h [] = refl
each_fits f h (p ∷ ps) = let here = number_fits (coefficient f.parts p.1) (h p.1) in let later = each_fits f h ps in λ i. here i && later i

pub all_fit : (f : Linear) → Fits f.constant → ((x : Trm) → Fits (coefficient f.parts x)) → fits_form f ≡ true
all_fit f h k = let first = number_fits f.constant h in let rest = each_fits f k f.parts in λ i. first i && rest i

-- ---- one form joined to another

clash : false ≡ true → ⊥
clash e = cc

module _ {N : Type 0} (at : N → Numbers) (how : Join) (g h made : Linear)
    (constant_law : made.constant ≡ join_constants how g.constant h.constant)
    (number_law : (x : Trm) → coefficient made.parts x ≡ join how (coefficient g.parts x) (coefficient h.parts x))
    (constant_product : HasProduct how h.constant)
    (products : (x : Trm) → HasProduct how (coefficient h.parts x))
    (a c : ℤ) (before other : Numbers) (first : IsLike a before g) (second : IsLike c other h) where
  constant_is : join_constants how a c ≡ made.constant
  constant_is = (λ i. join_constants how (first.constant_is i) (second.constant_is i)) ∙ sym constant_law

  number_is : (x : Trm) → join how (before x) (other x) ≡ coefficient made.parts x
  number_is x = (λ i. join how (first.numbers_are x i) (second.numbers_are x i)) ∙ sym (number_law x)

  can_constants : Fits made.constant → CanJoinConstants how a c
  can_constants f = (subst (HasProduct how) (sym second.constant_is) constant_product, subst Fits (sym constant_is) f)

  can_each : ((x : Trm) → Fits (coefficient made.parts x)) → CanJoinEach how before other
  can_each f x = (subst (HasProduct how) (sym (second.numbers_are x)) (products x), subst Fits (sym (number_is x)) (f x))

  like : (f : Form N) → f.constant ≡ join_constants how a c → CanJoinConstants how a c → JoinsEach how before other (at f.numbers) → IsLike f.constant (at f.numbers) made
  like f e can each = record {
    constant_is = e ∙ constant_is;
    numbers_are = λ x. (each x).0 ∙ number_is x;
    constant_fits = subst Fits (sym e) can.1;
    numbers_fit = λ x. subst Fits (sym (each x).0) (each x).1.1;
  }

  of_none : ¬ (CanJoinConstants how a c × CanJoinEach how before other) → (b : Bool) → fits_form made ≡ b → IsFormOf at (if b then Some made else None) None
  of_none cannot true e = let f = fits_all made e in absurd (cannot (can_constants f.0, can_each f.1))
  of_none cannot false e = tt

  of_some : (f : Form N) → IsLike f.constant (at f.numbers) made → (b : Bool) → fits_form made ≡ b → IsFormOf at (if b then Some made else None) (Some f)
  of_some f l true e = l
  of_some f l false e = absurd (clash (sym e ∙ all_fit made (subst Fits l.constant_is l.constant_fits) (λ x. subst Fits (l.numbers_are x) (l.numbers_fit x))))

  pub form_made : (r : Option (Form N)) → MatchOption r (¬ (CanJoinConstants how a c × CanJoinEach how before other))
      (λ f. (f.constant ≡ join_constants how a c) × CanJoinConstants how a c × JoinsEach how before other (at f.numbers)) → IsFormOf at (within made) r
  form_made None cannot = of_none cannot (fits_form made) refl
  form_made (Some f) h = of_some f (like f h.0 h.1 h.2) (fits_form made) refl

-- ---- each way to join

minus_number : (g h : Linear) (x : Trm) → coefficient (minus g h).parts x ≡ coefficient g.parts x -ℤ coefficient h.parts x
minus_number g h x =
    append_coefficient g.parts (times_parts (neg_ℤ (pos 1)) h.parts) x
    ∙ (ap (λ z. coefficient g.parts x +ℤ z) (times_coefficient (neg_ℤ (pos 1)) h.parts x ∙ minus_one_times (coefficient h.parts x)) ∙ plus_neg (coefficient g.parts x) (coefficient h.parts x))
  where
    plus_neg : (a b : ℤ) → a +ℤ neg_ℤ b ≡ a -ℤ b
    plus_neg a b = omega (arith, ints)

next_number : (g h : Linear) (x : Trm) → coefficient (minus_plus_one g h).parts x ≡ coefficient g.parts x -ℤ coefficient h.parts x
next_number g h x = append_coefficient (minus g h).parts [] x ∙ (+ℤ_idr (coefficient (minus g h).parts x) ∙ minus_number g h x)

times_number : (k : ℤ) (g h : Linear) (x : Trm) → coefficient (plus g (times k h)).parts x ≡ coefficient g.parts x +ℤ k *ℤ coefficient h.parts x
times_number k g h x = append_coefficient g.parts (times_parts k h.parts) x ∙ ap (λ z. coefficient g.parts x +ℤ z) (times_coefficient k h.parts x)

abbrev pub IsMade : {N : Type 0} → (N → Numbers) → Join → ℤ → ℤ → Numbers → Numbers → Option (Form N) → Type 0
IsMade {N = N} at how a c before other r = MatchOption r (¬ (CanJoinConstants how a c × CanJoinEach how before other))
    (λ f. (f.constant ≡ join_constants how a c) × CanJoinConstants how a c × JoinsEach how before other (at f.numbers))

module _ {N M : Type 0} (at : N → Numbers) (other : M → Numbers) (a : Form N) (c : Form M) (g h : Linear) (first : IsLike a.constant (at a.numbers) g) (second : IsLike c.constant (other c.numbers) h) where
  times_made : (k : ℤ) (r : Option (Form N)) → IsMade at (PlusTimes k) a.constant c.constant (at a.numbers) (other c.numbers) r → (b : Bool) → fits_form (times k h) ≡ b → IsFormOf at (joined plus (Some g) (if b then Some (times k h) else None)) r
  times_made k r m true e =
      let f = fits_all (times k h) e in
      form_made at (PlusTimes k) g h (plus g (times k h)) refl (times_number k g h) f.0 (λ x. subst Fits (times_coefficient k h.parts x) (f.1 x)) a.constant c.constant (at a.numbers) (other c.numbers) first second r m
  times_made k None m false e = tt
  times_made k (Some f) m false e =
      clash (sym e ∙ all_fit (times k h) (subst (λ z. Fits (k *ℤ z)) second.constant_is m.1.0) (λ x. subst Fits (ap (λ z. k *ℤ z) (second.numbers_are x) ∙ sym (times_coefficient k h.parts x)) (m.2 x).1.0))

  made_by : (how : Join) (r : Option (Form N)) → IsMade at how a.constant c.constant (at a.numbers) (other c.numbers) r → IsFormOf at (joined_by how (Some g) (Some h)) r
  made_by Plus r m = form_made at Plus g h (plus g h) refl (append_coefficient g.parts h.parts) tt (λ x. tt) a.constant c.constant (at a.numbers) (other c.numbers) first second r m
  made_by Minus r m = form_made at Minus g h (minus g h) refl (minus_number g h) tt (λ x. tt) a.constant c.constant (at a.numbers) (other c.numbers) first second r m
  made_by MinusPlusOne r m = form_made at MinusPlusOne g h (minus_plus_one g h) refl (next_number g h) tt (λ x. tt) a.constant c.constant (at a.numbers) (other c.numbers) first second r m
  made_by (PlusTimes k) r m = times_made k r m (fits_form (times k h)) refl

pub both_joined : {N M : Type 0} (at : N → Numbers) (other : M → Numbers) (how : Join) (a : Form N) (c : Form M) (r : Option (Form N)) → IsMade at how a.constant c.constant (at a.numbers) (other c.numbers) r → IsJoinOf at other how (Some a) (Some c) r
both_joined at other how a c r m None p h k = absurd h
both_joined at other how a c r m (Some g) None h k = absurd k
both_joined at other how a c r m (Some g) (Some f) h k = made_by at other a c g f h k how r m

no_join : {N : Type 0} (at : N → Numbers) (how : Join) (p : Option Linear) → IsFormOf at (joined_by how None p) None
no_join at Plus p = tt
no_join at Minus p = tt
no_join at MinusPlusOne p = tt
no_join at (PlusTimes k) p = tt

pub no_first : {N M : Type 0} (at : N → Numbers) (other : M → Numbers) (how : Join) (c : Option (Form M)) → IsJoinOf at other how None c None
no_first at other how c None p h k = no_join at how p
no_first at other how c (Some g) p h k = absurd h

no_other : {N : Type 0} (at : N → Numbers) (how : Join) (o : Option Linear) → IsFormOf at (joined_by how o None) None
no_other at Plus None = tt
no_other at Plus (Some g) = tt
no_other at Minus None = tt
no_other at Minus (Some g) = tt
no_other at MinusPlusOne None = tt
no_other at MinusPlusOne (Some g) = tt
no_other at (PlusTimes k) None = tt
no_other at (PlusTimes k) (Some g) = tt

pub no_second : {N M : Type 0} (at : N → Numbers) (other : M → Numbers) (how : Join) (a : Option (Form N)) → IsJoinOf at other how a None None
no_second at other how a o None h k = no_other at how o
no_second at other how a o (Some g) h k = absurd k

pub ruleset joining = (both_joined, no_first, no_second)
