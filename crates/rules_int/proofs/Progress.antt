-- How far a loop over entries has joined the numbers of atoms.
use Rattle.std.proofs.Common.{◌≡◌, ℤ, pos, ◌+ℤ◌, Bool, true, false, not, ◌||◌, if◌then◌else◌, [], ◌∷◌, refl, sym, ap, subst, ◌∙◌, SFits, lit<}
use Rattle.std.specs.Int.{w128}
use Rattle.std.proofs.Math.IntN.{*ℤ-zero, +ℤ_idr}
use Rattle.rel_list.proofs.Sets.{and_both}
use Rattle.rel_logic.specs.Syntax.{Trm}
use Rattle.rel_logic.specs.Equal.{same_trm}
use Rattle.rel_logic.proofs.SameTrees.{same_trm_is}
use Rattle.rules_int.specs.declared.join.Join.{Join}
use Rattle.rules_int.specs.declared.join.Join.TheVariants.{Plus, Minus, MinusPlusOne, PlusTimes}
use Rattle.rules_int.specs.Entries.{Numbers, Entries, number_at, has_atom, are_distinct}
use Rattle.rules_int.specs.Forms.{IsPut, join, CanJoin, CanJoinEach, JoinsEach, Fits}

-- an atom's number is still to be joined, or is joined
abbrev pub At : Join → ℤ → ℤ → ℤ → Bool → ℤ → Type 0
At how before now number true later = (now ≡ before) × (number ≡ later)
At how before now number false later = (now ≡ join how before number) × CanJoin how before number

-- the entries in rest are still to be joined
pub record Progress (how : Join) (before now : Numbers) (es rest : Entries) : Type 0 where
  pub distinct : are_distinct rest ≡ true
  pub numbers : (x : Trm) → At how (before x) (now x) (number_at es x) (has_atom rest x) (number_at rest x)

join_none : (how : Join) (z : ℤ) → join how z (pos 0) ≡ z
join_none Plus z = +ℤ_idr z
join_none Minus z = +ℤ_idr z
join_none MinusPlusOne z = +ℤ_idr z
join_none (PlusTimes k) z = ap (λ y. z +ℤ y) (*ℤ-zero k) ∙ +ℤ_idr z

pub zero_fits : SFits w128 (pos 0)
zero_fits = record { sfits = lit< tt }

can_none : (how : Join) (z : ℤ) → Fits z → CanJoin how z (pos 0)
can_none Plus z h = (tt, subst Fits (sym (join_none Plus z)) h)
can_none Minus z h = (tt, subst Fits (sym (join_none Minus z)) h)
can_none MinusPlusOne z h = (tt, subst Fits (sym (join_none MinusPlusOne z)) h)
can_none (PlusTimes k) z h = (subst Fits (sym (*ℤ-zero k)) zero_fits, subst Fits (sym (join_none (PlusTimes k) z)) h)

pub absent : (es : Entries) (x : Trm) → has_atom es x ≡ false → number_at es x ≡ pos 0
absent [] x e = refl
absent (e ∷ es) x h = at (same_trm e.0 x) h (absent es x)
  where
    at : (b : Bool) → (b || has_atom es x) ≡ false → (has_atom es x ≡ false → number_at es x ≡ pos 0) → (if b then e.1 else number_at es x) ≡ pos 0
    at true h later = cc
    at false h later = later h

begin_at : (how : Join) (b : ℤ) (es : Entries) (x : Trm) → Fits b → (here : Bool) → has_atom es x ≡ here → At how b b (number_at es x) here (number_at es x)
begin_at how b es x h true e = (refl, refl)
begin_at how b es x h false e =
    let none = absent es x e in
    (sym (join_none how b) ∙ ap (join how b) (sym none), subst (CanJoin how b) (sym none) (can_none how b h))

pub begins : (how : Join) (before : Numbers) (es : Entries) → are_distinct es ≡ true → ((x : Trm) → Fits (before x)) → Progress how before before es es
begins how before es distinct fits = record { distinct = distinct; numbers = λ x. begin_at how (before x) es x (fits x) (has_atom es x) refl }

itself : (a : Trm) → same_trm a a ≡ true
itself a = (same_trm_is a a).1 refl

not_true : (b : Bool) → not b ≡ true → b ≡ false
not_true true e = cc
not_true false e = refl

module _ (how : Join) (before now : Numbers) (es : Entries) (a : Trm) (c : ℤ) (rest : Entries) (p : Progress how before now es ((a, c) ∷ rest)) where
  pub at_first : (now a ≡ before a) × (number_at es a ≡ c)
  at_first = subst (λ b. At how (before a) (now a) (number_at es a) (b || has_atom rest a) (if b then c else number_at rest a)) (itself a) (p.numbers a)

  pub stops : ¬ (CanJoin how (now a) c) → ¬ (CanJoinEach how before (number_at es))
  stops cannot all = cannot (subst (λ z. CanJoin how z c) (sym at_first.0) (subst (CanJoin how (before a)) at_first.1 (all a)))

  none_later : has_atom rest a ≡ false
  none_later = not_true (has_atom rest a) (and_both (not (has_atom rest a)) (are_distinct rest) p.distinct).0

  module _ (after : Numbers) (z : ℤ) (put : IsPut now a z after) (made : z ≡ join how (now a) c) (can : CanJoin how (now a) c) where
    here : (x : Trm) → a ≡ x → At how (before x) (after x) (number_at es x) (has_atom rest x) (number_at rest x)
    here x e = subst (λ x. At how (before x) (after x) (number_at es x) (has_atom rest x) (number_at rest x)) e
        (subst (λ b. At how (before a) (after a) (number_at es a) b (number_at rest a)) (sym none_later) (
          put a ∙ (ap (λ b. if b then z else now a) (itself a) ∙ (made ∙ (λ i. join how (at_first.0 i) (sym at_first.1 i)))),
          subst (λ z. CanJoin how z (number_at es a)) at_first.0 (subst (CanJoin how (now a)) (sym at_first.1) can),
        ))

    there : (x : Trm) → same_trm a x ≡ false → At how (before x) (after x) (number_at es x) (has_atom rest x) (number_at rest x)
    there x e =
        subst (λ y. At how (before x) y (number_at es x) (has_atom rest x) (number_at rest x)) (sym (put x ∙ ap (λ b. if b then z else now x) e))
        (subst (λ b. At how (before x) (now x) (number_at es x) (b || has_atom rest x) (if b then c else number_at rest x)) e (p.numbers x))

    each : (x : Trm) (b : Bool) → same_trm a x ≡ b → At how (before x) (after x) (number_at es x) (has_atom rest x) (number_at rest x)
    each x true e = here x ((same_trm_is a x).0 e)
    each x false e = there x e

    pub goes_on : Progress how before after es rest
    goes_on = record {
      distinct = (and_both (not (has_atom rest a)) (are_distinct rest) p.distinct).1;
      numbers = λ x. each x (same_trm a x) refl;
    }

pub ends : (how : Join) (before now : Numbers) (es : Entries) → Progress how before now es [] → JoinsEach how before (number_at es) now
ends how before now es p = p.numbers
