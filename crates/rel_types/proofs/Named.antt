-- The first fault of a list of members, each of which is told which names stand before it.
use Rattle.std.proofs.Common.{◌≡◌, ℕ, suc, ◌+◌, ◌<◌, Bool, ◌||◌, List, [], ◌∷◌, Option, Some, None, map, get_or, drop, length, arith, refl, sym, ap, ap₂, ◌∙◌}
use Rattle.std.specs.Prelude.{bytes_eq}
use Rattle.std.proofs.Math.Seq.{drop-cons}
use Rattle.rel_lang.specs.Syntax.{Word}
use Rattle.rel_flaws.specs.Flaws.{Flaws, flawless, Fault, first_of}
use Rattle.rel_flaws.specs.Inference.{is_among}
use Rattle.rel_types.specs.Items.{first_named, twice_where}
use Rattle.rel_types.specs.Lookups.{SameNames}

-- the same names give a member the same fault
abbrev pub AsksForNames : {Y : Type 0} → (List Word → Y → Option Fault) → Type 0
AsksForNames {Y} fault = (s t : List Word) → SameNames s t → (y : Y) → fault s y ≡ fault t y

module _ {X Y : Type 0} (name : Y → Word) (fault : List Word → Y → Option Fault) (asks : AsksForNames fault) (view : X → Y) where
  with_names : (s t : List Word) → SameNames s t → (ys : List Y) → first_named name fault s ys ≡ first_named name fault t ys
  with_names s t h [] = refl
  with_names s t h (y ∷ ys) = ap₂ first_of (asks s t h y) (with_names (name y ∷ s) (name y ∷ t) (λ x. ap (λ b. bytes_eq x (name y) || b) (h x)) ys)

  -- the next member, where those before it have no fault
  at_next : (whole : Option Fault) (seen : List Word) (xs : List X) (i : ℕ) (d : X) → i < length xs → d ≡ get_or xs i d
      → whole ≡ first_named name fault seen (map view (drop i xs))
      → whole ≡ first_of (fault seen (view d)) (first_named name fault (name (view d) ∷ seen) (map view (drop (suc i) xs)))
  at_next whole seen xs i d h is before =
      before ∙ ap (λ l. first_named name fault seen (map view l)) (drop-cons xs i d h ∙ ap (λ a. a ∷ drop (suc i) xs) (sym is))

  -- it has one
  pub named_here : (whole : Option Fault) (f : Fault) (seen : List Word) (xs : List X) (i : ℕ) (d : X) → i < length xs → d ≡ get_or xs i d
      → whole ≡ first_named name fault seen (map view (drop i xs)) → Some f ≡ fault seen (view d) → Some f ≡ whole
  named_here whole f seen xs i d h is before here =
      sym (at_next whole seen xs i d h is before ∙ ap (λ g. first_of g (first_named name fault (name (view d) ∷ seen) (map view (drop (suc i) xs)))) (sym here))

  -- it has none
  pub named_next : (whole : Option Fault) (seen after : List Word) (xs : List X) (i : ℕ) (d : X) (n : Word) → i < length xs → d ≡ get_or xs i d
      → whole ≡ first_named name fault seen (map view (drop i xs)) → None ≡ fault seen (view d) → n ≡ name (view d) → SameNames after (n ∷ seen)
      → whole ≡ first_named name fault after (map view (drop (i + 1) xs))
  named_next whole seen after xs i d n h is before here e added =
      let step : suc i ≡ i + 1 = omega arith in
      at_next whole seen xs i d h is before ∙ ap (λ g. first_of g (first_named name fault (name (view d) ∷ seen) (map view (drop (suc i) xs)))) (sym here)
      ∙ with_names (name (view d) ∷ seen) after (λ x. sym (added x ∙ ap (λ m. is_among x (m ∷ seen)) e)) (map view (drop (suc i) xs))
      ∙ ap (λ k. first_named name fault after (map view (drop k xs))) step

-- ---- members that are told by a flaw whether their name stands before

abbrev pub told : {Y : Type 0} → (Y → Word) → (Flaws → Y → Option Fault) → List Word → Y → Option Fault
told name fault seen y = fault (twice_where (is_among (name y) seen)) y

pub told_asks : {Y : Type 0} (name : Y → Word) (fault : Flaws → Y → Option Fault) → AsksForNames (told name fault)
told_asks name fault s t h y = ap (λ b. fault (twice_where b) y) (h (name y))

-- by what was found of its name
pub is_told : {Y : Type 0} (name : Y → Word) (fault : Flaws → Y → Option Fault) (r : Option Fault) (f : Flaws) (b : Bool) (n : Word) (seen : List Word) (y : Y)
    → r ≡ fault (record f { twice = b }) y → f ≡ flawless → b ≡ is_among n seen → n ≡ name y → r ≡ told name fault seen y
is_told name fault r f b n seen y here none is same =
    here ∙ ap (λ g. fault g y) (ap {A = Flaws} (λ g. record g { twice = b }) none ∙ ap twice_where (is ∙ ap (λ m. is_among m seen) same))
