-- Two lists of the same names.
use Rattle.std.proofs.Common.{◌≡◌, ℕ, suc, ◌+◌, ◌<◌, Bool, true, false, not, ◌&&◌, List, [], ◌∷◌, map, length, get_or, drop, refl, sym, ap, ap₂, ◌∙◌, arith}
use Rattle.std.specs.Prelude.{bytes_eq}
use Rattle.std.proofs.Math.Seq.{drop-cons}
use Rattle.std.proofs.lemmas.List.{get_or-map, length-map}
use Rattle.rel_lang.specs.Syntax.{Word}
use Rattle.rel_types.specs.Items.{same_names}

pub lengths_differ : (xs ys : List Word) → ¬ (length xs ≡ length ys) → false ≡ same_names xs ys
lengths_differ [] [] h = absurd (h refl)
lengths_differ [] (y ∷ ys) h = refl
lengths_differ (x ∷ xs) [] h = refl
lengths_differ (x ∷ xs) (y ∷ ys) h =
    elim (bytes_eq x y) as (λ b. false ≡ (b && same_names xs ys)) [
      | true ↦ lengths_differ xs ys (λ e. h (ap suc e))
      | false ↦ refl
    ]

front_names : (xs ys : List Word) (i : ℕ) (d e : Word) → i < length xs → i < length ys
    → same_names (drop i xs) (drop i ys) ≡ (bytes_eq (get_or xs i d) (get_or ys i e) && same_names (drop (suc i) xs) (drop (suc i) ys))
front_names xs ys i d e h k = ap₂ same_names (drop-cons xs i d h) (drop-cons ys i e k)

module _ {X Y : Type 0} (f : X → Word) (g : Y → Word) (xs : List X) (ys : List Y) where
  -- the names from here on
  abbrev pub same_from : ℕ → Bool
  same_from i = same_names (drop i (map f xs)) (drop i (map g ys))

  pub one_more_name : (i : ℕ) (x : X) (y : Y) (d : X) (e : Y) → i < length xs → i < length ys → x ≡ get_or xs i d → y ≡ get_or ys i e
      → same_from i ≡ (bytes_eq (f x) (g y) && same_from (i + 1))
  one_more_name i x y d e h k at_x at_y =
      let next : suc i ≡ i + 1 = omega arith in
      front_names (map f xs) (map g ys) i (f d) (g e) (simp length-map h) (simp length-map k)
      ∙ ap₂ (λ a b. bytes_eq a b && same_from (suc i)) (get_or-map f xs i d (f d) h ∙ ap f (sym at_x)) (get_or-map g ys i e (g e) k ∙ ap g (sym at_y))
      ∙ ap (λ n. bytes_eq (f x) (g y) && same_from n) next

  pub names_differ : ¬ (length xs ≡ length ys) → false ≡ same_from 0
  names_differ h = lengths_differ (map f xs) (map g ys) (λ e. h (simp length-map at e))

  -- the same so far, and not here, or here too
  pub other_name : (i : ℕ) (x : X) (y : Y) (d : X) (e : Y) → bytes_eq (f x) (g y) ≡ false → i < length xs → i < length ys → x ≡ get_or xs i d → y ≡ get_or ys i e
      → same_from 0 ≡ same_from i → false ≡ same_from 0
  other_name i x y d e differs h k at_x at_y same = sym (same ∙ one_more_name i x y d e h k at_x at_y ∙ ap (λ b. b && same_from (i + 1)) differs)

  pub same_name : (i : ℕ) (x : X) (y : Y) (d : X) (e : Y) → bytes_eq (f x) (g y) ≡ true → i < length xs → i < length ys → x ≡ get_or xs i d → y ≡ get_or ys i e
      → same_from 0 ≡ same_from i → same_from 0 ≡ same_from (i + 1)
  same_name i x y d e is h k at_x at_y same = same ∙ one_more_name i x y d e h k at_x at_y ∙ ap (λ b. b && same_from (i + 1)) is

pub from_not : (b c d : Bool) → c ≡ not b → c ≡ d → b ≡ not d
from_not true c d e h = ap not (sym e ∙ h)
from_not false c d e h = ap not (sym e ∙ h)
