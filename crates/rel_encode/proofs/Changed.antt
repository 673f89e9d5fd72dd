-- The loops over a writes list.
use Rattle.std.proofs.Common.{◌≡◌, ℕ, ◌+◌, ◌<◌, ◌≤◌, Bool, true, false, List, [], ◌∷◌, ◌++◌, map, length, Option, Some, None, get_or, take, refl, sym, ap, subst, ◌∙◌, arith}
use Rattle.std.specs.Prelude.{◌||◌, if◌then◌else◌, is_some, bytes_eq}
use Rattle.std.specs.List.{list_any}
use Rattle.std.proofs.lemmas.List.{take_more, take_all, get_or-map, length-map}
use Rattle.std.proofs.lemmas.List.Folds.{list_any_more}
use Rattle.rel_lang.specs.Syntax.{Word, Effect, Global, Locations, Place, Decl}
use Rattle.rel_lang.specs.View.{place_of, effect_of}
use Rattle.rel_lang.specs.declared.bundle.Effect as E
use Rattle.rel_lang.specs.declared.bundle.Effect.TheVariants as EV
use Rattle.rel_logic.specs.Syntax.{Fml, bound, member, no, imp}
use Rattle.rel_flaws.specs.Entries.{find_entry, with_entry}
use Rattle.rel_encode.specs.Numbers.{Numbers}
use Rattle.rel_encode.specs.Terms.{Store, lifted, term_of}
use Rattle.rel_encode.specs.Frame.{is_global, lists_global, outside_places}
use Rattle.rel_encode.specs.Changes.{AreListed}
use Rattle.rel_encode.proofs.Lookups.{or_else, given, found_with}

at_place : (writes : List E.Effect) (i : ℕ) (e : E.Effect) → i < length writes → e ≡ get_or writes i e → effect_of e ≡ get_or (map effect_of writes) i (effect_of e)
at_place writes i e h at = ap effect_of at ∙ sym (get_or-map effect_of writes i e (effect_of e) h)

one_more : (writes : List E.Effect) (i : ℕ) (e : E.Effect) → i < length writes → e ≡ get_or writes i e
    → take (i + 1) (map effect_of writes) ≡ take i (map effect_of writes) ++ effect_of e ∷ []
one_more writes i e h at =
    take_more (map effect_of writes) i (effect_of e) (omega (arith, h, length-map writes effect_of))
    ∙ ap (λ d. take i (map effect_of writes) ++ d ∷ []) (sym (at_place writes i e h at))

-- ---- the variables that are listed

either_found : {V : Type 0} (o : Option V) (b : Bool) (v : V) → is_some (or_else o (if b then Some v else None)) ≡ (is_some o || b)
either_found None true v = refl
either_found None false v = refl
either_found (Some w) true v = refl
either_found (Some w) false v = refl

or_false : (b : Bool) → b ≡ (b || false)
or_false true = refl
or_false false = refl

any_more : (writes : List E.Effect) (i : ℕ) (e : E.Effect) (x : Word) → i < length writes → e ≡ get_or writes i e
    → lists_global (take (i + 1) (map effect_of writes)) x ≡ (lists_global (take i (map effect_of writes)) x || is_global x (effect_of e))
any_more writes i e x h at =
    list_any_more (is_global x) (map effect_of writes) i (effect_of e) (omega (arith, h, length-map writes effect_of))
    ∙ ap (λ d. list_any (is_global x) (take i (map effect_of writes)) || is_global x d) (sym (at_place writes i e h at))

pub listed_variable : {V : Type 0} (writes : List E.Effect) (i : ℕ) (e : E.Effect) (y : Word) (v : V) (es : List (Word × V)) → i < length writes → e ≡ get_or writes i e
    → effect_of e ≡ Global y → AreListed es (take i (map effect_of writes)) → AreListed (with_entry es y v) (take (i + 1) (map effect_of writes))
listed_variable writes i e y v es h at is before x =
    ap is_some (found_with x y v es) ∙ either_found (find_entry x es) (bytes_eq x y) v ∙ ap (λ b. b || bytes_eq x y) (before x)
    ∙ ap (λ d. lists_global (take i (map effect_of writes)) x || is_global x d) (sym is) ∙ sym (any_more writes i e x h at)

listed_places : {V : Type 0} (writes : List E.Effect) (i : ℕ) (e : E.Effect) (p : Place) (es : List (Word × V)) → i < length writes → e ≡ get_or writes i e
    → effect_of e ≡ Locations p → AreListed es (take i (map effect_of writes)) → AreListed es (take (i + 1) (map effect_of writes))
listed_places writes i e p es h at is before x =
    before x ∙ or_false (lists_global (take i (map effect_of writes)) x)
    ∙ ap (λ d. lists_global (take i (map effect_of writes)) x || is_global x d) (sym is) ∙ sym (any_more writes i e x h at)

-- anything but a variable
pub listed_others : {V : Type 0} (writes : List E.Effect) (i : ℕ) (e : E.Effect) (es : List (Word × V)) → i < length writes → e ≡ get_or writes i e
    → ((x : Word) → e ≡ EV.Var x → ⊥) → AreListed es (take i (map effect_of writes)) → AreListed es (take (i + 1) (map effect_of writes))
listed_others writes i (EV.Var x) es h at not before = absurd (not x refl)
listed_others writes i (EV.At p) es h at not before = listed_places writes i (EV.At p) (place_of p) es h at refl before

pub all_listed : {V : Type 0} (writes : List E.Effect) (i : ℕ) (es : List (Word × V)) → length writes ≤ i → AreListed es (take i (map effect_of writes)) → AreListed es (map effect_of writes)
all_listed writes i es h before = subst (AreListed es) (take_all i (map effect_of writes) (omega (arith, h, length-map writes effect_of))) before

-- ---- the places of a field

module _ (numbers : Numbers) (sc : List Decl) (st : Store) where
  outside_last : (writes : List Effect) (e : Effect) (f : Word) (body : Fml)
      → outside_places numbers sc st (writes ++ e ∷ []) f body ≡ outside_places numbers sc st writes f (outside_places numbers sc st (e ∷ []) f body)
  outside_last [] e f body = refl
  outside_last (Global x ∷ writes) e f body = outside_last writes e f body
  outside_last (Locations p ∷ writes) e f body =
      ap (λ g. if bytes_eq f p.field then imp (no (member (bound 0) (lifted 1 (term_of numbers sc p.region st st)))) g else g) (outside_last writes e f body)

  -- from the last place to the first
  pub one_outside : (writes : List E.Effect) (j k : ℕ) (e : E.Effect) (f : Word) (body outer : Fml) → k < length writes → k + 1 ≡ j → e ≡ get_or writes k e
      → outer ≡ outside_places numbers sc st (effect_of e ∷ []) f body
      → outside_places numbers sc st (take k (map effect_of writes)) f outer ≡ outside_places numbers sc st (take j (map effect_of writes)) f body
  one_outside writes j k e f body outer h next at is =
      ap (outside_places numbers sc st (take k (map effect_of writes)) f) is ∙ sym (outside_last (take k (map effect_of writes)) (effect_of e) f body)
      ∙ ap (λ l. outside_places numbers sc st l f body) (sym (one_more writes k e h at) ∙ ap (λ n. take n (map effect_of writes)) next)

  pub all_outside : (writes : List E.Effect) (n : ℕ) (f : Word) (body : Fml) → length writes ≤ n
      → outside_places numbers sc st (take n (map effect_of writes)) f body ≡ outside_places numbers sc st (map effect_of writes) f body
  all_outside writes n f body h = ap (λ l. outside_places numbers sc st l f body) (take_all n (map effect_of writes) (omega (arith, h, length-map writes effect_of)))
