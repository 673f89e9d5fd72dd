-- The flaws of the members of a list, gathered from the front.
use Rattle.std.proofs.Common.{◌≡◌, ℕ, ◌<◌, ◌+◌, List, [], ◌∷◌, ◌++◌, map, take, get_or, length, refl, sym, ap, ◌∙◌}
use Rattle.std.proofs.lemmas.List.{take_more, map-append}
use Rattle.rel_lang.specs.State.{Tables}
use Rattle.rel_flaws.specs.Flaws.{Flaws, flawless, either}
use Rattle.rel_types.specs.Items.{flaws_of_all}
use Rattle.rel_types.proofs.Repeats.{or_assoc, or_false}

pub either_none : (f : Flaws) → either f flawless ≡ f
either_none f =
    rw (or_false f.twice, or_false f.unknown, or_false f.missing, or_false f.no_main, or_false f.not_visible, or_false f.wrong_arity, or_false f.target, or_false f.old_here, or_false f.not_code, or_false f.wrong_type)
    refl

pub either_assoc : (f g h : Flaws) → either (either f g) h ≡ either f (either g h)
either_assoc f g h =
    rw (or_assoc f.twice g.twice h.twice, or_assoc f.unknown g.unknown h.unknown, or_assoc f.missing g.missing h.missing, or_assoc f.no_main g.no_main h.no_main, or_assoc f.not_visible g.not_visible h.not_visible, or_assoc f.wrong_arity g.wrong_arity h.wrong_arity, or_assoc f.target g.target h.target, or_assoc f.old_here g.old_here h.old_here, or_assoc f.not_code g.not_code h.not_code, or_assoc f.wrong_type g.wrong_type h.wrong_type)
    refl

all_and_one : {X : Type 0} (tables : Tables) (f : X → Flaws) (xs : List X) (y : X) → flaws_of_all tables f (xs ++ y ∷ []) ≡ either (flaws_of_all tables f xs) (f y)
all_and_one tables f [] y = either_none (f y)
all_and_one tables f (x ∷ xs) y = ap (either (f x)) (all_and_one tables f xs y) ∙ sym (either_assoc (f x) (flaws_of_all tables f xs) (f y))

-- so many members, and the next
pub all_more : {X Y : Type 0} (tables : Tables) (f : Y → Flaws) (g : X → Y) (xs : List X) (i : ℕ) (x : X) → i < length xs → x ≡ get_or xs i x
    → either (flaws_of_all tables f (map g (take i xs))) (f (g x)) ≡ flaws_of_all tables f (map g (take (i + 1) xs))
all_more tables f g xs i x h is =
    sym (ap (λ l. flaws_of_all tables f (map g l)) (take_more xs i x h ∙ ap (λ a. take i xs ++ a ∷ []) (sym is))
    ∙ ap (flaws_of_all tables f) (map-append g (take i xs) (x ∷ []))
    ∙ all_and_one tables f (map g (take i xs)) (g x))
