-- What is found in a list, and in the list of what its elements stand for.
use Rattle.std.proofs.Common.{◌≡◌, Bool, true, false, if◌then◌else◌, List, [], ◌∷◌, map, Option, Some, option_map, refl, ap, ◌∙◌}
use Rattle.std.specs.List.{find}

option_map_if : {A B : Type 0} (f : A → B) (b : Bool) (x : A) (o : Option A) → option_map f (if b then Some x else o) ≡ (if b then Some (f x) else option_map f o)
option_map_if f true x o = refl
option_map_if f false x o = refl

pub found_mapped : {A B : Type 0} (f : A → B) (p : B → Bool) (xs : List A) → option_map f (find (λ x. p (f x)) xs) ≡ find p (map f xs)
found_mapped f p [] = refl
found_mapped f p (x ∷ xs) = option_map_if f (p (f x)) x (find (λ y. p (f y)) xs) ∙ ap (λ o. if p (f x) then Some (f x) else o) (found_mapped f p xs)
