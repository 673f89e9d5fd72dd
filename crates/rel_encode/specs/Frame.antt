-- The formula that says that only what a writes list names has changed.
use Rattle.std.specs.Prelude.{ℕ, Bool, false, ◌||◌, if◌then◌else◌, List, [], ◌∷◌, ◌++◌, take, bytes_eq}
use Rattle.std.specs.List.{list_any}
use Rattle.rel_lang.specs.Syntax.{Word, Effect, Global, Locations, Decl}
use Rattle.rel_logic.specs.Syntax.{ref_sort, Trm, bound, sel, Fml, eq, member, no, imp, every}
use Rattle.rel_logic.specs.Equal.{same_trm}
use Rattle.rel_encode.specs.Numbers.{Numbers, NumberedField}
use Rattle.rel_encode.specs.Terms.{Store, lifted, term_of}
use Rattle.rel_encode.specs.Formulas.{conj}

abbrev pub is_global : Word → Effect → Bool
is_global x (Global y) = bytes_eq x y
is_global x (Locations p) = false

abbrev pub lists_global : List Effect → Word → Bool
lists_global writes x = list_any (is_global x) writes

-- the variables that aren't listed and whose terms differ keep their values
abbrev pub kept_variables : List Effect → List Decl → List Trm → List Trm → List Fml
kept_variables writes (d ∷ ds) (b ∷ bs) (a ∷ rest) =
    (if lists_global writes d.name || same_trm b a then [] else eq a b ∷ []) ++ kept_variables writes ds bs rest
kept_variables writes _ _ _ = []

module _ (numbers : Numbers) (sc : List Decl) (before : Store) where
  -- the formula, where the innermost reference is in no listed place of the field
  abbrev pub outside_places : List Effect → Word → Fml → Fml
  outside_places [] f body = body
  outside_places (Global x ∷ es) f body = outside_places es f body
  outside_places (Locations p ∷ es) f body =
      if bytes_eq f p.field then imp (no (member (bound 0) (lifted 1 (term_of numbers sc p.region before before)))) (outside_places es f body)
      else outside_places es f body

  -- an object that was allocated, and is in no listed place of the field, keeps the field's value
  abbrev pub kept_field : List Effect → Word → Trm → Trm → Fml
  kept_field writes f b a =
      every ref_sort (imp (member (bound 0) (lifted 1 before.alloc)) (outside_places writes f (eq (sel (lifted 1 a) (bound 0)) (sel (lifted 1 b) (bound 0)))))

  abbrev pub kept_fields : List Effect → List NumberedField → List Trm → List Trm → List Fml
  kept_fields writes (d ∷ ds) (b ∷ bs) (a ∷ rest) = (if same_trm b a then [] else kept_field writes d.name b a ∷ []) ++ kept_fields writes ds bs rest
  kept_fields writes _ _ _ = []

-- Of the variables it speaks of the first ones of the scope alone, as many as are framed. Regions are read before.
abbrev pub frame_of : Numbers → List Decl → ℕ → List Effect → Store → Store → Fml
frame_of numbers sc framed writes before after =
    conj (kept_variables writes (take framed sc) before.vars after.vars ++ kept_fields numbers sc before writes numbers.fields before.maps after.maps)
