-- What holds in every well-formed state, of the terms that are variables; and that no object goes.
use Rattle.std.specs.Prelude.{ℕ, Bool, true, false, if◌then◌else◌, List, [], ◌∷◌, ◌++◌}
use Rattle.rel_lang.specs.Syntax.{Ty, Int, Rgn, Class, Decl}
use Rattle.rel_logic.specs.Syntax.{ref_sort, Trm, var, bound, null, sel, Fml, verum, eq, member, is, and, or, imp, every}
use Rattle.rel_logic.specs.Equal.{same_trm}
use Rattle.rel_encode.specs.Numbers.{Numbers, NumberedField, number_of_class}
use Rattle.rel_encode.specs.Terms.{Store, lifted}
use Rattle.rel_encode.specs.Formulas.{subset}

abbrev pub is_a_variable : Trm → Bool
is_a_variable (var n) = true
is_a_variable _ = false

-- the reference is null, or allocated and of the class
abbrev pub null_or_of_class : ℕ → Trm → Trm → Fml
null_or_of_class c t alloc = or (eq t null) (and (is c t) (member t alloc))

module _ (numbers : Numbers) (alloc : Trm) where
  abbrev pub variable_facts : Ty → Trm → List Fml
  variable_facts Int t = []
  variable_facts Rgn t = subset t alloc ∷ []
  variable_facts (Class c) t = null_or_of_class (number_of_class numbers c) t alloc ∷ []

  abbrev pub map_facts : Ty → Trm → List Fml
  map_facts Int m = []
  map_facts Rgn m =
      every ref_sort (every ref_sort (imp (member (bound 0) (sel (lifted 2 m) (bound 1))) (member (bound 0) (lifted 2 alloc)))) ∷ []
  map_facts (Class c) m = every ref_sort (null_or_of_class (number_of_class numbers c) (sel (lifted 1 m) (bound 0)) (lifted 1 alloc)) ∷ []

  abbrev pub facts_of_variables : List Decl → List Trm → List Fml
  facts_of_variables (d ∷ ds) (t ∷ ts) = (if is_a_variable t then variable_facts d.ty t else []) ++ facts_of_variables ds ts
  facts_of_variables _ _ = []

  abbrev pub facts_of_maps : List NumberedField → List Trm → List Fml
  facts_of_maps (d ∷ ds) (m ∷ ms) = (if is_a_variable m then map_facts d.ty m else []) ++ facts_of_maps ds ms
  facts_of_maps _ _ = []

-- The facts of the variables in the order of the scope, and then those of the fields.
abbrev pub basics : Numbers → List Decl → Store → List Fml
basics numbers sc st = facts_of_variables numbers st.alloc sc st.vars ++ facts_of_maps numbers st.alloc numbers.fields st.maps

-- what was allocated before is so after; nothing is said where the two terms are one
abbrev pub grow : Trm → Trm → Fml
grow before after = if same_trm before after then verum else subset before after
