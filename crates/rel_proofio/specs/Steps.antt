-- What a step says: `["name",..]`, with the arguments of the name's row.
use Rattle.std.specs.Prelude.{ℕ, ℤ, List, [], ◌∷◌, ◌++◌, map, Option, Some, None, option_map, option_and_then}
use Rattle.serde_json.specs.Data.{Data}
use Rattle.rel_logic.specs.Syntax.{Trm, Fml}
use Rattle.rules_table.specs.Nodes.{Stp}
use Rattle.rel_proofio.specs.Parts.{elements_of, number_of, integer_of, two, traverse, headed}
use Rattle.rel_proofio.specs.Trees.{term_in, fml_in, deepest}
use Rattle.rel_proofio.specs.Table.{rule_named}
use Rattle.rel_proofio.specs.declared.table.Argument.{Argument}
use Rattle.rel_proofio.specs.declared.table.Argument.TheVariants.{Number, Term, Formula, Class, Multiples, Integer}

-- a formula's number and its multiplier: `[i,"k"]`
abbrev pub multiple_of : Data → Option (ℕ × ℤ)
multiple_of d = option_and_then (two number_of integer_of) (elements_of d)

abbrev pub multiples_of : Data → Option (List (ℕ × ℤ))
multiples_of d = option_and_then (traverse multiple_of) (elements_of d)

-- ---- a step with one more argument

abbrev pub with_number : Stp → ℕ → Stp
with_number s i = record s { nums = s.nums ++ i ∷ [] }

abbrev pub with_multiples : Stp → List (ℕ × ℤ) → Stp
with_multiples s ms = record s { nums = s.nums ++ map (λ m. m.0) ms; ints = s.ints ++ map (λ m. m.1) ms }

abbrev pub with_integer : Stp → ℤ → Stp
with_integer s k = record s { ints = s.ints ++ k ∷ [] }

abbrev pub with_term : Stp → Trm → Stp
with_term s t = record s { terms = s.terms ++ t ∷ [] }

abbrev pub with_formula : Stp → Fml → Stp
with_formula s f = record s { forms = s.forms ++ f ∷ [] }

abbrev pub with_class : Stp → ℕ → Stp
with_class s c = record s { class = Some c }

abbrev pub with_argument : Argument → Data → Stp → Option Stp
with_argument Number d s = option_map (with_number s) (number_of d)
with_argument Term d s = option_map (with_term s) (term_in deepest d)
with_argument Formula d s = option_map (with_formula s) (fml_in deepest d)
with_argument Class d s = option_map (with_class s) (number_of d)
with_argument Multiples d s = option_map (with_multiples s) (multiples_of d)
with_argument Integer d s = option_map (with_integer s) (integer_of d)

abbrev pub with_arguments : List Argument → List Data → Stp → Option Stp
with_arguments [] [] s = Some s
with_arguments [] (d ∷ ds) s = None
with_arguments (k ∷ ks) [] s = None
with_arguments (k ∷ ks) (d ∷ ds) s = option_and_then (with_arguments ks ds) (with_argument k d s)

-- a step of this row, before its arguments
abbrev pub bare : ℕ → Stp
bare row = record { row = row; nums = []; ints = []; terms = []; forms = []; class = None }

abbrev pub step_in : Data → Option Stp
step_in d = option_and_then (λ p. option_and_then (λ r. with_arguments r.arguments p.1 (bare r.number)) (rule_named p.0)) (headed d)
