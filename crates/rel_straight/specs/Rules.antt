-- The good steps, and the lists of steps that are accepted for a sequent.
use Rattle.std.specs.Prelude.{◌≡◌, ℕ, List, [], ◌∷◌, ◌++◌, map, slice_get, Some}
use Rattle.rel_logic.specs.Syntax.{int_sort, Trm, Fml, eq, lt, no, Sqt, Nod}
use Rattle.rel_straight.specs.declared.step.Step.{Step}
use Rattle.rel_straight.specs.declared.step.Step.TheVariants.{Neint, Farkas}
use Rattle.rel_straight.specs.Linear.{term_sort, IsGoodSum}

-- formula i says that two terms of sort Int differ, and one is below the other in either child
pub record SplitsAt (n : Nod) (i : ℕ) (children : List (List Fml)) : Type 0 where
  pub left : Trm
  pub right : Trm
  pub formula : slice_get n.forms i ≡ Some (no (eq left right))
  pub left_int : term_sort n.sorts left ≡ Some int_sort
  pub right_int : term_sort n.sorts right ≡ Some int_sort
  pub added : children ≡ (lt left right ∷ []) ∷ (lt right left ∷ []) ∷ []

-- the step is good at the node, where each child adds its formulas to the node
abbrev pub GoodStep : Nod → Step → List (List Fml) → Type 0
GoodStep n (Neint i) children = SplitsAt n i children
GoodStep n (Farkas pairs) children = IsGoodSum n pairs × (children ≡ [])

abbrev pub child : Nod → List Fml → Nod
child n added = record { sorts = n.sorts; forms = n.forms ++ added }

-- the top of a stack comes first; a good step puts the children in the place of the top node
abbrev pub Moves : List Nod → Step → List Nod → Type 0
Moves [] step after = ⊥
Moves (n ∷ below) step after = (children : List (List Fml)) × GoodStep n step children × (after ≡ map (child n) children ++ below)

abbrev pub Runs : List Nod → List Step → List Nod → Type 0
Runs stack [] after = stack ≡ after
Runs stack (s ∷ steps) after = (next : List Nod) × Moves stack s next × Runs next steps after

-- the node of a sequent holds the hypotheses and the goal's negation
abbrev pub first_stack : Sqt → List Nod
first_stack q = record { sorts = q.sorts; forms = q.hyps ++ no q.goal ∷ [] } ∷ []

-- the steps leave no node open
abbrev pub IsAccepted : Sqt → List Step → Type 0
IsAccepted q steps = Runs (first_stack q) steps []
