-- Steps at a node, its children, and when a step loses no model.
use Rattle.std.specs.Prelude.{ℕ, ◌<◌, ◌^◌, ℤ, IsTrue, List, [], ◌∷◌, ◌++◌, length, All, Option}
use Rattle.std.specs.List.{AllByRecursion}
use Rattle.rel_logic.specs.Syntax.{Srt, Trm, Fml, Nod}
use Rattle.rel_logic.specs.Truth.{Valuation, FitsSorts, AgreeOn, IsTrueAt}
use Rattle.rel_logic.specs.Sorting.{is_well_sorted}

-- a step: the number of its row in the table, and its arguments by kind
pub record Stp : Type 0 where
  pub row : ℕ
  pub nums : List ℕ
  pub ints : List ℤ
  pub terms : List Trm
  pub forms : List Fml
  pub class : Option ℕ

-- what a child adds to the node: fresh variables, numbered after the others, and formulas
pub record Addition : Type 0 where
  pub fresh : List Srt
  pub forms : List Fml

abbrev pub child : Nod → Addition → Nod
child n a = record { sorts = n.sorts ++ a.fresh; forms = n.forms ++ a.forms }

-- with one more formula
abbrev pub with_form : Addition → Fml → Addition
with_form a f = record { fresh = a.fresh; forms = a.forms ++ f ∷ [] }

-- what a theory answers: the row is another's, or its needs aren't met, or these are the children
pub data Outcome : Type 0 where
  not_mine : Outcome
  bad : Outcome
  kids : List Addition → Outcome

-- every formula is closed and well sorted, and every number in the lists has room
pub record IsSound (n : Nod) : Type 0 where
  pub sorted : All (λ f. IsTrue (is_well_sorted n.sorts f)) n.forms
  pub variables : length n.sorts < 2 ^ 31
  pub formulas : length n.forms < 2 ^ 31

-- a valuation that fits the sorts and makes all formulas of the node true
abbrev pub IsModel : Nod → Valuation → Type 0
IsModel n r = FitsSorts n.sorts r × All (IsTrueAt r []) n.forms

-- no valuation that agrees with r on the node's variables is a model of the child
abbrev pub HasNoModel : Nod → Valuation → Addition → Type 0
HasNoModel n r a = (q : Valuation) → AgreeOn n.sorts r q → ¬ (IsModel (child n a) q)

-- a valuation that no child extends is no model of the node
abbrev pub LosesNoModel : Nod → List Addition → Type 0
LosesNoModel n children = (r : Valuation) → AllByRecursion (HasNoModel n r) children → ¬ (IsModel n r)

-- every formula that a child adds is closed and well sorted over the child's variables
abbrev pub AreSorted : Nod → List Addition → Type 0
AreSorted n added = AllByRecursion (λ a. AllByRecursion (λ f. IsTrue (is_well_sorted (n.sorts ++ a.fresh) f)) a.forms) added
