-- The good steps, and the lists of steps that are accepted for a sequent.
use Rattle.std.specs.Prelude.{◌≡◌, ◌<◌, ◌^◌, List, [], ◌∷◌, ◌++◌, map, length}
use Rattle.std.specs.List.{AllByRecursion}
use Rattle.rel_logic.specs.Syntax.{no, Sqt, Nod}
use Rattle.rules_table.specs.Nodes.{Stp, Addition, child, Outcome, not_mine, kids}
use Rattle.rules_table.specs.Table.{propositional}
use Rattle.rules_eq.specs.Table.{equality}
use Rattle.rules_set.specs.Table.{regions}
use Rattle.rules_int.specs.Table.{integers}

-- the first, unless the row is another theory's
abbrev pub otherwise : Outcome → Outcome → Outcome
otherwise not_mine o = o
otherwise o p = o

-- what a step comes to at a node, by the first theory that has its row
abbrev pub outcome_of_all : Nod → Stp → Outcome
outcome_of_all n s = otherwise (otherwise (otherwise (propositional n s) (equality n s)) (regions n s)) (integers n s)

-- the step is good at the node, with these children
abbrev pub GoodStep : Nod → Stp → List Nod → Type 0
GoodStep n s children = (added : List Addition) × (outcome_of_all n s ≡ kids added) × (children ≡ map (child n) added)

-- the top of a stack comes first; a good step puts the children in the place of the top node
abbrev pub Moves : List Nod → Stp → List Nod → Type 0
Moves [] s after = ⊥
Moves (n ∷ below) s after = (children : List Nod) × GoodStep n s children × (after ≡ children ++ below)

-- every number in the node's lists has room
abbrev pub HasRoom : Nod → Type 0
HasRoom n = (length n.sorts < 2 ^ 31) × (length n.forms < 2 ^ 31)

-- each step is good at the top of the stack, and leaves nodes that have room
abbrev pub Runs : List Nod → List Stp → List Nod → Type 0
Runs stack [] after = stack ≡ after
Runs stack (s ∷ steps) after = (next : List Nod) × Moves stack s next × AllByRecursion HasRoom next × Runs next steps after

-- the node of a sequent holds the hypotheses and the goal's negation
abbrev pub first_node : Sqt → Nod
first_node q = record { sorts = q.sorts; forms = q.hyps ++ no q.goal ∷ [] }

abbrev pub first_stack : Sqt → List Nod
first_stack q = first_node q ∷ []

-- the steps leave no node open
abbrev pub IsAccepted : Sqt → List Stp → Type 0
IsAccepted q steps = Runs (first_stack q) steps []
