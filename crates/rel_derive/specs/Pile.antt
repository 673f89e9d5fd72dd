-- The open nodes that a pile of waiting children stands for.
use Rattle.std.specs.Prelude.{◌≡◌, ◌-◌, ◌<◌, ◌≤◌, List, [], ◌∷◌, ◌++◌, length, take, reverse}
use Rattle.std.proofs.Math.Bool.{Bool-set}
use Rattle.std.specs.List.{AllByRecursion, AllByRecursion-prop}
use Rattle.std.specs.Coded.{×_prop, Unit-prop, le_prop}
use Rattle.rel_logic.specs.declared.sequent.Node.{Node}
use Rattle.rel_logic.specs.Syntax.{Nod}
use Rattle.rel_logic.specs.View.{node_of}
use Rattle.rules_table.specs.declared.theory.Added.{Added}
use Rattle.rules_table.specs.Nodes.{IsSound}
use Rattle.rel_derive.specs.declared.pile.Waiting.{Waiting}
use Rattle.rel_derive.specs.declared.pile.Pile.{Pile}

-- what a waiting child adds to: as much of the node as its marks say
abbrev pub cut : Node → Waiting → Node
cut n w = record { sorts = take w.sorts n.sorts; forms = take w.forms n.forms }

-- the child itself
abbrev pub grown : Node → Waiting → Node
grown n w = record { sorts = take w.sorts n.sorts ++ w.added.fresh; forms = take w.forms n.forms ++ w.added.forms }

-- a child that adds to the whole node
abbrev pub waits_at : Node → Added → Waiting
waits_at n a = record { sorts = length n.sorts; forms = length n.forms; added = a }

-- what adds nothing
abbrev pub nothing : Added
nothing = record { fresh = []; forms = [] }

-- the children that wait above a node, the top one first
abbrev pub nodes_over : Node → List Waiting → List Nod
nodes_over n [] = []
nodes_over n (w ∷ ws) = node_of (grown n w) ∷ nodes_over (cut n w) ws

-- no child's marks are past the node or those of the children above it
abbrev pub AreWithin : Node → List Waiting → Type 0
AreWithin n [] = Unit {0}
AreWithin n (w ∷ ws) = ((w.sorts ≤ length n.sorts) × (w.forms ≤ length n.forms)) × AreWithin (cut n w) ws

-- the last child is on top
abbrev pub nodes_of : Pile → List Nod
nodes_of p = nodes_over p.base (reverse p.waiting.items)

-- the children below the top one, from it down
abbrev pub rest_of : Pile → List Waiting
rest_of p = reverse (take (length p.waiting.items - 1) p.waiting.items)

-- the pile stands for sound nodes
pub record IsSoundPile (p : Pile) : Type 0 where
  pub within : AreWithin p.base (reverse p.waiting.items)
  pub sound : AllByRecursion IsSound (nodes_of p)

-- the top node is the pile's own node, and adds nothing to it
pub record IsRaised (p : Pile) : Type 0 where
  pub some : 0 < length p.waiting.items
  pub top : nodes_of p ≡ node_of p.base ∷ nodes_over p.base (rest_of p)
  pub within : AreWithin p.base (rest_of p)

-- ---- that a pile is sound has one proof

AreWithin-prop : (n : Node) (ws : List Waiting) → IsProp (AreWithin n ws)
AreWithin-prop n [] = Unit-prop
AreWithin-prop n (w ∷ ws) = ×_prop (×_prop le_prop le_prop) (AreWithin-prop (cut n w) ws)

IsSound-prop : (n : Nod) → IsProp (IsSound n)
IsSound-prop n a b i = record {
  sorted = λ k d below. Bool-set _ _ (a.sorted k d below) (b.sorted k d below) i;
  variables = le_prop a.variables b.variables i;
  formulas = le_prop a.formulas b.formulas i;
}

pub IsSoundPile-prop : (p : Pile) → IsProp (IsSoundPile p)
IsSoundPile-prop p a b i = record {
  within = AreWithin-prop p.base (reverse p.waiting.items) a.within b.within i;
  sound = AllByRecursion-prop IsSound IsSound-prop (nodes_of p) a.sound b.sound i;
}
