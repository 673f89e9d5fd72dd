-- The stack of nodes that a checker stands for.
use Rattle.std.specs.Prelude.{List}
use Rattle.rel_logic.specs.Syntax.{Nod}
use Rattle.rel_derive.specs.declared.checker.Checker.{Checker}
use Rattle.rel_derive.specs.Pile.{nodes_of}

abbrev pub stack_of : Checker → List Nod
stack_of c = nodes_of c.pile
