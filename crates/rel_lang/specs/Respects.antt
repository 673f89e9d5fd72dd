-- When a client respects its interface.
use Rattle.std.specs.Prelude.{ℕ, IsNone, IsSomeAnd, List, [], ◌∷◌, ◌++◌}
use Rattle.std.specs.List.{AllByRecursion, flat_map}
use Rattle.rel_lang.specs.Syntax.{Word, Expression, Var, Num, Null, Empty, Alloc, Add, Sub, Mul, Field, Single, Union, Meet, Minus, Image, Filter, Old, Formula, True, False, Eq, Lt, Le, Member, Subset, Not, And, Or, Implies, Every, Exists, Command, At, Skip, Assign, Load, Store, New, Call, If, While, Block, End, Then, Proc, Interface, Module, Client}
use Rattle.rel_lang.specs.State.{Tables, State, find_variable, IsWellFormed}
use Rattle.rel_lang.specs.Scope.{interface_globals, module_globals, client_setting}
use Rattle.rel_lang.specs.Lookup.{find_main}
use Rattle.rel_lang.specs.Typed.{IsTypedModule, IsTypedClient}
use Rattle.rel_lang.specs.Run.{Picks, begin}
use Rattle.rel_lang.specs.Meets.{IsStart, RunsWell, main_contract}
use Rattle.rel_lang.specs.Good.{IsGood}
use Rattle.rel_lang.specs.Linked.{strict}

-- ---- the variables that code names

abbrev pub expression_names : Expression → List Word
expression_names (Var x) = x ∷ []
expression_names (Num n) = []
expression_names Null = []
expression_names Empty = []
expression_names Alloc = []
expression_names (Add a b) = expression_names a ++ expression_names b
expression_names (Sub a b) = expression_names a ++ expression_names b
expression_names (Mul n a) = expression_names a
expression_names (Field a f) = expression_names a
expression_names (Single a) = expression_names a
expression_names (Union a b) = expression_names a ++ expression_names b
expression_names (Meet a b) = expression_names a ++ expression_names b
expression_names (Minus a b) = expression_names a ++ expression_names b
expression_names (Image a f) = expression_names a
expression_names (Filter a c) = expression_names a
expression_names (Old a) = expression_names a

abbrev pub test_names : Formula → List Word
test_names True = []
test_names False = []
test_names (Eq a b) = expression_names a ++ expression_names b
test_names (Lt a b) = expression_names a ++ expression_names b
test_names (Le a b) = expression_names a ++ expression_names b
test_names (Member a b) = expression_names a ++ expression_names b
test_names (Subset a b) = expression_names a ++ expression_names b
test_names (Not p) = test_names p
test_names (And p q) = test_names p ++ test_names q
test_names (Or p q) = test_names p ++ test_names q
test_names (Implies p q) = test_names p ++ test_names q
test_names (Every x c g p) = expression_names g ++ test_names p
test_names (Exists x c g p) = expression_names g ++ test_names p

-- those of expressions, tests and arguments, of references of loads and stores, and of targets; a loop's invariant isn't code
abbrev mutual
  pub command_names : Command → List Word
  command_names (At at Skip) = []
  command_names (At at (Assign x e)) = x ∷ expression_names e
  command_names (At at (Load x y f)) = x ∷ y ∷ []
  command_names (At at (Store y f e)) = y ∷ expression_names e
  command_names (At at (New x c)) = x ∷ []
  command_names (At at (Call x p es)) = x ∷ flat_map expression_names es
  command_names (At at (If t a b)) = test_names t ++ block_names a ++ block_names b
  command_names (At at (While t i b)) = test_names t ++ block_names b

  pub block_names : Block → List Word
  block_names End = []
  block_names (Then c cs) = command_names c ++ block_names cs

-- ---- respecting an interface

-- no command names an interface global
abbrev pub IsApart : Interface → Proc → Type 0
IsApart i q = AllByRecursion (λ x. IsNone (find_variable x (interface_globals i))) (block_names q.body.commands)

-- a state in which a client linked with a module may start, before init
pub record IsLinkedStart (tables : Tables) (i : Interface) (m : Module) (c : Client) (main : Proc) (s : State) : Type 0 where
  pub start : IsStart tables (main_contract i m c main) s
  pub inside : IsWellFormed tables (module_globals m) s

-- Under the watch, the client with the module is no fault and meets what its main says. The entry is the state of main with the globals before init.
abbrev pub RunsApart : Tables → Interface → Module → Client → Proc → Type 0
RunsApart tables i m c main =
    (s : State) → IsLinkedStart tables i m c main s
    → (n : ℕ) (k : Picks) → RunsWell tables (main_contract i m c main) (begin (client_setting i c main) s) (strict tables i m c main n s k)

-- The client respects the interface, with every good module that there is.
pub record Respects (tables : Tables) (i : Interface) (c : Client) : Type 0 where
  pub typed : IsTypedClient tables i c
  pub apart : AllByRecursion (IsApart i) c.procs
  pub runs : IsSomeAnd (find_main c) (λ main. (m : Module) → IsTypedModule tables i m → IsGood tables i m → RunsApart tables i m c main)
