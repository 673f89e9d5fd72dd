-- The trees of the language, as the definitions speak of them: those of the code, without boxes. A number `at` is the byte where the tokens of
-- the tree begin.
use Rattle.std.specs.Prelude.{ℕ, ℤ, List}

-- a name, as its bytes
abbrev pub Word : Type 0
Word = List ℕ

-- whole numbers, finite sets of references, and null with the references of a class
pub data Ty : Type 0 where
  Int : Ty
  Rgn : Ty
  Class : Word → Ty

pub data Side : Type 0 where
  Left : Side
  Right : Side

pub data Expression : Type 0 where
  Var : Word → Expression
  Num : ℤ → Expression
  Null : Expression
  Empty : Expression
  Alloc : Expression
  Add : Expression → Expression → Expression
  Sub : Expression → Expression → Expression
  Mul : ℤ → Expression → Expression
  -- the field of an object
  Field : Expression → Word → Expression
  Single : Expression → Expression
  Union : Expression → Expression → Expression
  Meet : Expression → Expression → Expression
  Minus : Expression → Expression → Expression
  -- what the field has in the objects of a region
  Image : Expression → Word → Expression
  -- the members of a class
  Filter : Expression → Word → Expression
  -- at entry
  Old : Expression → Expression

pub data Formula : Type 0 where
  True : Formula
  False : Formula
  Eq : Expression → Expression → Formula
  Lt : Expression → Expression → Formula
  Le : Expression → Expression → Formula
  Member : Expression → Expression → Formula
  Subset : Expression → Expression → Formula
  Not : Formula → Formula
  And : Formula → Formula → Formula
  Or : Formula → Formula → Formula
  Implies : Formula → Formula → Formula
  -- the variable, its class, the region that it ranges over, and the body
  Every : Word → Word → Expression → Formula → Formula
  Exists : Word → Word → Expression → Formula → Formula

-- formulas about two states and a bijection of their references
pub data RelFormula : Type 0 where
  RelTrue : RelFormula
  RelFalse : RelFormula
  OnLeft : Formula → RelFormula
  OnRight : Formula → RelFormula
  Both : Formula → RelFormula
  -- the value of the first on the left is related to that of the second on the right
  Agree : Expression → Expression → RelFormula
  -- the two regions' objects have partners, with related values in the field
  AgreeImage : Expression → Word → RelFormula
  RelNot : RelFormula → RelFormula
  RelAnd : RelFormula → RelFormula → RelFormula
  RelOr : RelFormula → RelFormula → RelFormula
  RelImplies : RelFormula → RelFormula → RelFormula
  -- over a region of that side
  RelEvery : Side → Word → Word → Expression → RelFormula → RelFormula
  RelExists : Side → Word → Word → Expression → RelFormula → RelFormula
  Eventually : RelFormula → RelFormula

mutual
  pub data Command : Type 0 where
    At : ℕ → Form → Command

  pub data Form : Type 0 where
    Skip : Form
    Assign : Word → Expression → Form
    -- the variable, the reference that is read, and the field
    Load : Word → Word → Word → Form
    -- the reference, the field, and the value
    Store : Word → Word → Expression → Form
    -- the variable and the class
    New : Word → Word → Form
    -- the variable, the procedure and the arguments
    Call : Word → Word → List Expression → Form
    If : Formula → Block → Block → Form
    -- the test, the invariant and the body
    While : Formula → Formula → Block → Form

  -- a list of commands
  pub data Block : Type 0 where
    End : Block
    Then : Command → Block → Block

pub record BiLoop : Type 0 where
  pub tests : Formula × Formula
  pub invs : Formula × Formula
  pub rel : RelFormula
  pub guards : RelFormula × RelFormula

mutual
  pub data BiCommand : Type 0 where
    BiAt : ℕ → BiForm → BiCommand

  pub data BiForm : Type 0 where
    -- the first block on the left and the second on the right
    Split : Block → Block → BiForm
    -- an atom that isn't a call, on both sides
    Sync : Command → BiForm
    -- a call on both sides, by the judgement of this name
    SyncCall : Command → Word → BiForm
    BiIf : Formula → Formula → BiBlock → BiBlock → BiForm
    BiWhile : BiLoop → BiBlock → BiForm
    Link : Word → Word → BiForm
    Note : RelFormula → BiForm

  pub data BiBlock : Type 0 where
    BiEnd : BiBlock
    BiThen : BiCommand → BiBlock → BiBlock

-- what a step of a weaving does at its place
pub data Act : Type 0 where
  ActSeq : ℕ → ℕ → Act
  ActSync : Act
  ActCall : Word → Act
  ActIf : Act
  -- the relational invariant, and the left and right guards
  ActWhile : RelFormula → RelFormula → RelFormula → Act
  ActLink : Word → Word → Act
  ActNote : RelFormula → Act
  ActDrop : Act

pub record WeaveStep : Type 0 where
  pub at : ℕ
  pub place : List ℕ
  pub act : Act

-- how two bodies are aligned
pub data Align : Type 0 where
  Given : BiBlock → Align
  Woven : List WeaveStep → Align

pub record Decl : Type 0 where
  pub name : Word
  pub ty : Ty

-- the locations of a field in the objects of a region
pub record Place : Type 0 where
  pub region : Expression
  pub field : Word

-- what a procedure may change
pub data Effect : Type 0 where
  Global : Word → Effect
  Locations : Place → Effect

pub record Clause : Type 0 where
  pub at : ℕ
  pub formula : Formula

pub record RelClause : Type 0 where
  pub at : ℕ
  pub formula : RelFormula

-- `requires`, `ensures` and `writes`
pub record Spec : Type 0 where
  pub needs : Clause
  pub gives : Clause
  pub writes : List Effect

pub record Body : Type 0 where
  pub at : ℕ
  pub locals : List Decl
  pub commands : Block

pub record Proc : Type 0 where
  pub at : ℕ
  pub name : Word
  pub params : List Decl
  pub result : Ty
  pub spec : Spec
  pub body : Body

-- a method of an interface
pub record Sig : Type 0 where
  pub at : ℕ
  pub name : Word
  pub params : List Decl
  pub result : Ty
  pub spec : Spec

pub record ClassItem : Type 0 where
  pub at : ℕ
  pub name : Word
  pub fields : List Decl

pub record Interface : Type 0 where
  pub at : ℕ
  pub name : Word
  pub globals : List Decl
  pub boundary_at : ℕ
  pub boundary : List Place
  pub init_ensures : Clause
  pub init_writes : List Effect
  pub methods : List Sig

pub record Module : Type 0 where
  pub at : ℕ
  pub name : Word
  pub interface : Word
  pub globals : List Decl
  pub invariant : Clause
  pub init : Body
  pub methods : List (Word × Body)

pub record UnitItem : Type 0 where
  pub at : ℕ
  pub name : Word
  pub globals : List Decl
  pub procs : List Proc

pub record Client : Type 0 where
  pub at : ℕ
  pub name : Word
  pub interface : Word
  pub globals : List Decl
  pub procs : List Proc

-- about two procedures, each a unit's name and a procedure's
pub record Judgement : Type 0 where
  pub at : ℕ
  pub name : Word
  pub left : Word × Word
  pub right : Word × Word
  pub needs : RelClause
  pub gives : RelClause
  pub align : Align

-- two modules, with the alignments of their inits and methods, each at the word `init` or `method`
pub record ModulePair : Type 0 where
  pub at : ℕ
  pub name : Word
  pub left : Word
  pub right : Word
  pub coupling : RelClause
  pub init : ℕ × Align
  pub methods : List (ℕ × Word × Align)

pub data Item : Type 0 where
  OfClass : ClassItem → Item
  OfInterface : Interface → Item
  OfModule : Module → Item
  OfUnit : UnitItem → Item
  OfClient : Client → Item
  OfJudgement : Judgement → Item
  OfPair : ModulePair → Item

pub record Bundle : Type 0 where
  pub items : List Item

-- the commands with 0 at each `at`, by which blocks are compared
abbrev mutual
  pub form_without_at : Form → Form
  form_without_at (If p a b) = If p (without_at a) (without_at b)
  form_without_at (While p q b) = While p q (without_at b)
  form_without_at f = f

  pub command_without_at : Command → Command
  command_without_at (At at f) = At 0 (form_without_at f)

  pub without_at : Block → Block
  without_at End = End
  without_at (Then c cs) = Then (command_without_at c) (without_at cs)
