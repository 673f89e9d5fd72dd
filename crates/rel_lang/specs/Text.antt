-- Which text stands for a bundle: its tokens are those that the grammar gives the bundle, and each tree's `at` is the byte where its tokens begin.
use Rattle.std.specs.Prelude.{◌≡◌, ◌≢◌, ℕ, ℤ, suc, pos, negsuc, ◌-◌, ◌^◌, ◌<◌, ◌≤◌, min, IsTrue, List, [], ◌∷◌, ◌++◌, Option, Some, None, codes}
use Rattle.std.specs.List.{AllByRecursion}
use Rattle.std.specs.Str.{IsUtf8}
use Rattle.std.specs.Fmt.{decimal, signed_decimal}
use Rattle.rel_lang.specs.Syntax.{Word, Ty, Int, Rgn, Class, Side, Left, Right, Expression, Var, Num, Null, Empty, Alloc, Add, Sub, Mul, Field, Single, Union, Meet, Minus, Image, Filter, Old, Formula, True, False, Eq, Lt, Le, Member, Subset, Not, And, Or, Implies, Every, Exists, RelFormula, RelTrue, RelFalse, OnLeft, OnRight, Both, Agree, AgreeImage, RelNot, RelAnd, RelOr, RelImplies, RelEvery, RelExists, Eventually, Command, At, Form, Skip, Assign, Load, Store, New, Call, If, While, Block, End, Then, BiLoop, BiCommand, BiAt, BiForm, Split, Sync, SyncCall, BiIf, BiWhile, Link, Note, BiBlock, BiEnd, BiThen, Act, ActSeq, ActSync, ActCall, ActIf, ActWhile, ActLink, ActNote, ActDrop, WeaveStep, Align, Given, Woven, Decl, Place, Effect, Global, Locations, Clause, RelClause, Spec, Body, Proc, Sig, ClassItem, Interface, Module, UnitItem, Client, Judgement, ModulePair, Item, OfClass, OfInterface, OfModule, OfUnit, OfClient, OfJudgement, OfPair, Bundle}
use Rattle.rel_lang.specs.Tokens.{Token, tokens, is_name, literal_limit}

-- ---- marks

-- what a token says: a reserved word or a symbol, a name, a number, or a number of a weaving, of which one above the greatest counts as that
pub data Said : Type 0 where
  Fixed : Word → Said
  Name : Word → Said
  Literal : ℤ → Said
  Counting : ℕ → Said

abbrev pub greatest_count : ℕ
greatest_count = 2 ^ 32 - 1

-- the text that is printed
abbrev pub text_of : Said → Word
text_of (Fixed w) = w
text_of (Name x) = x
text_of (Literal n) = signed_decimal n
text_of (Counting n) = decimal n

-- it can be printed: a name is a name, and a number is in range
abbrev pub CanBeSaid : Said → Type 0
CanBeSaid (Fixed w) = Unit {0}
CanBeSaid (Name x) = IsTrue (is_name x)
CanBeSaid (Literal (pos n)) = n < literal_limit
CanBeSaid (Literal (negsuc n)) = ⊥
CanBeSaid (Counting n) = n ≤ greatest_count

-- a token's text says so
abbrev pub Says : Word → Said → Type 0
Says text (Counting n) = (k : ℕ) × (decimal k ≡ text) × (min k greatest_count ≡ n)
Says text s = text_of s ≡ text

-- What the grammar gives for one token. With it begin the trees that have these `at`; a tree of this depth, or 0 for none; and this element of a
-- repetition, or 0 for none. It is meant only before a token of the text `told`.
pub record Mark : Type 0 where
  pub said : Said
  pub ats : List ℕ
  pub depth : ℕ
  pub element : ℕ
  pub told : Option Word

abbrev pub mark : Said → Mark
mark s = record { said = s; ats = []; depth = 0; element = 0; told = None }

abbrev pub word : Word → Mark
word w = mark (Fixed w)

abbrev pub named : Word → Mark
named x = mark (Name x)

abbrev pub literally : ℤ → Mark
literally n = mark (Literal n)

abbrev pub counted : ℕ → Mark
counted n = mark (Counting n)

abbrev pub braced : List Mark → List Mark
braced ms = word (codes "{") ∷ ms ++ word (codes "}") ∷ []

-- the marks of a tree that has this `at`
abbrev pub begins : ℕ → List Mark → List Mark
begins at [] = []
begins at (m ∷ ms) = record m { ats = at ∷ m.ats } ∷ ms

-- the marks of an expression, a formula, a relation formula, a command or a bicommand of this depth
abbrev pub tree : ℕ → List Mark → List Mark
tree d [] = []
tree d (m ∷ ms) = record m { depth = d } ∷ ms

-- the marks of this element of a repetition, the first being 1
abbrev pub element : ℕ → List Mark → List Mark
element n [] = []
element n (m ∷ ms) = record m { element = n } ∷ ms

-- ---- repetitions

-- the elements from this number on
abbrev pub repeated : {X : Type 0} → (X → List Mark) → ℕ → List X → List Mark
repeated show n [] = []
repeated show n (x ∷ xs) = element n (show x) ++ repeated show (suc n) xs

abbrev pub behind : {X : Type 0} → Word → (X → List Mark) → X → List Mark
behind w show x = word w ∷ show x

abbrev pub ended : {X : Type 0} → Word → (X → List Mark) → X → List Mark
ended w show x = show x ++ word w ∷ []

-- with commas between them, of which the braces of the grammar hold those behind the first
abbrev pub listed : {X : Type 0} → (X → List Mark) → List X → List Mark
listed show [] = []
listed show (x ∷ xs) = show x ++ repeated (behind (codes ",") show) 1 xs

-- ---- expressions and formulas, each with its depth

abbrev pub operation : List Mark → Word → List Mark → List Mark
operation a w b = word (codes "(") ∷ a ++ word w ∷ b ++ word (codes ")") ∷ []

abbrev pub show_expression : ℕ → Expression → List Mark
show_expression d (Var x) = tree d (named x ∷ [])
show_expression d (Num n) = tree d (literally n ∷ [])
show_expression d Null = tree d (word (codes "null") ∷ [])
show_expression d Empty = tree d (word (codes "empty") ∷ [])
show_expression d Alloc = tree d (word (codes "alloc") ∷ [])
show_expression d (Add a b) = tree d (operation (show_expression (suc d) a) (codes "+") (show_expression (suc d) b))
show_expression d (Sub a b) = tree d (operation (show_expression (suc d) a) (codes "-") (show_expression (suc d) b))
show_expression d (Mul n a) = tree d (operation (record (literally n) { told = Some (codes "*") } ∷ []) (codes "*") (show_expression (suc d) a))
show_expression d (Field a f) = tree d (operation (show_expression (suc d) a) (codes ".") (named f ∷ []))
show_expression d (Single a) = tree d (word (codes "{") ∷ show_expression (suc d) a ++ word (codes "}") ∷ [])
show_expression d (Union a b) = tree d (operation (show_expression (suc d) a) (codes "union") (show_expression (suc d) b))
show_expression d (Meet a b) = tree d (operation (show_expression (suc d) a) (codes "meet") (show_expression (suc d) b))
show_expression d (Minus a b) = tree d (operation (show_expression (suc d) a) (codes "minus") (show_expression (suc d) b))
show_expression d (Image a f) = tree d (operation (show_expression (suc d) a) (codes "@") (named f ∷ []))
show_expression d (Filter a c) = tree d (operation (show_expression (suc d) a) (codes "of") (named c ∷ []))
show_expression d (Old a) = tree d (word (codes "old") ∷ word (codes "(") ∷ show_expression (suc d) a ++ word (codes ")") ∷ [])

abbrev pub connective : List Mark → Word → List Mark → List Mark
connective p w q = word (codes "[") ∷ p ++ word w ∷ q ++ word (codes "]") ∷ []

-- a variable of the class, over a region, and what holds for its members
abbrev pub quantified : Word → Word → List Mark → List Mark → List Mark
quantified x c region body = named x ∷ word (codes ":") ∷ named c ∷ word (codes "in") ∷ region ++ word (codes "{") ∷ body ++ word (codes "}") ∷ []

abbrev pub show_formula : ℕ → Formula → List Mark
show_formula d True = tree d (word (codes "true") ∷ [])
show_formula d False = tree d (word (codes "false") ∷ [])
show_formula d (Eq e f) = tree d (operation (show_expression (suc d) e) (codes "=") (show_expression (suc d) f))
show_formula d (Lt e f) = tree d (operation (show_expression (suc d) e) (codes "<") (show_expression (suc d) f))
show_formula d (Le e f) = tree d (operation (show_expression (suc d) e) (codes "<=") (show_expression (suc d) f))
show_formula d (Member e f) = tree d (operation (show_expression (suc d) e) (codes "in") (show_expression (suc d) f))
show_formula d (Subset e f) = tree d (operation (show_expression (suc d) e) (codes "sub") (show_expression (suc d) f))
show_formula d (Not p) = tree d (word (codes "not") ∷ show_formula (suc d) p)
show_formula d (And p q) = tree d (connective (show_formula (suc d) p) (codes "and") (show_formula (suc d) q))
show_formula d (Or p q) = tree d (connective (show_formula (suc d) p) (codes "or") (show_formula (suc d) q))
show_formula d (Implies p q) = tree d (connective (show_formula (suc d) p) (codes "implies") (show_formula (suc d) q))
show_formula d (Every x c e p) = tree d (word (codes "all") ∷ quantified x c (show_expression (suc d) e) (show_formula (suc d) p))
show_formula d (Exists x c e p) = tree d (word (codes "some") ∷ quantified x c (show_expression (suc d) e) (show_formula (suc d) p))

abbrev pub show_side : Side → Mark
show_side Left = word (codes "left")
show_side Right = word (codes "right")

abbrev pub show_rel : ℕ → RelFormula → List Mark
show_rel d RelTrue = tree d (word (codes "true") ∷ [])
show_rel d RelFalse = tree d (word (codes "false") ∷ [])
show_rel d (OnLeft p) = tree d (word (codes "left") ∷ show_formula (suc d) p)
show_rel d (OnRight p) = tree d (word (codes "right") ∷ show_formula (suc d) p)
show_rel d (Both p) = tree d (word (codes "both") ∷ show_formula (suc d) p)
show_rel d (Agree e f) = tree d (operation (show_expression (suc d) e) (codes "=:=") (show_expression (suc d) f))
show_rel d (AgreeImage e f) = tree d (word (codes "agree") ∷ show_expression (suc d) e ++ word (codes "@") ∷ named f ∷ [])
show_rel d (RelNot r) = tree d (word (codes "not") ∷ show_rel (suc d) r)
show_rel d (RelAnd r s) = tree d (connective (show_rel (suc d) r) (codes "and") (show_rel (suc d) s))
show_rel d (RelOr r s) = tree d (connective (show_rel (suc d) r) (codes "or") (show_rel (suc d) s))
show_rel d (RelImplies r s) = tree d (connective (show_rel (suc d) r) (codes "implies") (show_rel (suc d) s))
show_rel d (RelEvery s x c e r) = tree d (word (codes "all") ∷ show_side s ∷ quantified x c (show_expression (suc d) e) (show_rel (suc d) r))
show_rel d (RelExists s x c e r) = tree d (word (codes "some") ∷ show_side s ∷ quantified x c (show_expression (suc d) e) (show_rel (suc d) r))
show_rel d (Eventually r) = tree d (word (codes "eventually") ∷ show_rel (suc d) r)

-- ---- commands

abbrev pub assigned : Word → List Mark → List Mark
assigned x value = named x ∷ word (codes ":=") ∷ value

abbrev mutual
  pub show_form : ℕ → Form → List Mark
  show_form d Skip = word (codes "skip") ∷ []
  show_form d (Assign x e) = assigned x (show_expression (suc d) e)
  show_form d (Load x y f) = assigned x (record (named y) { told = Some (codes ".") } ∷ word (codes ".") ∷ named f ∷ [])
  show_form d (Store y f e) = named y ∷ word (codes ".") ∷ assigned f (show_expression (suc d) e)
  show_form d (New x c) = assigned x (word (codes "new") ∷ named c ∷ [])
  show_form d (Call x p es) = assigned x (word (codes "call") ∷ named p ∷ word (codes "(") ∷ listed (show_expression (suc d)) es ++ word (codes ")") ∷ [])
  show_form d (If p a b) = word (codes "if") ∷ show_formula (suc d) p ++ braced (show_commands (suc d) 1 a) ++ word (codes "else") ∷ braced (show_commands (suc d) 1 b)
  show_form d (While p q b) = word (codes "while") ∷ show_formula (suc d) p ++ word (codes "inv") ∷ show_formula (suc d) q ++ braced (show_commands (suc d) 1 b)

  pub show_command : ℕ → Command → List Mark
  show_command d (At at f) = begins at (tree d (show_form d f))

  -- from this number on
  pub show_commands : ℕ → ℕ → Block → List Mark
  show_commands d n End = []
  show_commands d n (Then c cs) = element n (show_command d c) ++ word (codes ";") ∷ show_commands d (suc n) cs

abbrev pub show_block : ℕ → Block → List Mark
show_block d b = braced (show_commands d 1 b)

-- ---- biprograms

abbrev pub sides : List Mark → List Mark → List Mark
sides l r = l ++ word (codes "|") ∷ r

abbrev pub show_loop : ℕ → BiLoop → List Mark
show_loop d l =
    word (codes "while") ∷ sides (show_formula d l.tests.0) (show_formula d l.tests.1)
    ++ word (codes "inv") ∷ sides (show_formula d l.invs.0) (show_formula d l.invs.1)
    ++ word (codes "rel") ∷ show_rel d l.rel
    ++ word (codes "align") ∷ sides (show_rel d l.guards.0) (show_rel d l.guards.1)

abbrev mutual
  pub show_biform : ℕ → BiForm → List Mark
  show_biform d (Split a b) = word (codes "split") ∷ show_block (suc d) a ++ show_block (suc d) b
  show_biform d (Sync c) = word (codes "sync") ∷ show_command (suc d) c
  show_biform d (SyncCall c j) = word (codes "sync") ∷ show_command (suc d) c ++ word (codes "using") ∷ named j ∷ []
  show_biform d (BiIf p q a b) =
      word (codes "if") ∷ sides (show_formula (suc d) p) (show_formula (suc d) q)
      ++ braced (show_bicommands (suc d) 1 a) ++ word (codes "else") ∷ braced (show_bicommands (suc d) 1 b)
  show_biform d (BiWhile l b) = show_loop (suc d) l ++ braced (show_bicommands (suc d) 1 b)
  show_biform d (Link x y) = word (codes "link") ∷ sides (named x ∷ []) (named y ∷ [])
  show_biform d (Note r) = word (codes "note") ∷ show_rel (suc d) r

  pub show_bicommand : ℕ → BiCommand → List Mark
  show_bicommand d (BiAt at f) = begins at (tree d (show_biform d f))

  pub show_bicommands : ℕ → ℕ → BiBlock → List Mark
  show_bicommands d n BiEnd = []
  show_bicommands d n (BiThen c cs) = element n (show_bicommand d c) ++ word (codes ";") ∷ show_bicommands d (suc n) cs

abbrev pub show_biblock : ℕ → BiBlock → List Mark
show_biblock d b = braced (show_bicommands d 1 b)

abbrev pub show_act : Act → List Mark
show_act (ActSeq i j) = word (codes "seq") ∷ counted i ∷ counted j ∷ []
show_act ActSync = word (codes "sync") ∷ []
show_act (ActCall j) = word (codes "call") ∷ named j ∷ []
show_act ActIf = word (codes "if") ∷ []
show_act (ActWhile r m n) = word (codes "while") ∷ sides (show_rel 1 r) (sides (show_rel 1 m) (show_rel 1 n))
show_act (ActLink x y) = word (codes "link") ∷ sides (named x ∷ []) (named y ∷ [])
show_act (ActNote r) = word (codes "note") ∷ show_rel 1 r
show_act ActDrop = word (codes "drop") ∷ []

-- a place has a first number, and those behind it
abbrev pub show_place_numbers : List ℕ → List Mark
show_place_numbers [] = []
show_place_numbers (n ∷ ns) = counted n ∷ repeated (λ i. counted i ∷ []) 1 ns

abbrev pub show_weave_step : WeaveStep → List Mark
show_weave_step s = begins s.at (word (codes "at") ∷ show_place_numbers s.place ++ show_act s.act)

abbrev pub show_align : Align → List Mark
show_align (Given b) = word (codes "bi") ∷ show_biblock 1 b
show_align (Woven ss) = word (codes "weave") ∷ braced (repeated (ended (codes ";") show_weave_step) 1 ss)

-- ---- declarations, effects and specifications

abbrev pub show_type : Ty → Mark
show_type Int = word (codes "int")
show_type Rgn = word (codes "rgn")
show_type (Class c) = named c

abbrev pub show_decl : Decl → List Mark
show_decl d = named d.name ∷ word (codes ":") ∷ show_type d.ty ∷ []

abbrev pub show_globals : List Decl → List Mark
show_globals ds = repeated (behind (codes "global") (ended (codes ";") show_decl)) 1 ds

abbrev pub show_params : List Decl → List Mark
show_params ds = word (codes "(") ∷ listed show_decl ds ++ word (codes ")") ∷ []

abbrev pub show_place : Place → List Mark
show_place p = show_expression 1 p.region ++ word (codes "@") ∷ named p.field ∷ []

abbrev pub show_effect : Effect → List Mark
show_effect (Global x) = named x ∷ []
show_effect (Locations p) = show_place p

abbrev pub show_writes : List Effect → List Mark
show_writes es = word (codes "writes") ∷ braced (listed show_effect es)

abbrev pub show_clause : Clause → List Mark
show_clause c = begins c.at (show_formula 1 c.formula)

abbrev pub show_rel_clause : RelClause → List Mark
show_rel_clause c = begins c.at (show_rel 1 c.formula)

abbrev pub show_spec : Spec → List Mark
show_spec s = word (codes "requires") ∷ show_clause s.needs ++ word (codes "ensures") ∷ show_clause s.gives ++ show_writes s.writes

abbrev pub show_locals : List Decl → List Mark
show_locals ds = repeated (behind (codes "var") (ended (codes ";") show_decl)) 1 ds

-- between its braces; its own `at` is that of the named before it
abbrev pub show_body : Body → List Mark
show_body b = braced (show_locals b.locals ++ show_commands 1 1 b.commands)

-- the name, the parameters and the type of the result
abbrev pub show_head : Word → List Decl → Ty → List Mark
show_head name params result = named name ∷ show_params params ++ word (codes ":") ∷ show_type result ∷ []

-- the procedure and its body have the place of the named `proc`
abbrev pub show_proc : Proc → List Mark
show_proc p = begins p.at (begins p.body.at (word (codes "proc") ∷ show_head p.name p.params p.result ++ show_spec p.spec ++ show_body p.body))

abbrev pub show_sig : Sig → List Mark
show_sig s = begins s.at (word (codes "method") ∷ show_head s.name s.params s.result ++ show_spec s.spec ++ word (codes ";") ∷ [])

-- ---- items

abbrev pub show_class : ClassItem → List Mark
show_class c = begins c.at (word (codes "class") ∷ named c.name ∷ braced (repeated (ended (codes ";") show_decl) 1 c.fields))

abbrev pub show_boundary : ℕ → List Place → List Mark
show_boundary at ps = begins at (word (codes "boundary") ∷ braced (listed show_place ps))

abbrev pub show_interface : Interface → List Mark
show_interface i =
    begins i.at (word (codes "interface") ∷ named i.name ∷ braced (show_globals i.globals ++ show_boundary i.boundary_at i.boundary
    ++ word (codes "init") ∷ word (codes "ensures") ∷ show_clause i.init_ensures ++ show_writes i.init_writes ++ repeated show_sig 1 i.methods))

-- a method's body has the place of the named `method`
abbrev pub show_method : Word × Body → List Mark
show_method m = begins m.1.at (word (codes "method") ∷ named m.0 ∷ show_body m.1)

abbrev pub show_module : Module → List Mark
show_module m =
    begins m.at (word (codes "module") ∷ named m.name ∷ word (codes ":") ∷ named m.interface
    ∷ braced (show_globals m.globals ++ word (codes "invariant") ∷ show_clause m.invariant
    ++ word (codes ";") ∷ begins m.init.at (word (codes "init") ∷ show_body m.init) ++ repeated show_method 1 m.methods))

abbrev pub show_unit : UnitItem → List Mark
show_unit u = begins u.at (word (codes "unit") ∷ named u.name ∷ braced (show_globals u.globals ++ repeated show_proc 1 u.procs))

abbrev pub show_client : Client → List Mark
show_client c =
    begins c.at (word (codes "client") ∷ named c.name ∷ word (codes ":") ∷ named c.interface
    ∷ braced (show_globals c.globals ++ repeated show_proc 1 c.procs))

-- a unit's name and a procedure's
abbrev pub show_subject : Word × Word → List Mark
show_subject s = named s.0 ∷ word (codes ".") ∷ named s.1 ∷ []

abbrev pub show_judgement : Judgement → List Mark
show_judgement j =
    begins j.at (word (codes "judge") ∷ named j.name ∷ word (codes ":") ∷ show_subject j.left ++ word (codes "~") ∷ show_subject j.right
    ++ word (codes "requires") ∷ show_rel_clause j.needs ++ word (codes "ensures") ∷ show_rel_clause j.gives ++ show_align j.align)

-- an alignment has the place of the named `init` or `method`
abbrev pub show_pair_method : ℕ × Word × Align → List Mark
show_pair_method m = begins m.0 (word (codes "method") ∷ named m.1 ∷ show_align m.2)

abbrev pub show_pair : ModulePair → List Mark
show_pair p =
    begins p.at (word (codes "pair") ∷ named p.name ∷ word (codes ":") ∷ named p.left ∷ word (codes "~") ∷ named p.right
    ∷ braced (word (codes "coupling") ∷ show_rel_clause p.coupling
    ++ word (codes ";") ∷ begins p.init.0 (word (codes "init") ∷ show_align p.init.1) ++ repeated show_pair_method 1 p.methods))

abbrev pub show_item : Item → List Mark
show_item (OfClass c) = show_class c
show_item (OfInterface i) = show_interface i
show_item (OfModule m) = show_module m
show_item (OfUnit u) = show_unit u
show_item (OfClient c) = show_client c
show_item (OfJudgement j) = show_judgement j
show_item (OfPair p) = show_pair p

abbrev pub show_tokens : Bundle → List Mark
show_tokens b = repeated show_item 1 b.items

-- ---- what can be printed

-- the shapes that the grammar has

abbrev pub IsAtom : Command → Type 0
IsAtom (At at (Call x p es)) = ⊥
IsAtom (At at (If p a b)) = ⊥
IsAtom (At at (While p q b)) = ⊥
IsAtom c = Unit {0}

abbrev pub IsCall : Command → Type 0
IsCall (At at (Call x p es)) = Unit {0}
IsCall c = ⊥

-- under `sync` stands an atom, or a call where there is a judgement for it
abbrev mutual
  pub IsShapedBiform : BiForm → Type 0
  IsShapedBiform (Sync c) = IsAtom c
  IsShapedBiform (SyncCall c j) = IsCall c
  IsShapedBiform (BiIf p q a b) = IsShapedBiblock a × IsShapedBiblock b
  IsShapedBiform (BiWhile l b) = IsShapedBiblock b
  IsShapedBiform f = Unit {0}

  pub IsShapedBicommand : BiCommand → Type 0
  IsShapedBicommand (BiAt at f) = IsShapedBiform f

  pub IsShapedBiblock : BiBlock → Type 0
  IsShapedBiblock BiEnd = Unit {0}
  IsShapedBiblock (BiThen c cs) = IsShapedBicommand c × IsShapedBiblock cs

-- a place has a number
abbrev pub IsShapedStep : WeaveStep → Type 0
IsShapedStep s = s.place ≢ []

abbrev pub IsShapedAlign : Align → Type 0
IsShapedAlign (Given b) = IsShapedBiblock b
IsShapedAlign (Woven ss) = AllByRecursion IsShapedStep ss

abbrev pub IsShapedItem : Item → Type 0
IsShapedItem (OfJudgement j) = IsShapedAlign j.align
IsShapedItem (OfPair p) = IsShapedAlign p.init.1 × AllByRecursion (λ m. IsShapedAlign m.2) p.methods
IsShapedItem i = Unit {0}

pub record IsPrintable (b : Bundle) : Type 0 where
  pub shapes : AllByRecursion IsShapedItem b.items
  pub words : AllByRecursion (λ m. CanBeSaid m.said) (show_tokens b)

-- ---- a text stands for a bundle

-- each place is the one
abbrev pub AreAt : List ℕ → ℕ → Type 0
AreAt [] place = Unit {0}
AreAt (at ∷ ats) place = (at ≡ place) × AreAt ats place

-- the tokens say what the marks do, and stand at the places of the trees that begin with them
abbrev pub Match : List Mark → List Token → Type 0
Match [] [] = Unit {0}
Match [] (t ∷ ts) = ⊥
Match (m ∷ ms) [] = ⊥
Match (m ∷ ms) (t ∷ ts) = Says t.text m.said × AreAt m.ats t.at × Match ms ts

pub record StandsFor (text : List ℕ) (b : Bundle) : Type 0 where
  pub utf8 : IsUtf8 text
  pub printable : IsPrintable b
  pub found : List Token
  pub cut : tokens text ≡ Some found
  pub spelled : Match (show_tokens b) found

-- ---- the text that is printed for a bundle: each item's tokens with a space between them, and a line feed behind each item

abbrev pub spaced : List Mark → List ℕ
spaced [] = []
spaced (m ∷ []) = text_of m.said
spaced (m ∷ ms) = text_of m.said ++ 32 ∷ spaced ms

abbrev pub shown : List Item → List ℕ
shown [] = []
shown (i ∷ is) = spaced (show_item i) ++ 10 ∷ shown is
