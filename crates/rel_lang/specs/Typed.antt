-- When a bundle is typed: each name is declared once, what is named is declared, and each part has the type that it needs.
use Rattle.std.specs.Prelude.{◌≡◌, ◌≢◌, ◌⊎◌, Bool, true, false, ◌&&◌, IsTrue, IsSome, IsNone, IsSomeAnd, List, [], ◌∷◌, ◌++◌, map, Option, Some, None}
use Rattle.std.specs.List.{AllByRecursion}
use Rattle.rel_lang.specs.Syntax.{Word, Ty, Int, Rgn, Class, Left, Right, Expression, Var, Num, Null, Empty, Alloc, Add, Sub, Mul, Field, Single, Union, Meet, Minus, Image, Filter, Old, Formula, True, False, Eq, Lt, Le, Member, Subset, Not, And, Or, Implies, Every, Exists, RelFormula, RelTrue, RelFalse, OnLeft, OnRight, Both, Agree, AgreeImage, RelNot, RelAnd, RelOr, RelImplies, RelEvery, RelExists, Eventually, Command, At, Skip, Assign, Load, Store, New, Call, If, While, Block, End, Then, BiCommand, BiAt, Split, Sync, SyncCall, BiIf, BiWhile, Link, Note, BiBlock, BiEnd, BiThen, Act, ActSeq, ActSync, ActCall, ActIf, ActWhile, ActLink, ActNote, ActDrop, Align, Given, Woven, Decl, Place, Effect, Global, Locations, Spec, Proc, Sig, Interface, Module, UnitItem, Client, Judgement, ModulePair, Item, OfClass, OfInterface, OfModule, OfUnit, OfClient, OfJudgement, OfPair, Bundle}
use Rattle.rel_lang.specs.State.{Tables, tables_of, find_field, find_named, Scope, find_variable}
use Rattle.rel_lang.specs.Scope.{Setting, result_name, interface_globals, client_globals, globals_of, pre_scope, post_scope, body_scope, unit_setting, client_setting, signature_setting, method_setting, init_setting}
use Rattle.rel_lang.specs.Lookup.{judgements_of, find_interface, find_module, find_judgement, find_body, main_name, find_main, Subject, subject_of}
use Rattle.rel_lang.specs.Truth.{quantified}

-- ---- names

abbrev pub IsAmong : Word → List Word → Type 0
IsAmong x [] = ⊥
IsAmong x (y ∷ ys) = (x ≡ y) ⊎ IsAmong x ys

-- no name stands twice
abbrev pub AreDistinct : List Word → Type 0
AreDistinct [] = Unit {0}
AreDistinct (x ∷ xs) = ¬ (IsAmong x xs) × AreDistinct xs

abbrev pub names_of : Scope → List Word
names_of sc = map (λ v. v.name) sc

-- ---- expressions and formulas

abbrev pub IsReferenceType : Ty → Type 0
IsReferenceType Int = ⊥
IsReferenceType Rgn = ⊥
IsReferenceType (Class c) = Unit {0}

-- a code expression has no field read, image, filter, `alloc` or `old`
abbrev pub is_code : Expression → Bool
is_code (Var x) = true
is_code (Num n) = true
is_code Null = true
is_code Empty = true
is_code Alloc = false
is_code (Add a b) = is_code a && is_code b
is_code (Sub a b) = is_code a && is_code b
is_code (Mul n a) = is_code a
is_code (Field a f) = false
is_code (Single a) = is_code a
is_code (Union a b) = is_code a && is_code b
is_code (Meet a b) = is_code a && is_code b
is_code (Minus a b) = is_code a && is_code b
is_code (Image a f) = false
is_code (Filter a c) = false
is_code (Old a) = false

-- a test compares code expressions and has no quantifier
abbrev pub is_test : Formula → Bool
is_test True = true
is_test False = true
is_test (Eq a b) = is_code a && is_code b
is_test (Lt a b) = is_code a && is_code b
is_test (Le a b) = is_code a && is_code b
is_test (Member a b) = is_code a && is_code b
is_test (Subset a b) = is_code a && is_code b
is_test (Not p) = is_test p
is_test (And p q) = is_test p && is_test q
is_test (Or p q) = is_test p && is_test q
is_test (Implies p q) = is_test p && is_test q
is_test (Every x c g p) = false
is_test (Exists x c g p) = false

module _ (tables : Tables) where
  abbrev pub IsClass : Word → Type 0
  IsClass c = IsAmong c tables.classes

  abbrev pub IsDeclaredType : Ty → Type 0
  IsDeclaredType Int = Unit {0}
  IsDeclaredType Rgn = Unit {0}
  IsDeclaredType (Class c) = IsClass c

  abbrev pub HaveTypes : List Decl → Type 0
  HaveTypes ds = AllByRecursion (λ d. IsDeclaredType d.ty) ds

  -- The expression has the type; null has every class. `old` may stand where the flag says so, and not inside itself.
  abbrev pub HasType : Bool → Scope → Expression → Ty → Type 0
  HasType old sc (Var x) t = IsSomeAnd (find_variable x sc) (λ v. v.ty ≡ t)
  HasType old sc (Num n) t = t ≡ Int
  HasType old sc Null t = IsReferenceType t
  HasType old sc Empty t = t ≡ Rgn
  HasType old sc Alloc t = t ≡ Rgn
  HasType old sc (Add a b) t = HasType old sc a Int × HasType old sc b Int × (t ≡ Int)
  HasType old sc (Sub a b) t = HasType old sc a Int × HasType old sc b Int × (t ≡ Int)
  HasType old sc (Mul n a) t = HasType old sc a Int × (t ≡ Int)
  HasType old sc (Field a f) t = IsSomeAnd (find_field tables f) (λ d. HasType old sc a (Class d.class) × (t ≡ d.ty))
  HasType old sc (Single a) t = (c : Word) × HasType old sc a (Class c) × (t ≡ Rgn)
  HasType old sc (Union a b) t = HasType old sc a Rgn × HasType old sc b Rgn × (t ≡ Rgn)
  HasType old sc (Meet a b) t = HasType old sc a Rgn × HasType old sc b Rgn × (t ≡ Rgn)
  HasType old sc (Minus a b) t = HasType old sc a Rgn × HasType old sc b Rgn × (t ≡ Rgn)
  -- an int field has no image
  HasType old sc (Image a f) t = IsSomeAnd (find_field tables f) (λ d. HasType old sc a Rgn × (d.ty ≢ Int) × (t ≡ Rgn))
  HasType old sc (Filter a c) t = HasType old sc a Rgn × IsClass c × (t ≡ Rgn)
  HasType old sc (Old a) t = IsTrue old × HasType false sc a t

  -- a quantified name isn't in scope yet
  abbrev pub CanBind : Word → Word → Scope → Type 0
  CanBind x c sc = IsNone (find_variable x sc) × IsClass c

  abbrev pub IsTypedFormula : Bool → Scope → Formula → Type 0
  IsTypedFormula old sc True = Unit {0}
  IsTypedFormula old sc False = Unit {0}
  IsTypedFormula old sc (Eq a b) = (t : Ty) × HasType old sc a t × HasType old sc b t
  IsTypedFormula old sc (Lt a b) = HasType old sc a Int × HasType old sc b Int
  IsTypedFormula old sc (Le a b) = HasType old sc a Int × HasType old sc b Int
  IsTypedFormula old sc (Member a g) = (c : Word) × HasType old sc a (Class c) × HasType old sc g Rgn
  IsTypedFormula old sc (Subset g h) = HasType old sc g Rgn × HasType old sc h Rgn
  IsTypedFormula old sc (Not p) = IsTypedFormula old sc p
  IsTypedFormula old sc (And p q) = IsTypedFormula old sc p × IsTypedFormula old sc q
  IsTypedFormula old sc (Or p q) = IsTypedFormula old sc p × IsTypedFormula old sc q
  IsTypedFormula old sc (Implies p q) = IsTypedFormula old sc p × IsTypedFormula old sc q
  IsTypedFormula old sc (Every x c g p) = CanBind x c sc × HasType old sc g Rgn × IsTypedFormula old (quantified x c ∷ sc) p
  IsTypedFormula old sc (Exists x c g p) = CanBind x c sc × HasType old sc g Rgn × IsTypedFormula old (quantified x c ∷ sc) p

  -- left parts are read in the left scope, and right ones in the right scope
  abbrev pub IsTypedRel : Bool → Scope → Scope → RelFormula → Type 0
  IsTypedRel old l r RelTrue = Unit {0}
  IsTypedRel old l r RelFalse = Unit {0}
  IsTypedRel old l r (OnLeft p) = IsTypedFormula old l p
  IsTypedRel old l r (OnRight p) = IsTypedFormula old r p
  IsTypedRel old l r (Both p) = IsTypedFormula old l p × IsTypedFormula old r p
  IsTypedRel old l r (Agree a b) = (t : Ty) × HasType old l a t × HasType old r b t
  IsTypedRel old l r (AgreeImage g f) = HasType old l g Rgn × HasType old r g Rgn × IsSome (find_field tables f)
  IsTypedRel old l r (RelNot a) = IsTypedRel old l r a
  IsTypedRel old l r (RelAnd a b) = IsTypedRel old l r a × IsTypedRel old l r b
  IsTypedRel old l r (RelOr a b) = IsTypedRel old l r a × IsTypedRel old l r b
  IsTypedRel old l r (RelImplies a b) = IsTypedRel old l r a × IsTypedRel old l r b
  IsTypedRel old l r (RelEvery Left x c g a) = CanBind x c l × HasType old l g Rgn × IsTypedRel old (quantified x c ∷ l) r a
  IsTypedRel old l r (RelEvery Right x c g a) = CanBind x c r × HasType old r g Rgn × IsTypedRel old l (quantified x c ∷ r) a
  IsTypedRel old l r (RelExists Left x c g a) = CanBind x c l × HasType old l g Rgn × IsTypedRel old (quantified x c ∷ l) r a
  IsTypedRel old l r (RelExists Right x c g a) = CanBind x c r × HasType old r g Rgn × IsTypedRel old l (quantified x c ∷ r) a
  IsTypedRel old l r (Eventually a) = IsTypedRel old l r a

-- ---- commands

-- what a call needs to know
pub record Signature : Type 0 where
  pub name : Word
  pub params : List Decl
  pub result : Ty

abbrev pub signature_of_proc : Proc → Signature
signature_of_proc q = record { name = q.name; params = q.params; result = q.result }

abbrev pub signature_of_method : Sig → Signature
signature_of_method q = record { name = q.name; params = q.params; result = q.result }

-- what code can name
pub record Names : Type 0 where
  pub scope : Scope
  pub callees : List Signature

module _ (tables : Tables) (ns : Names) where
  abbrev pub IsCode : Expression → Ty → Type 0
  IsCode e t = IsTrue (is_code e) × HasType tables false ns.scope e t

  abbrev pub IsTest : Formula → Type 0
  IsTest p = IsTrue (is_test p) × IsTypedFormula tables false ns.scope p

  -- it can be assigned a value of the type
  abbrev pub IsTarget : Word → Ty → Type 0
  IsTarget x t = IsSomeAnd (find_variable x ns.scope) (λ v. IsTrue v.is_assignable × (v.ty ≡ t))

  -- the variable refers to an object that has the field
  abbrev pub RefersTo : Word → Word → Type 0
  RefersTo y c = IsSomeAnd (find_variable y ns.scope) (λ v. v.ty ≡ Class c)

  -- one argument of the type for each parameter
  abbrev pub AreArguments : List Expression → List Decl → Type 0
  AreArguments [] [] = Unit {0}
  AreArguments (e ∷ es) (d ∷ ds) = IsCode e d.ty × AreArguments es ds
  AreArguments _ _ = ⊥

  abbrev mutual
    pub IsTypedCommand : Command → Type 0
    IsTypedCommand (At at Skip) = Unit {0}
    IsTypedCommand (At at (Assign x e)) = (t : Ty) × IsTarget x t × IsCode e t
    IsTypedCommand (At at (Load x y f)) = IsSomeAnd (find_field tables f) (λ d. RefersTo y d.class × IsTarget x d.ty)
    IsTypedCommand (At at (Store y f e)) = IsSomeAnd (find_field tables f) (λ d. RefersTo y d.class × IsCode e d.ty)
    IsTypedCommand (At at (New x c)) = IsTarget x (Class c) × IsClass tables c
    -- nothing calls a `main`
    IsTypedCommand (At at (Call x p es)) =
        (p ≢ main_name) × IsSomeAnd (find_named (λ q. q.name) p ns.callees) (λ q. AreArguments es q.params × IsTarget x q.result)
    IsTypedCommand (At at (If t a b)) = IsTest t × IsTypedBlock a × IsTypedBlock b
    IsTypedCommand (At at (While t i b)) = IsTest t × IsTypedFormula tables true ns.scope i × IsTypedBlock b

    pub IsTypedBlock : Block → Type 0
    IsTypedBlock End = Unit {0}
    IsTypedBlock (Then c cs) = IsTypedCommand c × IsTypedBlock cs

-- ---- alignments

-- The names of the two sides, the bundle's judgements, and the two units where the bodies are those of a judgement's procedures. In a pair's
-- alignment no judgement can be used.
pub record Sides : Type 0 where
  pub left : Names
  pub right : Names
  pub judgements : List Judgement
  pub units : Option (Word × Word)

-- the judgement of this name is about the procedures p of the two units
abbrev pub IsAbout : Sides → Word → Word → Type 0
IsAbout s j p = IsSomeAnd s.units (λ u. IsSomeAnd (find_judgement j s.judgements) (λ k. (k.left ≡ (u.0, p)) × (k.right ≡ (u.1, p))))

abbrev pub IsCallBy : Sides → Word → Command → Type 0
IsCallBy s j (At at (Call x p es)) = IsAbout s j p
IsCallBy s j _ = ⊥

module _ (tables : Tables) (s : Sides) where
  -- a relational invariant, a guard or a note
  abbrev pub IsRelInBody : RelFormula → Type 0
  IsRelInBody a = IsTypedRel tables true s.left.scope s.right.scope a

  -- two references of one class
  abbrev pub IsLink : Word → Word → Type 0
  IsLink x y = (c : Word) × RefersTo tables s.left x c × RefersTo tables s.right y c

  abbrev mutual
    pub IsTypedBicommand : BiCommand → Type 0
    IsTypedBicommand (BiAt at (Split a b)) = IsTypedBlock tables s.left a × IsTypedBlock tables s.right b
    IsTypedBicommand (BiAt at (Sync c)) = IsTypedCommand tables s.left c × IsTypedCommand tables s.right c
    IsTypedBicommand (BiAt at (SyncCall c j)) = IsTypedCommand tables s.left c × IsTypedCommand tables s.right c × IsCallBy s j c
    IsTypedBicommand (BiAt at (BiIf p q a b)) = IsTest tables s.left p × IsTest tables s.right q × IsTypedBiblock a × IsTypedBiblock b
    IsTypedBicommand (BiAt at (BiWhile l b)) =
        IsTest tables s.left l.tests.0 × IsTest tables s.right l.tests.1
        × IsTypedFormula tables true s.left.scope l.invs.0 × IsTypedFormula tables true s.right.scope l.invs.1
        × IsRelInBody l.rel × IsRelInBody l.guards.0 × IsRelInBody l.guards.1 × IsTypedBiblock b
    IsTypedBicommand (BiAt at (Link x y)) = IsLink x y
    IsTypedBicommand (BiAt at (Note a)) = IsRelInBody a

    pub IsTypedBiblock : BiBlock → Type 0
    IsTypedBiblock BiEnd = Unit {0}
    IsTypedBiblock (BiThen c cs) = IsTypedBicommand c × IsTypedBiblock cs

  abbrev pub IsTypedAct : Act → Type 0
  IsTypedAct (ActSeq i j) = Unit {0}
  IsTypedAct ActSync = Unit {0}
  IsTypedAct (ActCall j) = IsSome (find_judgement j s.judgements)
  IsTypedAct ActIf = Unit {0}
  IsTypedAct (ActWhile a m n) = IsRelInBody a × IsRelInBody m × IsRelInBody n
  IsTypedAct (ActLink x y) = IsLink x y
  IsTypedAct (ActNote a) = IsRelInBody a
  IsTypedAct ActDrop = Unit {0}

  abbrev pub IsTypedAlign : Align → Type 0
  IsTypedAlign (Given b) = IsTypedBiblock b
  IsTypedAlign (Woven steps) = AllByRecursion (λ t. IsTypedAct t.act) steps

-- ---- specifications and bodies

module _ (tables : Tables) where
  abbrev pub IsTypedPlace : Scope → Place → Type 0
  IsTypedPlace sc p = HasType tables false sc p.region Rgn × IsSome (find_field tables p.field)

  -- a listed global is in scope
  abbrev pub IsTypedEffect : Scope → Scope → Effect → Type 0
  IsTypedEffect globals sc (Global x) = IsSome (find_variable x globals)
  IsTypedEffect globals sc (Locations p) = IsTypedPlace sc p

  abbrev pub AreTypedWrites : Setting → List Effect → Type 0
  AreTypedWrites g es = AllByRecursion (IsTypedEffect (globals_of g) (pre_scope g)) es

  pub record IsTypedSpec (g : Setting) (s : Spec) : Type 0 where
    pub needs : IsTypedFormula tables false (pre_scope g) s.needs.formula
    pub gives : IsTypedFormula tables true (post_scope g) s.gives.formula
    pub writes : AreTypedWrites g s.writes

  -- No two variables that the body sees have one name, and none but its result is called `result`.
  pub record IsTypedBody (g : Setting) (callees : List Signature) (b : Block) : Type 0 where
    pub names : AreDistinct (names_of (body_scope g))
    pub locals : HaveTypes tables g.locals
    pub commands : IsTypedBlock tables (record { scope = body_scope g; callees = callees }) b

  pub record IsTypedProc (g : Setting) (callees : List Signature) (q : Proc) : Type 0 where
    pub params : HaveTypes tables q.params
    pub result : IsDeclaredType tables q.result
    pub spec : IsTypedSpec g q.spec
    pub body : IsTypedBody g callees q.body.commands

  -- ---- interfaces, modules, units and clients

  pub record IsTypedMethod (i : Interface) (q : Sig) : Type 0 where
    pub params : HaveTypes tables q.params
    pub result : IsDeclaredType tables q.result
    pub names : AreDistinct (names_of (body_scope (signature_setting i q)))
    pub spec : IsTypedSpec (signature_setting i q) q.spec

  pub record IsTypedInterface (i : Interface) : Type 0 where
    pub types : HaveTypes tables i.globals
    pub names : AreDistinct (result_name ∷ names_of (interface_globals i))
    pub boundary : AllByRecursion (IsTypedPlace (interface_globals i)) i.boundary
    pub init_ensures : IsTypedFormula tables true (interface_globals i) i.init_ensures.formula
    pub init_writes : AllByRecursion (IsTypedEffect (interface_globals i) (interface_globals i)) i.init_writes
    pub method_names : AreDistinct (map (λ q. q.name) i.methods)
    pub methods : AllByRecursion (IsTypedMethod i) i.methods

  -- A module speaks of the classes and its interface alone. It has a body for each method, in the interface's order, and calls nothing.
  pub record IsTypedModule (i : Interface) (m : Module) : Type 0 where
    pub interface : m.interface ≡ i.name
    pub types : HaveTypes tables m.globals
    pub names : AreDistinct (result_name ∷ names_of (body_scope (init_setting i m)))
    pub invariant : IsTypedFormula tables false (globals_of (init_setting i m)) m.invariant.formula
    pub init : IsTypedBody (init_setting i m) [] m.init.commands
    pub listed : map (λ b. b.0) m.methods ≡ map (λ q. q.name) i.methods
    pub methods : AllByRecursion (λ q. IsSomeAnd (find_body q.name m.methods) (λ b. IsTypedBody (method_setting i m q b) [] b.commands)) i.methods

  pub record IsTypedUnit (u : UnitItem) : Type 0 where
    pub types : HaveTypes tables u.globals
    pub names : AreDistinct (result_name ∷ map (λ d. d.name) u.globals)
    pub proc_names : AreDistinct (map (λ q. q.name) u.procs)
    pub procs : AllByRecursion (λ q. IsTypedProc (unit_setting u q) (map signature_of_proc u.procs) q) u.procs

  -- what a client's code can call
  abbrev pub client_callees : Interface → Client → List Signature
  client_callees i c = map signature_of_proc c.procs ++ map signature_of_method i.methods

  -- A client speaks of the classes and its interface alone. Its `main` has no parameters.
  pub record IsTypedClient (i : Interface) (c : Client) : Type 0 where
    pub interface : c.interface ≡ i.name
    pub types : HaveTypes tables c.globals
    pub names : AreDistinct (result_name ∷ names_of (interface_globals i ++ client_globals c))
    pub proc_names : AreDistinct (map (λ q. q.name) (client_callees i c))
    pub main : IsSomeAnd (find_main c) (λ q. q.params ≡ [])
    pub procs : AllByRecursion (λ q. IsTypedProc (client_setting i c q) (client_callees i c) q) c.procs

-- ---- judgements and pairs

-- what the body of a unit's procedure can name
abbrev pub subject_names : Subject → Names
subject_names x = record { scope = body_scope (unit_setting x.unit x.proc); callees = map signature_of_proc x.unit.procs }

pub record IsTypedJudgement (b : Bundle) (j : Judgement) (l r : Subject) : Type 0 where
  pub needs : IsTypedRel (tables_of b) false (pre_scope (unit_setting l.unit l.proc)) (pre_scope (unit_setting r.unit r.proc)) j.needs.formula
  pub gives : IsTypedRel (tables_of b) true (post_scope (unit_setting l.unit l.proc)) (post_scope (unit_setting r.unit r.proc)) j.gives.formula
  pub align : IsTypedAlign (tables_of b)
      (record { left = subject_names l; right = subject_names r; judgements = judgements_of b.items; units = Some (j.left.0, j.right.0) }) j.align

abbrev pub module_sides : Bundle → Setting → Setting → Sides
module_sides b g h = record {
  left = record { scope = body_scope g; callees = [] };
  right = record { scope = body_scope h; callees = [] };
  judgements = judgements_of b.items;
  units = None;
}

abbrev pub find_align : Word → ModulePair → Option Align
find_align x p = elim (find_named (λ m. m.1) x p.methods) as (λ m. Option Align) [ None ↦ None | Some m ↦ Some m.2 ]

-- the pair aligns the two modules' bodies for the method
abbrev pub IsTypedAlignOf : Bundle → ModulePair → Interface → Module → Module → Sig → Type 0
IsTypedAlignOf b p i m n q =
    IsSomeAnd (find_align q.name p) (λ a. IsSomeAnd (find_body q.name m.methods) (λ d. IsSomeAnd (find_body q.name n.methods) (λ e.
    IsTypedAlign (tables_of b) (module_sides b (method_setting i m q d) (method_setting i n q e)) a)))

pub record IsTypedPair (b : Bundle) (p : ModulePair) (i : Interface) (m n : Module) : Type 0 where
  pub same : m.interface ≡ n.interface
  pub coupling : IsTypedRel (tables_of b) false (globals_of (init_setting i m)) (globals_of (init_setting i n)) p.coupling.formula
  pub init : IsTypedAlign (tables_of b) (module_sides b (init_setting i m) (init_setting i n)) p.init.1
  pub listed : map (λ a. a.1) p.methods ≡ map (λ q. q.name) i.methods
  pub methods : AllByRecursion (IsTypedAlignOf b p i m n) i.methods

-- ---- bundles

abbrev pub item_name : Item → Word
item_name (OfClass c) = c.name
item_name (OfInterface i) = i.name
item_name (OfModule m) = m.name
item_name (OfUnit u) = u.name
item_name (OfClient c) = c.name
item_name (OfJudgement j) = j.name
item_name (OfPair p) = p.name

abbrev pub IsTypedItem : Bundle → Item → Type 0
IsTypedItem b (OfClass c) = HaveTypes (tables_of b) c.fields
IsTypedItem b (OfInterface i) = IsTypedInterface (tables_of b) i
IsTypedItem b (OfModule m) = IsSomeAnd (find_interface b m.interface) (λ i. IsTypedModule (tables_of b) i m)
IsTypedItem b (OfUnit u) = IsTypedUnit (tables_of b) u
IsTypedItem b (OfClient c) = IsSomeAnd (find_interface b c.interface) (λ i. IsTypedClient (tables_of b) i c)
IsTypedItem b (OfJudgement j) = IsSomeAnd (subject_of b j.left) (λ l. IsSomeAnd (subject_of b j.right) (λ r. IsTypedJudgement b j l r))
IsTypedItem b (OfPair p) =
    IsSomeAnd (find_module b p.left) (λ m. IsSomeAnd (find_module b p.right) (λ n. IsSomeAnd (find_interface b m.interface) (λ i. IsTypedPair b p i m n)))

-- No two items have one name, and no two fields, whatever their classes.
pub record IsTyped (b : Bundle) : Type 0 where
  pub names : AreDistinct (map item_name b.items)
  pub fields : AreDistinct (map (λ d. d.name) (tables_of b).fields)
  pub items : AllByRecursion (IsTypedItem b) b.items
