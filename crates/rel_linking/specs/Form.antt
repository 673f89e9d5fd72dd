-- The bundles that can be judged so far: two units of one straight procedure of ints each, and a judgement about these two.
use Rattle.std.specs.Prelude.{◌≡◌, ◌⊎◌, List, [], ◌∷◌}
use Rattle.std.specs.List.{AllByRecursion}
use Rattle.rel_lang.specs.Syntax.{Word, Int, Expression, Var, Num, Add, Sub, True, RelFormula, Agree, At, Assign, Block, End, Then, BiAt, Split, BiEnd, BiThen, Align, Given, Effect, Global, Locations, Proc, UnitItem, Judgement, OfUnit, OfJudgement, Bundle, without_at}
use Rattle.rel_lang.specs.Scope.{result_name}
use Rattle.rel_lang.specs.Typed.{IsTyped}

-- the parts of such a bundle
pub record Parts : Type 0 where
  pub left : UnitItem
  pub left_proc : Proc
  pub right : UnitItem
  pub right_proc : Proc
  pub judgement : Judgement

-- names, numbers, sums and differences
abbrev pub IsArithmetic : Expression → Type 0
IsArithmetic (Var x) = Unit {0}
IsArithmetic (Num n) = Unit {0}
IsArithmetic (Add a b) = IsArithmetic a × IsArithmetic b
IsArithmetic (Sub a b) = IsArithmetic a × IsArithmetic b
IsArithmetic _ = ⊥

abbrev pub IsAgreement : RelFormula → Type 0
IsAgreement (Agree e f) = IsArithmetic e × IsArithmetic f
IsAgreement _ = ⊥

-- the global is listed
abbrev pub IsListed : List Effect → Word → Type 0
IsListed [] x = ⊥
IsListed (Global y ∷ es) x = (x ≡ y) ⊎ IsListed es x
IsListed (Locations p ∷ es) x = IsListed es x

abbrev pub IsGlobal : Effect → Type 0
IsGlobal (Global x) = Unit {0}
IsGlobal (Locations p) = ⊥

-- assignments alone, each of such an expression to `result` or a listed global
abbrev pub AssignsListed : List Effect → Block → Type 0
AssignsListed writes End = Unit {0}
AssignsListed writes (Then (At at (Assign x e)) cs) = ((x ≡ result_name) ⊎ IsListed writes x) × IsArithmetic e × AssignsListed writes cs
AssignsListed writes (Then c cs) = ⊥

-- one procedure over ints without parameters and locals, which asks and promises nothing and lists the globals that it assigns
pub record IsPlainUnit (u : UnitItem) (p : Proc) : Type 0 where
  pub procs : u.procs ≡ p ∷ []
  pub ints : AllByRecursion (λ d. d.ty ≡ Int) u.globals
  pub params : p.params ≡ []
  pub result : p.result ≡ Int
  pub needs : p.spec.needs.formula ≡ True
  pub gives : p.spec.gives.formula ≡ True
  pub writes : AllByRecursion IsGlobal p.spec.writes
  pub locals : p.body.locals ≡ []
  pub lists : AssignsListed p.spec.writes p.body.commands

-- one split of the two blocks
abbrev pub IsSplitOf : Align → Block → Block → Type 0
IsSplitOf (Given (BiThen (BiAt at (Split a b)) BiEnd)) l r = (without_at a ≡ without_at l) × (without_at b ≡ without_at r)
IsSplitOf _ l r = ⊥

pub record HasParts (b : Bundle) (k : Parts) : Type 0 where
  pub items : b.items ≡ OfUnit k.left ∷ OfUnit k.right ∷ OfJudgement k.judgement ∷ []
  pub left : IsPlainUnit k.left k.left_proc
  pub right : IsPlainUnit k.right k.right_proc
  pub left_named : k.judgement.left ≡ (k.left.name, k.left_proc.name)
  pub right_named : k.judgement.right ≡ (k.right.name, k.right_proc.name)
  pub needs : IsAgreement k.judgement.needs.formula
  pub gives : IsAgreement k.judgement.gives.formula
  pub align : IsSplitOf k.judgement.align k.left_proc.body.commands k.right_proc.body.commands

-- the bundle is straight, with these parts
pub record IsStraight (b : Bundle) (k : Parts) : Type 0 where
  pub typed : IsTyped b
  pub parts : HasParts b k
