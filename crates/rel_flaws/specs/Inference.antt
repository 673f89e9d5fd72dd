-- What expressions and formulas have wrong.
use Rattle.std.specs.Prelude.{Bool, true, false, not, ◌&&◌, ◌||◌, if◌then◌else◌, List, ◌∷◌, Option, Some, None, is_some, bytes_eq}
use Rattle.std.specs.List.{list_any}
use Rattle.rel_lang.specs.Syntax.{Word, Ty, Int, Rgn, Class, Left, Right, Expression, Var, Num, Null, Empty, Alloc, Add, Sub, Mul, Field, Single, Union, Meet, Minus, Image, Filter, Old, Formula, True, False, Eq, Lt, Le, Member, Subset, Not, And, Or, Implies, Every, Exists, RelFormula, RelTrue, RelFalse, OnLeft, OnRight, Both, Agree, AgreeImage, RelNot, RelAnd, RelOr, RelImplies, RelEvery, RelExists, Eventually, Decl}
use Rattle.rel_lang.specs.State.{Tables, ClassField, find_field, Scope, Variable, find_variable}
use Rattle.rel_lang.specs.Truth.{quantified}
use Rattle.rel_lang.specs.Typed.{is_code, is_test}
use Rattle.rel_flaws.specs.Flaws.{Flaws, flawless}

abbrev pub is_among : Word → List Word → Bool
is_among x ys = list_any (λ y. bytes_eq x y) ys

-- ---- types

abbrev pub same_type : Ty → Ty → Bool
same_type Int Int = true
same_type Rgn Rgn = true
same_type (Class c) (Class d) = bytes_eq c d
same_type _ _ = false

abbrev pub is_class_type : Ty → Bool
is_class_type (Class c) = true
is_class_type _ = false

-- the type of an expression: none where its parts don't fit, every class for null, or one
pub data Inferred : Type 0 where
  NoType : Inferred
  AnyClass : Inferred
  Exactly : Ty → Inferred

-- it can stand where this type is needed
abbrev pub fits : Inferred → Ty → Bool
fits NoType t = false
fits AnyClass t = is_class_type t
fits (Exactly u) t = same_type u t

abbrev pub is_reference : Inferred → Bool
is_reference NoType = false
is_reference AnyClass = true
is_reference (Exactly t) = is_class_type t

-- the two can be compared
abbrev pub have_one_type : Inferred → Inferred → Bool
have_one_type NoType j = false
have_one_type AnyClass j = is_reference j
have_one_type (Exactly t) j = fits j t

abbrev pub typed_where : Bool → Ty → Inferred
typed_where holds t = if holds then Exactly t else NoType

abbrev pub type_of_variable : Option Variable → Inferred
type_of_variable None = NoType
type_of_variable (Some v) = Exactly v.ty

-- the field of an object of this type
abbrev pub type_of_field : Option ClassField → Inferred → Inferred
type_of_field None i = NoType
type_of_field (Some d) i = typed_where (fits i (Class d.class)) d.ty

-- an int field has no image
abbrev pub type_of_image : Option ClassField → Inferred → Inferred
type_of_image None i = NoType
type_of_image (Some d) i = typed_where (fits i Rgn && not (same_type d.ty Int)) Rgn

-- ---- `old`

-- `old` stands where it can't (the flag says whether it can here), or inside another one
abbrev pub misplaces_old : Bool → Expression → Bool
misplaces_old old (Var x) = false
misplaces_old old (Num n) = false
misplaces_old old Null = false
misplaces_old old Empty = false
misplaces_old old Alloc = false
misplaces_old old (Add a b) = misplaces_old old a || misplaces_old old b
misplaces_old old (Sub a b) = misplaces_old old a || misplaces_old old b
misplaces_old old (Mul n a) = misplaces_old old a
misplaces_old old (Field a f) = misplaces_old old a
misplaces_old old (Single a) = misplaces_old old a
misplaces_old old (Union a b) = misplaces_old old a || misplaces_old old b
misplaces_old old (Meet a b) = misplaces_old old a || misplaces_old old b
misplaces_old old (Minus a b) = misplaces_old old a || misplaces_old old b
misplaces_old old (Image a f) = misplaces_old old a
misplaces_old old (Filter a c) = misplaces_old old a
misplaces_old old (Old a) = not old || misplaces_old false a

abbrev pub formula_misplaces_old : Bool → Formula → Bool
formula_misplaces_old old True = false
formula_misplaces_old old False = false
formula_misplaces_old old (Eq a b) = misplaces_old old a || misplaces_old old b
formula_misplaces_old old (Lt a b) = misplaces_old old a || misplaces_old old b
formula_misplaces_old old (Le a b) = misplaces_old old a || misplaces_old old b
formula_misplaces_old old (Member a g) = misplaces_old old a || misplaces_old old g
formula_misplaces_old old (Subset g h) = misplaces_old old g || misplaces_old old h
formula_misplaces_old old (Not p) = formula_misplaces_old old p
formula_misplaces_old old (And p q) = formula_misplaces_old old p || formula_misplaces_old old q
formula_misplaces_old old (Or p q) = formula_misplaces_old old p || formula_misplaces_old old q
formula_misplaces_old old (Implies p q) = formula_misplaces_old old p || formula_misplaces_old old q
formula_misplaces_old old (Every x c g p) = misplaces_old old g || formula_misplaces_old old p
formula_misplaces_old old (Exists x c g p) = misplaces_old old g || formula_misplaces_old old p

abbrev pub rel_misplaces_old : Bool → RelFormula → Bool
rel_misplaces_old old RelTrue = false
rel_misplaces_old old RelFalse = false
rel_misplaces_old old (OnLeft p) = formula_misplaces_old old p
rel_misplaces_old old (OnRight p) = formula_misplaces_old old p
rel_misplaces_old old (Both p) = formula_misplaces_old old p
rel_misplaces_old old (Agree a b) = misplaces_old old a || misplaces_old old b
rel_misplaces_old old (AgreeImage g f) = misplaces_old old g
rel_misplaces_old old (RelNot a) = rel_misplaces_old old a
rel_misplaces_old old (RelAnd a b) = rel_misplaces_old old a || rel_misplaces_old old b
rel_misplaces_old old (RelOr a b) = rel_misplaces_old old a || rel_misplaces_old old b
rel_misplaces_old old (RelImplies a b) = rel_misplaces_old old a || rel_misplaces_old old b
rel_misplaces_old old (RelEvery s x c g a) = misplaces_old old g || rel_misplaces_old old a
rel_misplaces_old old (RelExists s x c g a) = misplaces_old old g || rel_misplaces_old old a
rel_misplaces_old old (Eventually a) = rel_misplaces_old old a

-- ---- quantified names

abbrev pub is_in_scope : Word → Scope → Bool
is_in_scope x sc = is_some (find_variable x sc)

-- a quantified name is that of a variable in scope
abbrev pub binds_twice : Scope → Formula → Bool
binds_twice sc (Not p) = binds_twice sc p
binds_twice sc (And p q) = binds_twice sc p || binds_twice sc q
binds_twice sc (Or p q) = binds_twice sc p || binds_twice sc q
binds_twice sc (Implies p q) = binds_twice sc p || binds_twice sc q
binds_twice sc (Every x c g p) = is_in_scope x sc || binds_twice (quantified x c ∷ sc) p
binds_twice sc (Exists x c g p) = is_in_scope x sc || binds_twice (quantified x c ∷ sc) p
binds_twice sc _ = false

abbrev pub rel_binds_twice : Scope → Scope → RelFormula → Bool
rel_binds_twice l r (OnLeft p) = binds_twice l p
rel_binds_twice l r (OnRight p) = binds_twice r p
rel_binds_twice l r (Both p) = binds_twice l p || binds_twice r p
rel_binds_twice l r (RelNot a) = rel_binds_twice l r a
rel_binds_twice l r (RelAnd a b) = rel_binds_twice l r a || rel_binds_twice l r b
rel_binds_twice l r (RelOr a b) = rel_binds_twice l r a || rel_binds_twice l r b
rel_binds_twice l r (RelImplies a b) = rel_binds_twice l r a || rel_binds_twice l r b
rel_binds_twice l r (RelEvery Left x c g a) = is_in_scope x l || rel_binds_twice (quantified x c ∷ l) r a
rel_binds_twice l r (RelEvery Right x c g a) = is_in_scope x r || rel_binds_twice l (quantified x c ∷ r) a
rel_binds_twice l r (RelExists Left x c g a) = is_in_scope x l || rel_binds_twice (quantified x c ∷ l) r a
rel_binds_twice l r (RelExists Right x c g a) = is_in_scope x r || rel_binds_twice l (quantified x c ∷ r) a
rel_binds_twice l r (Eventually a) = rel_binds_twice l r a
rel_binds_twice l r _ = false

module _ (tables : Tables) where
  abbrev pub is_class : Word → Bool
  is_class c = is_among c tables.classes

  abbrev pub is_field : Word → Bool
  is_field f = is_some (find_field tables f)

  abbrev pub names_unknown_class : Ty → Bool
  names_unknown_class (Class c) = not (is_class c)
  names_unknown_class _ = false

  abbrev pub have_unknown_types : List Decl → Bool
  have_unknown_types ds = list_any (λ d. names_unknown_class d.ty) ds

  -- ---- names

  -- a variable, a field or a class that isn't declared
  abbrev pub has_unknown : Scope → Expression → Bool
  has_unknown sc (Var x) = not (is_in_scope x sc)
  has_unknown sc (Num n) = false
  has_unknown sc Null = false
  has_unknown sc Empty = false
  has_unknown sc Alloc = false
  has_unknown sc (Add a b) = has_unknown sc a || has_unknown sc b
  has_unknown sc (Sub a b) = has_unknown sc a || has_unknown sc b
  has_unknown sc (Mul n a) = has_unknown sc a
  has_unknown sc (Field a f) = has_unknown sc a || not (is_field f)
  has_unknown sc (Single a) = has_unknown sc a
  has_unknown sc (Union a b) = has_unknown sc a || has_unknown sc b
  has_unknown sc (Meet a b) = has_unknown sc a || has_unknown sc b
  has_unknown sc (Minus a b) = has_unknown sc a || has_unknown sc b
  has_unknown sc (Image a f) = has_unknown sc a || not (is_field f)
  has_unknown sc (Filter a c) = has_unknown sc a || not (is_class c)
  has_unknown sc (Old a) = has_unknown sc a

  abbrev pub formula_has_unknown : Scope → Formula → Bool
  formula_has_unknown sc True = false
  formula_has_unknown sc False = false
  formula_has_unknown sc (Eq a b) = has_unknown sc a || has_unknown sc b
  formula_has_unknown sc (Lt a b) = has_unknown sc a || has_unknown sc b
  formula_has_unknown sc (Le a b) = has_unknown sc a || has_unknown sc b
  formula_has_unknown sc (Member a g) = has_unknown sc a || has_unknown sc g
  formula_has_unknown sc (Subset g h) = has_unknown sc g || has_unknown sc h
  formula_has_unknown sc (Not p) = formula_has_unknown sc p
  formula_has_unknown sc (And p q) = formula_has_unknown sc p || formula_has_unknown sc q
  formula_has_unknown sc (Or p q) = formula_has_unknown sc p || formula_has_unknown sc q
  formula_has_unknown sc (Implies p q) = formula_has_unknown sc p || formula_has_unknown sc q
  formula_has_unknown sc (Every x c g p) = not (is_class c) || has_unknown sc g || formula_has_unknown (quantified x c ∷ sc) p
  formula_has_unknown sc (Exists x c g p) = not (is_class c) || has_unknown sc g || formula_has_unknown (quantified x c ∷ sc) p

  abbrev pub rel_has_unknown : Scope → Scope → RelFormula → Bool
  rel_has_unknown l r RelTrue = false
  rel_has_unknown l r RelFalse = false
  rel_has_unknown l r (OnLeft p) = formula_has_unknown l p
  rel_has_unknown l r (OnRight p) = formula_has_unknown r p
  rel_has_unknown l r (Both p) = formula_has_unknown l p || formula_has_unknown r p
  rel_has_unknown l r (Agree a b) = has_unknown l a || has_unknown r b
  rel_has_unknown l r (AgreeImage g f) = has_unknown l g || has_unknown r g || not (is_field f)
  rel_has_unknown l r (RelNot a) = rel_has_unknown l r a
  rel_has_unknown l r (RelAnd a b) = rel_has_unknown l r a || rel_has_unknown l r b
  rel_has_unknown l r (RelOr a b) = rel_has_unknown l r a || rel_has_unknown l r b
  rel_has_unknown l r (RelImplies a b) = rel_has_unknown l r a || rel_has_unknown l r b
  rel_has_unknown l r (RelEvery Left x c g a) = not (is_class c) || has_unknown l g || rel_has_unknown (quantified x c ∷ l) r a
  rel_has_unknown l r (RelEvery Right x c g a) = not (is_class c) || has_unknown r g || rel_has_unknown l (quantified x c ∷ r) a
  rel_has_unknown l r (RelExists Left x c g a) = not (is_class c) || has_unknown l g || rel_has_unknown (quantified x c ∷ l) r a
  rel_has_unknown l r (RelExists Right x c g a) = not (is_class c) || has_unknown r g || rel_has_unknown l (quantified x c ∷ r) a
  rel_has_unknown l r (Eventually a) = rel_has_unknown l r a

  -- ---- types of expressions

  abbrev pub infer : Scope → Expression → Inferred
  infer sc (Var x) = type_of_variable (find_variable x sc)
  infer sc (Num n) = Exactly Int
  infer sc Null = AnyClass
  infer sc Empty = Exactly Rgn
  infer sc Alloc = Exactly Rgn
  infer sc (Add a b) = typed_where (fits (infer sc a) Int && fits (infer sc b) Int) Int
  infer sc (Sub a b) = typed_where (fits (infer sc a) Int && fits (infer sc b) Int) Int
  infer sc (Mul n a) = typed_where (fits (infer sc a) Int) Int
  infer sc (Field a f) = type_of_field (find_field tables f) (infer sc a)
  infer sc (Single a) = typed_where (is_reference (infer sc a)) Rgn
  infer sc (Union a b) = typed_where (fits (infer sc a) Rgn && fits (infer sc b) Rgn) Rgn
  infer sc (Meet a b) = typed_where (fits (infer sc a) Rgn && fits (infer sc b) Rgn) Rgn
  infer sc (Minus a b) = typed_where (fits (infer sc a) Rgn && fits (infer sc b) Rgn) Rgn
  infer sc (Image a f) = type_of_image (find_field tables f) (infer sc a)
  infer sc (Filter a c) = typed_where (fits (infer sc a) Rgn) Rgn
  infer sc (Old a) = infer sc a

  -- ---- types of formulas

  abbrev pub is_ill_typed : Scope → Formula → Bool
  is_ill_typed sc True = false
  is_ill_typed sc False = false
  is_ill_typed sc (Eq a b) = not (have_one_type (infer sc a) (infer sc b))
  is_ill_typed sc (Lt a b) = not (fits (infer sc a) Int && fits (infer sc b) Int)
  is_ill_typed sc (Le a b) = not (fits (infer sc a) Int && fits (infer sc b) Int)
  is_ill_typed sc (Member a g) = not (is_reference (infer sc a) && fits (infer sc g) Rgn)
  is_ill_typed sc (Subset g h) = not (fits (infer sc g) Rgn && fits (infer sc h) Rgn)
  is_ill_typed sc (Not p) = is_ill_typed sc p
  is_ill_typed sc (And p q) = is_ill_typed sc p || is_ill_typed sc q
  is_ill_typed sc (Or p q) = is_ill_typed sc p || is_ill_typed sc q
  is_ill_typed sc (Implies p q) = is_ill_typed sc p || is_ill_typed sc q
  is_ill_typed sc (Every x c g p) = not (fits (infer sc g) Rgn) || is_ill_typed (quantified x c ∷ sc) p
  is_ill_typed sc (Exists x c g p) = not (fits (infer sc g) Rgn) || is_ill_typed (quantified x c ∷ sc) p

  abbrev pub rel_is_ill_typed : Scope → Scope → RelFormula → Bool
  rel_is_ill_typed l r RelTrue = false
  rel_is_ill_typed l r RelFalse = false
  rel_is_ill_typed l r (OnLeft p) = is_ill_typed l p
  rel_is_ill_typed l r (OnRight p) = is_ill_typed r p
  rel_is_ill_typed l r (Both p) = is_ill_typed l p || is_ill_typed r p
  rel_is_ill_typed l r (Agree a b) = not (have_one_type (infer l a) (infer r b))
  rel_is_ill_typed l r (AgreeImage g f) = not (fits (infer l g) Rgn && fits (infer r g) Rgn)
  rel_is_ill_typed l r (RelNot a) = rel_is_ill_typed l r a
  rel_is_ill_typed l r (RelAnd a b) = rel_is_ill_typed l r a || rel_is_ill_typed l r b
  rel_is_ill_typed l r (RelOr a b) = rel_is_ill_typed l r a || rel_is_ill_typed l r b
  rel_is_ill_typed l r (RelImplies a b) = rel_is_ill_typed l r a || rel_is_ill_typed l r b
  rel_is_ill_typed l r (RelEvery Left x c g a) = not (fits (infer l g) Rgn) || rel_is_ill_typed (quantified x c ∷ l) r a
  rel_is_ill_typed l r (RelEvery Right x c g a) = not (fits (infer r g) Rgn) || rel_is_ill_typed l (quantified x c ∷ r) a
  rel_is_ill_typed l r (RelExists Left x c g a) = not (fits (infer l g) Rgn) || rel_is_ill_typed (quantified x c ∷ l) r a
  rel_is_ill_typed l r (RelExists Right x c g a) = not (fits (infer r g) Rgn) || rel_is_ill_typed l (quantified x c ∷ r) a
  rel_is_ill_typed l r (Eventually a) = rel_is_ill_typed l r a

  -- ---- flaws

  -- a formula, where `old` can stand or can't
  abbrev pub flaws_of_formula : Bool → Scope → Formula → Flaws
  flaws_of_formula old sc p = record flawless {
    twice = binds_twice sc p;
    unknown = formula_has_unknown sc p;
    old_here = formula_misplaces_old old p;
    wrong_type = is_ill_typed sc p;
  }

  abbrev pub flaws_of_rel : Bool → Scope → Scope → RelFormula → Flaws
  flaws_of_rel old l r a = record flawless {
    twice = rel_binds_twice l r a;
    unknown = rel_has_unknown l r a;
    old_here = rel_misplaces_old old a;
    wrong_type = rel_is_ill_typed l r a;
  }

  abbrev pub flaws_of_test : Scope → Formula → Flaws
  flaws_of_test sc p = record (flaws_of_formula false sc p) { not_code = not (is_test p) }

  -- an expression in code, whatever its type
  abbrev pub flaws_of_code : Scope → Expression → Flaws
  flaws_of_code sc e = record flawless { unknown = has_unknown sc e; old_here = misplaces_old false e; not_code = not (is_code e) }

  -- an expression in code, of this type
  abbrev pub flaws_of_value : Scope → Expression → Ty → Flaws
  flaws_of_value sc e t = record (flaws_of_code sc e) { wrong_type = not (fits (infer sc e) t) }

  -- a region of a boundary or of a writes list
  abbrev pub flaws_of_region : Scope → Expression → Flaws
  flaws_of_region sc g = record flawless { unknown = has_unknown sc g; old_here = misplaces_old false g; wrong_type = not (fits (infer sc g) Rgn) }
