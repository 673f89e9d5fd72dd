-- Expressions, formulas and code have the same wrong where the tables know the same classes and fields.
use Rattle.std.proofs.Common.{◌≡◌, Bool, true, false, not, ◌&&◌, ◌||◌, ◌==◌, List, [], ◌∷◌, length, Option, Some, None, refl, ap, ap₂, ◌∙◌}
use Rattle.std.specs.Prelude.{bytes_eq, is_some}
use Rattle.rel_lang.specs.Syntax.{Word, Ty, Int, Rgn, Class, Left, Right, Expression, Var, Num, Null, Empty, Alloc, Add, Sub, Mul, Field, Single, Union, Meet, Minus, Image, Filter, Old, Formula, True, False, Eq, Lt, Le, Member, Subset, Not, And, Or, Implies, Every, Exists, RelFormula, RelTrue, RelFalse, OnLeft, OnRight, Both, Agree, AgreeImage, RelNot, RelAnd, RelOr, RelImplies, RelEvery, RelExists, Eventually, Command, At, Form, Skip, Assign, Load, Store, New, Call, If, While, Block, End, Then, Decl, BiLoop, BiCommand, BiAt, BiForm, Split, Sync, SyncCall, BiIf, BiWhile, Link, Note, BiBlock, BiEnd, BiThen, Act, ActSeq, ActSync, ActCall, ActIf, ActWhile, ActLink, ActNote, ActDrop, Align, Given, Woven}
use Rattle.rel_lang.specs.State.{Tables, ClassField, find_field, Scope}
use Rattle.rel_lang.specs.Truth.{quantified}
use Rattle.rel_lang.specs.Lookup.{main_name}
use Rattle.rel_lang.specs.Typed.{Signature, is_code, is_test}
use Rattle.rel_flaws.specs.Flaws.{Flaws, flawless, either, Pass, fault_at, first_of}
use Rattle.rel_flaws.specs.Inference.{Exactly, fits, is_reference, have_one_type, typed_where, type_of_field, type_of_image, misplaces_old, is_class, is_field, has_unknown, formula_has_unknown, rel_has_unknown, infer, is_ill_typed, rel_is_ill_typed, flaws_of_formula, flaws_of_rel, flaws_of_test, flaws_of_code, flaws_of_value, flaws_of_region}
use Rattle.rel_flaws.specs.Code.{Code, find_callee, unknown_where, flaws_of_target, flaws_of_reference, flaws_of_arguments, flaws_of_load, flaws_of_store, flaws_of_call, flaws_of_form, command_fault, inner_fault, block_fault}
use Rattle.rel_flaws.specs.Alignments.{Sides, flaws_of_relation, flaws_of_tests, flaws_of_loop, flaws_of_biform, flaws_of_act, joint_fault, bicommand_fault, inner_bifault, biblock_fault, step_fault, align_fault}
use Rattle.rel_types.specs.Lookups.{SameTables}
use Rattle.rel_types.proofs.Knowledge.{first_in_same}

module _ (t u : Tables) (k : SameTables t u) where
  -- ---- expressions

  pub field_with : (f : Word) → is_field t f ≡ is_field u f
  field_with f = ap is_some (k.fields f)

  pub unknown_with : (sc : Scope) (e : Expression) → has_unknown t sc e ≡ has_unknown u sc e
  unknown_with sc (Var x) = refl
  unknown_with sc (Num n) = refl
  unknown_with sc Null = refl
  unknown_with sc Empty = refl
  unknown_with sc Alloc = refl
  unknown_with sc (Add a b) = ap₂ (λ x y. x || y) (unknown_with sc a) (unknown_with sc b)
  unknown_with sc (Sub a b) = ap₂ (λ x y. x || y) (unknown_with sc a) (unknown_with sc b)
  unknown_with sc (Mul n a) = unknown_with sc a
  unknown_with sc (Field a f) = ap₂ (λ x y. x || not y) (unknown_with sc a) (field_with f)
  unknown_with sc (Single a) = unknown_with sc a
  unknown_with sc (Union a b) = ap₂ (λ x y. x || y) (unknown_with sc a) (unknown_with sc b)
  unknown_with sc (Meet a b) = ap₂ (λ x y. x || y) (unknown_with sc a) (unknown_with sc b)
  unknown_with sc (Minus a b) = ap₂ (λ x y. x || y) (unknown_with sc a) (unknown_with sc b)
  unknown_with sc (Image a f) = ap₂ (λ x y. x || not y) (unknown_with sc a) (field_with f)
  unknown_with sc (Filter a c) = ap₂ (λ x y. x || not y) (unknown_with sc a) (k.classes c)
  unknown_with sc (Old a) = unknown_with sc a

  pub infer_with : (sc : Scope) (e : Expression) → infer t sc e ≡ infer u sc e
  infer_with sc (Var x) = refl
  infer_with sc (Num n) = refl
  infer_with sc Null = refl
  infer_with sc Empty = refl
  infer_with sc Alloc = refl
  infer_with sc (Add a b) = ap₂ (λ i j. typed_where (fits i Int && fits j Int) Int) (infer_with sc a) (infer_with sc b)
  infer_with sc (Sub a b) = ap₂ (λ i j. typed_where (fits i Int && fits j Int) Int) (infer_with sc a) (infer_with sc b)
  infer_with sc (Mul n a) = ap (λ i. typed_where (fits i Int) Int) (infer_with sc a)
  infer_with sc (Field a f) = ap₂ type_of_field (k.fields f) (infer_with sc a)
  infer_with sc (Single a) = ap (λ i. typed_where (is_reference i) Rgn) (infer_with sc a)
  infer_with sc (Union a b) = ap₂ (λ i j. typed_where (fits i Rgn && fits j Rgn) Rgn) (infer_with sc a) (infer_with sc b)
  infer_with sc (Meet a b) = ap₂ (λ i j. typed_where (fits i Rgn && fits j Rgn) Rgn) (infer_with sc a) (infer_with sc b)
  infer_with sc (Minus a b) = ap₂ (λ i j. typed_where (fits i Rgn && fits j Rgn) Rgn) (infer_with sc a) (infer_with sc b)
  infer_with sc (Image a f) = ap₂ type_of_image (k.fields f) (infer_with sc a)
  infer_with sc (Filter a c) = ap (λ i. typed_where (fits i Rgn) Rgn) (infer_with sc a)
  infer_with sc (Old a) = infer_with sc a

  -- ---- formulas

  -- the class and the region of a quantifier
  binder_with : (sc : Scope) (c : Word) (g : Expression) → (not (is_class t c) || has_unknown t sc g) ≡ (not (is_class u c) || has_unknown u sc g)
  binder_with sc c g = ap₂ (λ x y. not x || y) (k.classes c) (unknown_with sc g)

  formula_unknown_with : (sc : Scope) (p : Formula) → formula_has_unknown t sc p ≡ formula_has_unknown u sc p
  formula_unknown_with sc True = refl
  formula_unknown_with sc False = refl
  formula_unknown_with sc (Eq a b) = ap₂ (λ x y. x || y) (unknown_with sc a) (unknown_with sc b)
  formula_unknown_with sc (Lt a b) = ap₂ (λ x y. x || y) (unknown_with sc a) (unknown_with sc b)
  formula_unknown_with sc (Le a b) = ap₂ (λ x y. x || y) (unknown_with sc a) (unknown_with sc b)
  formula_unknown_with sc (Member a b) = ap₂ (λ x y. x || y) (unknown_with sc a) (unknown_with sc b)
  formula_unknown_with sc (Subset a b) = ap₂ (λ x y. x || y) (unknown_with sc a) (unknown_with sc b)
  formula_unknown_with sc (Not p) = formula_unknown_with sc p
  formula_unknown_with sc (And p q) = ap₂ (λ x y. x || y) (formula_unknown_with sc p) (formula_unknown_with sc q)
  formula_unknown_with sc (Or p q) = ap₂ (λ x y. x || y) (formula_unknown_with sc p) (formula_unknown_with sc q)
  formula_unknown_with sc (Implies p q) = ap₂ (λ x y. x || y) (formula_unknown_with sc p) (formula_unknown_with sc q)
  formula_unknown_with sc (Every x c g p) = ap₂ (λ x y. x || y) (binder_with sc c g) (formula_unknown_with (quantified x c ∷ sc) p)
  formula_unknown_with sc (Exists x c g p) = ap₂ (λ x y. x || y) (binder_with sc c g) (formula_unknown_with (quantified x c ∷ sc) p)

  ill_typed_with : (sc : Scope) (p : Formula) → is_ill_typed t sc p ≡ is_ill_typed u sc p
  ill_typed_with sc True = refl
  ill_typed_with sc False = refl
  ill_typed_with sc (Eq a b) = ap₂ (λ i j. not (have_one_type i j)) (infer_with sc a) (infer_with sc b)
  ill_typed_with sc (Lt a b) = ap₂ (λ i j. not (fits i Int && fits j Int)) (infer_with sc a) (infer_with sc b)
  ill_typed_with sc (Le a b) = ap₂ (λ i j. not (fits i Int && fits j Int)) (infer_with sc a) (infer_with sc b)
  ill_typed_with sc (Member a b) = ap₂ (λ i j. not (is_reference i && fits j Rgn)) (infer_with sc a) (infer_with sc b)
  ill_typed_with sc (Subset a b) = ap₂ (λ i j. not (fits i Rgn && fits j Rgn)) (infer_with sc a) (infer_with sc b)
  ill_typed_with sc (Not p) = ill_typed_with sc p
  ill_typed_with sc (And p q) = ap₂ (λ x y. x || y) (ill_typed_with sc p) (ill_typed_with sc q)
  ill_typed_with sc (Or p q) = ap₂ (λ x y. x || y) (ill_typed_with sc p) (ill_typed_with sc q)
  ill_typed_with sc (Implies p q) = ap₂ (λ x y. x || y) (ill_typed_with sc p) (ill_typed_with sc q)
  ill_typed_with sc (Every x c g p) = ap₂ (λ i y. not (fits i Rgn) || y) (infer_with sc g) (ill_typed_with (quantified x c ∷ sc) p)
  ill_typed_with sc (Exists x c g p) = ap₂ (λ i y. not (fits i Rgn) || y) (infer_with sc g) (ill_typed_with (quantified x c ∷ sc) p)

  pub formula_with : (old : Bool) (sc : Scope) (p : Formula) → flaws_of_formula t old sc p ≡ flaws_of_formula u old sc p
  formula_with old sc p = rw (formula_unknown_with sc p, ill_typed_with sc p) refl

  pub test_with : (sc : Scope) (p : Formula) → flaws_of_test t sc p ≡ flaws_of_test u sc p
  test_with sc p = ap {A = Flaws} (λ f. record f { not_code = not (is_test p) }) (formula_with false sc p)

  pub code_with : (sc : Scope) (e : Expression) → flaws_of_code t sc e ≡ flaws_of_code u sc e
  code_with sc e = ap (λ b. record flawless { unknown = b; old_here = misplaces_old false e; not_code = not (is_code e) }) (unknown_with sc e)

  pub value_with : (sc : Scope) (e : Expression) (y : Ty) → flaws_of_value t sc e y ≡ flaws_of_value u sc e y
  value_with sc e y = ap₂ {A = Flaws} (λ f i. record f { wrong_type = not (fits i y) }) (code_with sc e) (infer_with sc e)

  pub region_with : (sc : Scope) (g : Expression) → flaws_of_region t sc g ≡ flaws_of_region u sc g
  region_with sc g =
      ap₂ (λ b i. record flawless { unknown = b; old_here = misplaces_old false g; wrong_type = not (fits i Rgn) }) (unknown_with sc g) (infer_with sc g)

  -- ---- relational formulas

  rel_unknown_with : (l r : Scope) (a : RelFormula) → rel_has_unknown t l r a ≡ rel_has_unknown u l r a
  rel_unknown_with l r RelTrue = refl
  rel_unknown_with l r RelFalse = refl
  rel_unknown_with l r (OnLeft p) = formula_unknown_with l p
  rel_unknown_with l r (OnRight p) = formula_unknown_with r p
  rel_unknown_with l r (Both p) = ap₂ (λ x y. x || y) (formula_unknown_with l p) (formula_unknown_with r p)
  rel_unknown_with l r (Agree a b) = ap₂ (λ x y. x || y) (unknown_with l a) (unknown_with r b)
  rel_unknown_with l r (AgreeImage g f) = ap₂ (λ x y. x || not y) (ap₂ (λ x y. x || y) (unknown_with l g) (unknown_with r g)) (field_with f)
  rel_unknown_with l r (RelNot a) = rel_unknown_with l r a
  rel_unknown_with l r (RelAnd a b) = ap₂ (λ x y. x || y) (rel_unknown_with l r a) (rel_unknown_with l r b)
  rel_unknown_with l r (RelOr a b) = ap₂ (λ x y. x || y) (rel_unknown_with l r a) (rel_unknown_with l r b)
  rel_unknown_with l r (RelImplies a b) = ap₂ (λ x y. x || y) (rel_unknown_with l r a) (rel_unknown_with l r b)
  rel_unknown_with l r (RelEvery Left x c g a) = ap₂ (λ x y. x || y) (binder_with l c g) (rel_unknown_with (quantified x c ∷ l) r a)
  rel_unknown_with l r (RelEvery Right x c g a) = ap₂ (λ x y. x || y) (binder_with r c g) (rel_unknown_with l (quantified x c ∷ r) a)
  rel_unknown_with l r (RelExists Left x c g a) = ap₂ (λ x y. x || y) (binder_with l c g) (rel_unknown_with (quantified x c ∷ l) r a)
  rel_unknown_with l r (RelExists Right x c g a) = ap₂ (λ x y. x || y) (binder_with r c g) (rel_unknown_with l (quantified x c ∷ r) a)
  rel_unknown_with l r (Eventually a) = rel_unknown_with l r a

  rel_ill_typed_with : (l r : Scope) (a : RelFormula) → rel_is_ill_typed t l r a ≡ rel_is_ill_typed u l r a
  rel_ill_typed_with l r RelTrue = refl
  rel_ill_typed_with l r RelFalse = refl
  rel_ill_typed_with l r (OnLeft p) = ill_typed_with l p
  rel_ill_typed_with l r (OnRight p) = ill_typed_with r p
  rel_ill_typed_with l r (Both p) = ap₂ (λ x y. x || y) (ill_typed_with l p) (ill_typed_with r p)
  rel_ill_typed_with l r (Agree a b) = ap₂ (λ i j. not (have_one_type i j)) (infer_with l a) (infer_with r b)
  rel_ill_typed_with l r (AgreeImage g f) = ap₂ (λ i j. not (fits i Rgn && fits j Rgn)) (infer_with l g) (infer_with r g)
  rel_ill_typed_with l r (RelNot a) = rel_ill_typed_with l r a
  rel_ill_typed_with l r (RelAnd a b) = ap₂ (λ x y. x || y) (rel_ill_typed_with l r a) (rel_ill_typed_with l r b)
  rel_ill_typed_with l r (RelOr a b) = ap₂ (λ x y. x || y) (rel_ill_typed_with l r a) (rel_ill_typed_with l r b)
  rel_ill_typed_with l r (RelImplies a b) = ap₂ (λ x y. x || y) (rel_ill_typed_with l r a) (rel_ill_typed_with l r b)
  rel_ill_typed_with l r (RelEvery Left x c g a) = ap₂ (λ i y. not (fits i Rgn) || y) (infer_with l g) (rel_ill_typed_with (quantified x c ∷ l) r a)
  rel_ill_typed_with l r (RelEvery Right x c g a) = ap₂ (λ i y. not (fits i Rgn) || y) (infer_with r g) (rel_ill_typed_with l (quantified x c ∷ r) a)
  rel_ill_typed_with l r (RelExists Left x c g a) = ap₂ (λ i y. not (fits i Rgn) || y) (infer_with l g) (rel_ill_typed_with (quantified x c ∷ l) r a)
  rel_ill_typed_with l r (RelExists Right x c g a) = ap₂ (λ i y. not (fits i Rgn) || y) (infer_with r g) (rel_ill_typed_with l (quantified x c ∷ r) a)
  rel_ill_typed_with l r (Eventually a) = rel_ill_typed_with l r a

  pub rel_with : (old : Bool) (l r : Scope) (a : RelFormula) → flaws_of_rel t old l r a ≡ flaws_of_rel u old l r a
  rel_with old l r a = rw (rel_unknown_with l r a, rel_ill_typed_with l r a) refl

  -- ---- commands

  arguments_with : (sc : Scope) (es : List Expression) (ds : List Decl) → flaws_of_arguments t sc es ds ≡ flaws_of_arguments u sc es ds
  arguments_with sc [] ds = refl
  arguments_with sc (e ∷ es) [] = ap₂ either (code_with sc e) (arguments_with sc es [])
  arguments_with sc (e ∷ es) (d ∷ ds) = ap₂ either (value_with sc e d.ty) (arguments_with sc es ds)

  load_with : (sc : Scope) (x y : Word) (o : Option ClassField) → flaws_of_load t sc x y o ≡ flaws_of_load u sc x y o
  load_with sc x y None = refl
  load_with sc x y (Some d) = refl

  store_with : (sc : Scope) (y : Word) (e : Expression) (o : Option ClassField) → flaws_of_store t sc y e o ≡ flaws_of_store u sc y e o
  store_with sc y e None = refl
  store_with sc y e (Some d) = ap (either (flaws_of_reference sc y d.class)) (value_with sc e d.ty)

  call_with : (c : Code) (x p : Word) (es : List Expression) (o : Option Signature) → flaws_of_call t c x p es o ≡ flaws_of_call u c x p es o
  call_with c x p es None = refl
  call_with c x p es (Some q) =
      ap (λ f. either (record flawless { not_visible = not c.may_call || bytes_eq p main_name; wrong_arity = not (length es == length q.params) })
      (either (flaws_of_target c.scope x (Exactly q.result)) f)) (arguments_with c.scope es q.params)

  pub form_with : (c : Code) (f : Form) → flaws_of_form t c f ≡ flaws_of_form u c f
  form_with c Skip = refl
  form_with c (Assign x e) = ap₂ (λ i f. either (flaws_of_target c.scope x i) f) (infer_with c.scope e) (code_with c.scope e)
  form_with c (Load x y f) = load_with c.scope x y (find_field t f) ∙ ap (flaws_of_load u c.scope x y) (k.fields f)
  form_with c (Store y f e) = store_with c.scope y e (find_field t f) ∙ ap (flaws_of_store u c.scope y e) (k.fields f)
  form_with c (New x d) = ap (λ b. either (unknown_where (not b)) (flaws_of_target c.scope x (Exactly (Class d)))) (k.classes d)
  form_with c (Call x p es) = call_with c x p es (find_callee p c)
  form_with c (If p a b) = test_with c.scope p
  form_with c (While p q b) = ap₂ either (test_with c.scope p) (formula_with true c.scope q)

  mutual
    command_with : (pass : Pass) (c : Code) (d : Command) → command_fault t pass c d ≡ command_fault u pass c d
    command_with pass c (At at f) = ap₂ first_of (ap (fault_at pass at) (form_with c f)) (inner_with pass c f)

    pub inner_with : (pass : Pass) (c : Code) (f : Form) → inner_fault t pass c f ≡ inner_fault u pass c f
    inner_with pass c Skip = refl
    inner_with pass c (Assign x e) = refl
    inner_with pass c (Load x y f) = refl
    inner_with pass c (Store y f e) = refl
    inner_with pass c (New x d) = refl
    inner_with pass c (Call x p es) = refl
    inner_with pass c (If p a b) = ap₂ first_of (block_with pass c a) (block_with pass c b)
    inner_with pass c (While p q b) = block_with pass c b

    pub block_with : (pass : Pass) (c : Code) (b : Block) → block_fault t pass c b ≡ block_fault u pass c b
    block_with pass c End = refl
    block_with pass c (Then d ds) = ap₂ first_of (command_with pass c d) (block_with pass c ds)

  -- ---- bicommands

  relation_with : (s : Sides) (a : RelFormula) → flaws_of_relation t s a ≡ flaws_of_relation u s a
  relation_with s a = rel_with true s.left.scope s.right.scope a

  tests_with : (s : Sides) (p q : Formula) → flaws_of_tests t s p q ≡ flaws_of_tests u s p q
  tests_with s p q = ap₂ either (test_with s.left.scope p) (test_with s.right.scope q)

  loop_with : (s : Sides) (l : BiLoop) → flaws_of_loop t s l ≡ flaws_of_loop u s l
  loop_with s l =
      ap₂ either (tests_with s l.tests.0 l.tests.1)
      (ap₂ either (ap₂ either (formula_with true s.left.scope l.invs.0) (formula_with true s.right.scope l.invs.1))
      (ap₂ either (relation_with s l.rel) (ap₂ either (relation_with s l.guards.0) (relation_with s l.guards.1))))

  biform_with : (s : Sides) (f : BiForm) → flaws_of_biform t s f ≡ flaws_of_biform u s f
  biform_with s (Split a b) = refl
  biform_with s (Sync c) = refl
  biform_with s (SyncCall c j) = refl
  biform_with s (BiIf p q a b) = tests_with s p q
  biform_with s (BiWhile l b) = loop_with s l
  biform_with s (Link x y) = refl
  biform_with s (Note a) = relation_with s a

  joint_with : (pass : Pass) (s : Sides) (c : Command) → joint_fault t pass s c ≡ joint_fault u pass s c
  joint_with pass s (At at f) =
      ap₂ first_of (ap (fault_at pass at) (ap₂ either (form_with s.left f) (form_with s.right f)))
      (ap₂ first_of (inner_with pass s.left f) (inner_with pass s.right f))

  mutual
    bicommand_with : (pass : Pass) (s : Sides) (c : BiCommand) → bicommand_fault t pass s c ≡ bicommand_fault u pass s c
    bicommand_with pass s (BiAt at f) = ap₂ first_of (ap (fault_at pass at) (biform_with s f)) (inner_biwith pass s f)

    inner_biwith : (pass : Pass) (s : Sides) (f : BiForm) → inner_bifault t pass s f ≡ inner_bifault u pass s f
    inner_biwith pass s (Split a b) = ap₂ first_of (block_with pass s.left a) (block_with pass s.right b)
    inner_biwith pass s (Sync c) = joint_with pass s c
    inner_biwith pass s (SyncCall c j) = joint_with pass s c
    inner_biwith pass s (BiIf p q a b) = ap₂ first_of (biblock_with pass s a) (biblock_with pass s b)
    inner_biwith pass s (BiWhile l b) = biblock_with pass s b
    inner_biwith pass s (Link x y) = refl
    inner_biwith pass s (Note a) = refl

    biblock_with : (pass : Pass) (s : Sides) (b : BiBlock) → biblock_fault t pass s b ≡ biblock_fault u pass s b
    biblock_with pass s BiEnd = refl
    biblock_with pass s (BiThen c cs) = ap₂ first_of (bicommand_with pass s c) (biblock_with pass s cs)

  -- ---- weavings

  act_with : (s : Sides) (a : Act) → flaws_of_act t s a ≡ flaws_of_act u s a
  act_with s (ActSeq m n) = refl
  act_with s ActSync = refl
  act_with s (ActCall j) = refl
  act_with s ActIf = refl
  act_with s (ActWhile a m n) = ap₂ either (relation_with s a) (ap₂ either (relation_with s m) (relation_with s n))
  act_with s (ActLink x y) = refl
  act_with s (ActNote a) = relation_with s a
  act_with s ActDrop = refl

  pub align_with : (pass : Pass) (s : Sides) (a : Align) → align_fault t pass s a ≡ align_fault u pass s a
  align_with pass s (Given b) = biblock_with pass s b
  align_with pass s (Woven ts) = first_in_same (step_fault t pass s) (step_fault u pass s) (λ w. ap (fault_at pass w.at) (act_with s w.act)) ts
