-- The trees that the code's values stand for.
use Rattle.std.specs.Prelude.{List, [], ◌∷◌, map}
use Rattle.rel_lang.specs.declared.expr.Ty as T
use Rattle.rel_lang.specs.declared.expr.Ty.TheVariants as TV
use Rattle.rel_lang.specs.declared.expr.Side as D
use Rattle.rel_lang.specs.declared.expr.Side.TheVariants as DV
use Rattle.rel_lang.specs.declared.expr.Expr.{Expr, fold-Expr}
use Rattle.rel_lang.specs.declared.expr.Expr.TheOpen.{Expr-F}
use Rattle.rel_lang.specs.declared.formula.Formula as P
use Rattle.rel_lang.specs.declared.formula.Formula.TheOpen.{Formula-F}
use Rattle.rel_lang.specs.declared.relation.RelFormula as R
use Rattle.rel_lang.specs.declared.relation.RelFormula.TheOpen.{RelFormula-F}
use Rattle.rel_lang.specs.declared.command.Form as F
use Rattle.rel_lang.specs.declared.command.Form.TheOpen.{Form-F, Command-F}
use Rattle.rel_lang.specs.declared.command.Command as C
use Rattle.rel_lang.specs.declared.biprogram.BiForm as BF
use Rattle.rel_lang.specs.declared.biprogram.BiForm.TheOpen.{BiForm-F, BiCommand-F}
use Rattle.rel_lang.specs.declared.biprogram.BiCommand as BC
use Rattle.rel_lang.specs.declared.biprogram.BiLoop as BL
use Rattle.rel_lang.specs.declared.biprogram.WeaveStep as W
use Rattle.rel_lang.specs.declared.biprogram.Act as A
use Rattle.rel_lang.specs.declared.biprogram.Act.TheVariants as AV
use Rattle.rel_lang.specs.declared.biprogram.Align as L
use Rattle.rel_lang.specs.declared.biprogram.Align.TheVariants as LV
use Rattle.rel_lang.specs.declared.bundle.Decl as B1
use Rattle.rel_lang.specs.declared.bundle.Place as B2
use Rattle.rel_lang.specs.declared.bundle.Effect as E
use Rattle.rel_lang.specs.declared.bundle.Effect.TheVariants as EV
use Rattle.rel_lang.specs.declared.bundle.Clause as K
use Rattle.rel_lang.specs.declared.bundle.RelClause as RK
use Rattle.rel_lang.specs.declared.bundle.Spec as S
use Rattle.rel_lang.specs.declared.bundle.Body as Y
use Rattle.rel_lang.specs.declared.bundle.Proc as Q
use Rattle.rel_lang.specs.declared.bundle.Sig as G
use Rattle.rel_lang.specs.declared.bundle.Class as X
use Rattle.rel_lang.specs.declared.bundle.Interface as N
use Rattle.rel_lang.specs.declared.bundle.Module as M
use Rattle.rel_lang.specs.declared.bundle.UnitItem as U
use Rattle.rel_lang.specs.declared.bundle.Client as V
use Rattle.rel_lang.specs.declared.bundle.Judgement as J
use Rattle.rel_lang.specs.declared.bundle.Pair as O
use Rattle.rel_lang.specs.declared.bundle.Item as I
use Rattle.rel_lang.specs.declared.bundle.Item.TheVariants as IV
use Rattle.rel_lang.specs.declared.bundle.Bundle as BB
use Rattle.rel_lang.specs.Syntax as syntax

-- ---- types, expressions and formulas

abbrev pub type_of : T.Ty → syntax.Ty
type_of TV.Int = syntax.Int
type_of TV.Rgn = syntax.Rgn
type_of (TV.Class c) = syntax.Class c

abbrev pub side_of : D.Side → syntax.Side
side_of DV.Left = syntax.Left
side_of DV.Right = syntax.Right

abbrev pub expression_step : Expr-F syntax.Expression → syntax.Expression
expression_step (Expr-F.Var x) = syntax.Var x
expression_step (Expr-F.Num n) = syntax.Num n
expression_step Expr-F.Null = syntax.Null
expression_step Expr-F.Empty = syntax.Empty
expression_step Expr-F.Alloc = syntax.Alloc
expression_step (Expr-F.Add a b) = syntax.Add a b
expression_step (Expr-F.Sub a b) = syntax.Sub a b
expression_step (Expr-F.Mul n a) = syntax.Mul n a
expression_step (Expr-F.Field a f) = syntax.Field a f
expression_step (Expr-F.Single a) = syntax.Single a
expression_step (Expr-F.Union a b) = syntax.Union a b
expression_step (Expr-F.Meet a b) = syntax.Meet a b
expression_step (Expr-F.Minus a b) = syntax.Minus a b
expression_step (Expr-F.Image a f) = syntax.Image a f
expression_step (Expr-F.Filter a c) = syntax.Filter a c
expression_step (Expr-F.Old a) = syntax.Old a

abbrev pub expression_of : Expr → syntax.Expression
expression_of = fold-Expr syntax.Expression expression_step

abbrev pub formula_step : Formula-F syntax.Formula → syntax.Formula
formula_step Formula-F.True = syntax.True
formula_step Formula-F.False = syntax.False
formula_step (Formula-F.Eq e f) = syntax.Eq (expression_of e) (expression_of f)
formula_step (Formula-F.Lt e f) = syntax.Lt (expression_of e) (expression_of f)
formula_step (Formula-F.Le e f) = syntax.Le (expression_of e) (expression_of f)
formula_step (Formula-F.Member e f) = syntax.Member (expression_of e) (expression_of f)
formula_step (Formula-F.Subset e f) = syntax.Subset (expression_of e) (expression_of f)
formula_step (Formula-F.Not p) = syntax.Not p
formula_step (Formula-F.And p q) = syntax.And p q
formula_step (Formula-F.Or p q) = syntax.Or p q
formula_step (Formula-F.Implies p q) = syntax.Implies p q
formula_step (Formula-F.Every x c e p) = syntax.Every x c (expression_of e) p
formula_step (Formula-F.Exists x c e p) = syntax.Exists x c (expression_of e) p

abbrev pub formula_of : P.Formula → syntax.Formula
formula_of = P.fold-Formula syntax.Formula formula_step

abbrev pub rel_step : RelFormula-F syntax.RelFormula → syntax.RelFormula
rel_step RelFormula-F.True = syntax.RelTrue
rel_step RelFormula-F.False = syntax.RelFalse
rel_step (RelFormula-F.OnLeft p) = syntax.OnLeft (formula_of p)
rel_step (RelFormula-F.OnRight p) = syntax.OnRight (formula_of p)
rel_step (RelFormula-F.Both p) = syntax.Both (formula_of p)
rel_step (RelFormula-F.Agree e f) = syntax.Agree (expression_of e) (expression_of f)
rel_step (RelFormula-F.AgreeImage e f) = syntax.AgreeImage (expression_of e) f
rel_step (RelFormula-F.Not p) = syntax.RelNot p
rel_step (RelFormula-F.And p q) = syntax.RelAnd p q
rel_step (RelFormula-F.Or p q) = syntax.RelOr p q
rel_step (RelFormula-F.Implies p q) = syntax.RelImplies p q
rel_step (RelFormula-F.Every s x c e p) = syntax.RelEvery (side_of s) x c (expression_of e) p
rel_step (RelFormula-F.Exists s x c e p) = syntax.RelExists (side_of s) x c (expression_of e) p
rel_step (RelFormula-F.Eventually p) = syntax.Eventually p

abbrev pub rel_of : R.RelFormula → syntax.RelFormula
rel_of = R.fold-RelFormula syntax.RelFormula rel_step

-- ---- commands

abbrev pub block_from : List syntax.Command → syntax.Block
block_from [] = syntax.End
block_from (c ∷ cs) = syntax.Then c (block_from cs)

abbrev pub form_step : Form-F syntax.Form syntax.Command → syntax.Form
form_step Form-F.Skip = syntax.Skip
form_step (Form-F.Assign x e) = syntax.Assign x (expression_of e)
form_step (Form-F.Load x y f) = syntax.Load x y f
form_step (Form-F.Store y f e) = syntax.Store y f (expression_of e)
form_step (Form-F.New x c) = syntax.New x c
form_step (Form-F.Call x p es) = syntax.Call x p (map expression_of es)
form_step (Form-F.If p a b) = syntax.If (formula_of p) (block_from a) (block_from b)
form_step (Form-F.While p q b) = syntax.While (formula_of p) (formula_of q) (block_from b)

abbrev pub command_step : Command-F syntax.Form syntax.Command → syntax.Command
command_step c = syntax.At c.at c.form

abbrev pub form_of : F.Form → syntax.Form
form_of = F.fold-Form syntax.Form syntax.Command form_step command_step

abbrev pub command_of : C.Command → syntax.Command
command_of = C.fold-Command syntax.Form syntax.Command form_step command_step

abbrev pub block_of : List C.Command → syntax.Block
block_of [] = syntax.End
block_of (c ∷ cs) = syntax.Then (command_of c) (block_of cs)

-- ---- biprograms

abbrev pub biblock_from : List syntax.BiCommand → syntax.BiBlock
biblock_from [] = syntax.BiEnd
biblock_from (c ∷ cs) = syntax.BiThen c (biblock_from cs)

abbrev pub loop_of : BL.BiLoop → syntax.BiLoop
loop_of l = record {
  tests = (formula_of l.tests.0, formula_of l.tests.1);
  invs = (formula_of l.invs.0, formula_of l.invs.1);
  rel = rel_of l.rel;
  guards = (rel_of l.guards.0, rel_of l.guards.1);
}

abbrev pub biform_step : BiForm-F syntax.BiForm syntax.BiCommand → syntax.BiForm
biform_step (BiForm-F.Split a b) = syntax.Split (block_of a) (block_of b)
biform_step (BiForm-F.Sync c) = syntax.Sync (command_of c)
biform_step (BiForm-F.SyncCall c j) = syntax.SyncCall (command_of c) j
biform_step (BiForm-F.If p q a b) = syntax.BiIf (formula_of p) (formula_of q) (biblock_from a) (biblock_from b)
biform_step (BiForm-F.While l b) = syntax.BiWhile (loop_of l) (biblock_from b)
biform_step (BiForm-F.Link x y) = syntax.Link x y
biform_step (BiForm-F.Note r) = syntax.Note (rel_of r)

abbrev pub bicommand_step : BiCommand-F syntax.BiForm syntax.BiCommand → syntax.BiCommand
bicommand_step c = syntax.BiAt c.at c.form

abbrev pub biform_of : BF.BiForm → syntax.BiForm
biform_of = BF.fold-BiForm syntax.BiForm syntax.BiCommand biform_step bicommand_step

abbrev pub bicommand_of : BC.BiCommand → syntax.BiCommand
bicommand_of = BC.fold-BiCommand syntax.BiForm syntax.BiCommand biform_step bicommand_step

abbrev pub biblock_of : List BC.BiCommand → syntax.BiBlock
biblock_of [] = syntax.BiEnd
biblock_of (c ∷ cs) = syntax.BiThen (bicommand_of c) (biblock_of cs)

abbrev pub act_of : A.Act → syntax.Act
act_of (AV.Seq i j) = syntax.ActSeq i j
act_of AV.Sync = syntax.ActSync
act_of (AV.Call j) = syntax.ActCall j
act_of AV.If = syntax.ActIf
act_of (AV.While r m n) = syntax.ActWhile (rel_of r) (rel_of m) (rel_of n)
act_of (AV.Link x y) = syntax.ActLink x y
act_of (AV.Note r) = syntax.ActNote (rel_of r)
act_of AV.Drop = syntax.ActDrop

abbrev pub weave_step_of : W.WeaveStep → syntax.WeaveStep
weave_step_of s = record { at = s.at; place = s.place; act = act_of s.act }

abbrev pub align_of : L.Align → syntax.Align
align_of (LV.Given b) = syntax.Given (biblock_of b)
align_of (LV.Woven ss) = syntax.Woven (map weave_step_of ss)

-- ---- items

abbrev pub decl_of : B1.Decl → syntax.Decl
decl_of d = record { name = d.name; ty = type_of d.ty }

abbrev pub place_of : B2.Place → syntax.Place
place_of p = record { region = expression_of p.region; field = p.field }

abbrev pub effect_of : E.Effect → syntax.Effect
effect_of (EV.Var x) = syntax.Global x
effect_of (EV.At p) = syntax.Locations (place_of p)

abbrev pub clause_of : K.Clause → syntax.Clause
clause_of c = record { at = c.at; formula = formula_of c.formula }

abbrev pub rel_clause_of : RK.RelClause → syntax.RelClause
rel_clause_of c = record { at = c.at; formula = rel_of c.formula }

abbrev pub spec_of : S.Spec → syntax.Spec
spec_of s = record { needs = clause_of s.needs; gives = clause_of s.gives; writes = map effect_of s.writes }

abbrev pub body_of : Y.Body → syntax.Body
body_of b = record { at = b.at; locals = map decl_of b.locals; commands = block_of b.commands }

abbrev pub proc_of : Q.Proc → syntax.Proc
proc_of p = record { at = p.at; name = p.name; params = map decl_of p.params; result = type_of p.result; spec = spec_of p.spec; body = body_of p.body }

abbrev pub sig_of : G.Sig → syntax.Sig
sig_of s = record { at = s.at; name = s.name; params = map decl_of s.params; result = type_of s.result; spec = spec_of s.spec }

abbrev pub class_of : X.Class → syntax.ClassItem
class_of c = record { at = c.at; name = c.name; fields = map decl_of c.fields }

abbrev pub interface_of : N.Interface → syntax.Interface
interface_of i = record {
  at = i.at;
  name = i.name;
  globals = map decl_of i.globals;
  boundary_at = i.boundary_at;
  boundary = map place_of i.boundary;
  init_ensures = clause_of i.init_ensures;
  init_writes = map effect_of i.init_writes;
  methods = map sig_of i.methods;
}

abbrev pub module_of : M.Module → syntax.Module
module_of m = record {
  at = m.at;
  name = m.name;
  interface = m.interface;
  globals = map decl_of m.globals;
  invariant = clause_of m.invariant;
  init = body_of m.init;
  methods = map (λ p. (p.0, body_of p.1)) m.methods;
}

abbrev pub unit_of : U.UnitItem → syntax.UnitItem
unit_of u = record { at = u.at; name = u.name; globals = map decl_of u.globals; procs = map proc_of u.procs }

abbrev pub client_of : V.Client → syntax.Client
client_of c = record { at = c.at; name = c.name; interface = c.interface; globals = map decl_of c.globals; procs = map proc_of c.procs }

abbrev pub judgement_of : J.Judgement → syntax.Judgement
judgement_of j = record {
  at = j.at;
  name = j.name;
  left = (j.left.0, j.left.1);
  right = (j.right.0, j.right.1);
  needs = rel_clause_of j.needs;
  gives = rel_clause_of j.gives;
  align = align_of j.align;
}

abbrev pub pair_of : O.Pair → syntax.ModulePair
pair_of p = record {
  at = p.at;
  name = p.name;
  left = p.left;
  right = p.right;
  coupling = rel_clause_of p.coupling;
  init = (p.init.0, align_of p.init.1);
  methods = map (λ m. (m.0, m.1, align_of m.2)) p.methods;
}

abbrev pub item_of : I.Item → syntax.Item
item_of (IV.Class c) = syntax.OfClass (class_of c)
item_of (IV.Interface i) = syntax.OfInterface (interface_of i)
item_of (IV.Module m) = syntax.OfModule (module_of m)
item_of (IV.UnitItem u) = syntax.OfUnit (unit_of u)
item_of (IV.Client c) = syntax.OfClient (client_of c)
item_of (IV.Judge j) = syntax.OfJudgement (judgement_of j)
item_of (IV.Pair p) = syntax.OfPair (pair_of p)

abbrev pub bundle_of : BB.Bundle → syntax.Bundle
bundle_of b = record { items = map item_of b.items }
