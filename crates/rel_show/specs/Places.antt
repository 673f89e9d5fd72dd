-- Bundles that are equal but for the places of their trees, and tokens that say what some marks do.
use Rattle.std.specs.Prelude.{ℕ, map}
use Rattle.rel_lang.specs.Syntax.{Word, BiCommand, BiAt, BiForm, Split, Sync, SyncCall, BiIf, BiWhile, BiBlock, BiEnd, BiThen, command_without_at, without_at, WeaveStep, Align, Given, Woven, Clause, RelClause, Spec, Body, Proc, Sig, ClassItem, Interface, Module, UnitItem, Client, Judgement, ModulePair, Item, OfClass, OfInterface, OfModule, OfUnit, OfClient, OfJudgement, OfPair, Bundle}

-- ---- the trees with 0 at each `at`

abbrev mutual
  pub biform_without_at : BiForm → BiForm
  biform_without_at (Split a b) = Split (without_at a) (without_at b)
  biform_without_at (Sync c) = Sync (command_without_at c)
  biform_without_at (SyncCall c j) = SyncCall (command_without_at c) j
  biform_without_at (BiIf p q a b) = BiIf p q (biblock_without_at a) (biblock_without_at b)
  biform_without_at (BiWhile l b) = BiWhile l (biblock_without_at b)
  biform_without_at f = f

  pub bicommand_without_at : BiCommand → BiCommand
  bicommand_without_at (BiAt at f) = BiAt 0 (biform_without_at f)

  pub biblock_without_at : BiBlock → BiBlock
  biblock_without_at BiEnd = BiEnd
  biblock_without_at (BiThen c cs) = BiThen (bicommand_without_at c) (biblock_without_at cs)

abbrev pub step_without_at : WeaveStep → WeaveStep
step_without_at s = record s { at = 0 }

abbrev pub align_without_at : Align → Align
align_without_at (Given b) = Given (biblock_without_at b)
align_without_at (Woven ss) = Woven (map step_without_at ss)

abbrev pub clause_without_at : Clause → Clause
clause_without_at c = record c { at = 0 }

abbrev pub rel_clause_without_at : RelClause → RelClause
rel_clause_without_at c = record c { at = 0 }

abbrev pub spec_without_at : Spec → Spec
spec_without_at s = record s { needs = clause_without_at s.needs; gives = clause_without_at s.gives }

abbrev pub body_without_at : Body → Body
body_without_at b = record b { at = 0; commands = without_at b.commands }

abbrev pub proc_without_at : Proc → Proc
proc_without_at p = record p { at = 0; spec = spec_without_at p.spec; body = body_without_at p.body }

abbrev pub sig_without_at : Sig → Sig
sig_without_at s = record s { at = 0; spec = spec_without_at s.spec }

abbrev pub class_without_at : ClassItem → ClassItem
class_without_at c = record c { at = 0 }

abbrev pub interface_without_at : Interface → Interface
interface_without_at i = record i { at = 0; boundary_at = 0; init_ensures = clause_without_at i.init_ensures; methods = map sig_without_at i.methods }

abbrev pub method_without_at : Word × Body → Word × Body
method_without_at m = (m.0, body_without_at m.1)

abbrev pub module_without_at : Module → Module
module_without_at m = record m { at = 0; invariant = clause_without_at m.invariant; init = body_without_at m.init; methods = map method_without_at m.methods }

abbrev pub unit_without_at : UnitItem → UnitItem
unit_without_at u = record u { at = 0; procs = map proc_without_at u.procs }

abbrev pub client_without_at : Client → Client
client_without_at c = record c { at = 0; procs = map proc_without_at c.procs }

abbrev pub judgement_without_at : Judgement → Judgement
judgement_without_at j = record j { at = 0; needs = rel_clause_without_at j.needs; gives = rel_clause_without_at j.gives; align = align_without_at j.align }

abbrev pub pair_init_without_at : ℕ × Align → ℕ × Align
pair_init_without_at i = (0, align_without_at i.1)

abbrev pub pair_method_without_at : ℕ × Word × Align → ℕ × Word × Align
pair_method_without_at m = (0, m.1, align_without_at m.2)

abbrev pub pair_without_at : ModulePair → ModulePair
pair_without_at p = record p { at = 0; coupling = rel_clause_without_at p.coupling; init = pair_init_without_at p.init; methods = map pair_method_without_at p.methods }

abbrev pub item_without_at : Item → Item
item_without_at (OfClass c) = OfClass (class_without_at c)
item_without_at (OfInterface i) = OfInterface (interface_without_at i)
item_without_at (OfModule m) = OfModule (module_without_at m)
item_without_at (OfUnit u) = OfUnit (unit_without_at u)
item_without_at (OfClient c) = OfClient (client_without_at c)
item_without_at (OfJudgement j) = OfJudgement (judgement_without_at j)
item_without_at (OfPair p) = OfPair (pair_without_at p)

abbrev pub bundle_without_places : Bundle → Bundle
bundle_without_places b = record { items = map item_without_at b.items }
