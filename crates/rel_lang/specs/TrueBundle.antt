-- When a bundle is true, and what a yes says of a text.
use Rattle.std.specs.Prelude.{ℕ, List, IsSomeAnd}
use Rattle.std.specs.List.{AllByRecursion}
use Rattle.rel_lang.specs.Syntax.{Item, OfClass, OfInterface, OfModule, OfUnit, OfClient, OfJudgement, OfPair, UnitItem, Bundle}
use Rattle.rel_lang.specs.Text.{StandsFor}
use Rattle.rel_lang.specs.State.{Tables, tables_of}
use Rattle.rel_lang.specs.Lookup.{find_interface, find_module}
use Rattle.rel_lang.specs.Typed.{IsTyped}
use Rattle.rel_lang.specs.Run.{unit_program}
use Rattle.rel_lang.specs.Meets.{Meets, unit_contract}
use Rattle.rel_lang.specs.Judgement.{IsTrueJudgement}
use Rattle.rel_lang.specs.Good.{IsGood}
use Rattle.rel_lang.specs.Respects.{Respects}
use Rattle.rel_lang.specs.Interchange.{AreInterchangeable}

-- each procedure meets its specification
abbrev pub IsTrueUnit : Tables → UnitItem → Type 0
IsTrueUnit tables u = AllByRecursion (λ q. Meets (unit_program tables u) (unit_contract u q) q.body.commands) u.procs

-- Units meet their specifications, judgements are true, modules are good, clients respect their interfaces, and the modules of pairs are interchangeable.
abbrev pub IsTrueItem : Bundle → Item → Type 0
IsTrueItem b (OfClass c) = Unit {0}
IsTrueItem b (OfInterface i) = Unit {0}
IsTrueItem b (OfModule m) = IsSomeAnd (find_interface b m.interface) (λ i. IsGood (tables_of b) i m)
IsTrueItem b (OfUnit u) = IsTrueUnit (tables_of b) u
IsTrueItem b (OfClient c) = IsSomeAnd (find_interface b c.interface) (λ i. Respects (tables_of b) i c)
IsTrueItem b (OfJudgement j) = IsTrueJudgement b j
IsTrueItem b (OfPair p) =
    IsSomeAnd (find_module b p.left) (λ m. IsSomeAnd (find_module b p.right) (λ n. IsSomeAnd (find_interface b m.interface) (λ i.
    AreInterchangeable (tables_of b) i m n)))

pub record IsTrueBundle (b : Bundle) : Type 0 where
  pub typed : IsTyped b
  pub items : AllByRecursion (IsTrueItem b) b.items

-- The text stands for a bundle, and every bundle that it stands for is true.
pub record StandsForTrueBundle (text : List ℕ) : Type 0 where
  pub bundle : Bundle
  pub stands : StandsFor text bundle
  pub true : (b : Bundle) → StandsFor text b → IsTrueBundle b
