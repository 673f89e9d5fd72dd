use Rattle.std.proofs.Common.{◌∷◌, [], sym, subst}
use Rattle.rel_lang.specs.Lookup.{units_of}
use Rattle.rel_lang.specs.View.{item_of, unit_of}
use Rattle.rel_types.specs.ByName.{Adds}
use Rattle.rel_types.specs.Known.{IsUnitSeen}
use Rattle.rel_types.proofs.Knowing.{adds_one}
use Rattle.rel_types.proofs.by_name.add_unit.Goals as goal

pub returns-in_ok-insert : goal.returns-in_ok-insert
returns-in_ok-insert c =
    subst (λ item. Adds IsUnitSeen (λ u. u.name) c.args.units.now c.insert.new.self (units_of (item_of item ∷ []))) (sym c.in-UnitItem.is)
    (adds_one IsUnitSeen (λ u. u.name) c.args.units.now c.insert.new.self (unit_of c.in-UnitItem.unit) c.as_str.result.now _ c.in_ok-insert.ensures c.as_str.ensures c.in_ok-seen.ensures)
