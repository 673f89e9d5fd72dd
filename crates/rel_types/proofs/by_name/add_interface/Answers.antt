use Rattle.std.proofs.Common.{◌∷◌, [], sym, subst}
use Rattle.rel_lang.specs.Lookup.{interfaces_of}
use Rattle.rel_lang.specs.View.{item_of, interface_of}
use Rattle.rel_types.specs.ByName.{Adds}
use Rattle.rel_types.specs.Known.{IsInterfaceSeen}
use Rattle.rel_types.proofs.Knowing.{adds_one}
use Rattle.rel_types.proofs.by_name.add_interface.Goals as goal

pub returns-in_ok-insert : goal.returns-in_ok-insert
returns-in_ok-insert c =
    subst (λ item. Adds IsInterfaceSeen (λ i. i.name) c.args.interfaces.now c.insert.new.self (interfaces_of (item_of item ∷ []))) (sym c.in-Interface.is)
    (adds_one IsInterfaceSeen (λ i. i.name) c.args.interfaces.now c.insert.new.self (interface_of c.in-Interface.interface) c.as_str.result.now _ c.in_ok-insert.ensures c.as_str.ensures c.in_ok-seen.ensures)
