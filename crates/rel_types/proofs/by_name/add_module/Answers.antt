use Rattle.std.proofs.Common.{◌∷◌, [], sym, subst}
use Rattle.rel_lang.specs.Lookup.{modules_of}
use Rattle.rel_lang.specs.View.{item_of, module_of}
use Rattle.rel_types.specs.ByName.{Adds}
use Rattle.rel_types.specs.Known.{IsModuleSeen}
use Rattle.rel_types.proofs.Knowing.{adds_one}
use Rattle.rel_types.proofs.by_name.add_module.Goals as goal

pub returns-in_ok-insert : goal.returns-in_ok-insert
returns-in_ok-insert c =
    subst (λ item. Adds IsModuleSeen (λ m. m.name) c.args.modules.now c.insert.new.self (modules_of (item_of item ∷ []))) (sym c.in-Module.is)
    (adds_one IsModuleSeen (λ m. m.name) c.args.modules.now c.insert.new.self (module_of c.in-Module.found) c.as_str.result.now _ c.in_ok-insert.ensures c.as_str.ensures c.in_ok-seen.ensures)
