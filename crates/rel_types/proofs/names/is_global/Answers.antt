use Rattle.std.proofs.Common.{ap₂, ◌||◌, ◌∙◌}
use Rattle.rel_types.proofs.Owned.{of_global}
use Rattle.rel_types.proofs.names.is_global.Goals as goal

pub returns : goal.returns
returns c = ap₂ (λ a b. a || b) c.has.ensures c.has-2.ensures ∙ of_global c.args.name.now c.args.globals.interface.now c.args.globals.own.now
