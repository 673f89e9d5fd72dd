use Rattle.std.proofs.Common.{sym, ap, ap₂, ◌∙◌}
use Rattle.std.specs.Prelude.{is_none}
use Rattle.rel_flaws.specs.Flaws.{Flaws, flawless, either}
use Rattle.rel_types.specs.Items.{misses_methods}
use Rattle.rel_types.proofs.InModules.{bodies_kept}
use Rattle.rel_types.proofs.modules.flaws_of_place.Goals as goal

pub returns : goal.returns
returns c i given seen =
    c.either.ensures
    ∙ ap₂ either (c.in_ok-globals.ensures i given)
    (c.flaws_of_methods.ensures i seen
    ∙ sym (ap {B = Flaws} (λ names. record flawless { unknown = is_none i; missing = misses_methods i names }) (bodies_kept c.args.item.now.methods)))
