use Rattle.std.proofs.Common.{◌∙◌, ap}
use Rattle.rel_top.specs.declared.status.Status.TheVariants.{Yes}
use Rattle.rel_top.proofs.Verdicts.{shown_lines}
use Rattle.rel_top.proofs.show.show_bundle.Goals as goal

pub returns : goal.returns
returns c = ap (λ l. record { status = Yes; lines = l }) (c.in_ok-lines.ensures ∙ shown_lines c.args.bundle.now.items)
