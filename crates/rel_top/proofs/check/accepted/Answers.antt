use Rattle.std.proofs.Common.{ap}
use Rattle.rel_top.specs.declared.status.Status.TheVariants.{Yes}
use Rattle.rel_top.proofs.Verdicts.{accepted_lines}
use Rattle.rel_top.proofs.check.accepted.Goals as goal

pub returns : goal.returns
returns c =
    accepted_lines c.args.bundle.now c.at.result.now c.at-2.result.now c.at-3.result.now _ c.requires c.at.ensures c.at-2.ensures c.at-3.ensures
    (ap (λ l. record { status = Yes; lines = l }) c.in_ok-lines.ensures)
