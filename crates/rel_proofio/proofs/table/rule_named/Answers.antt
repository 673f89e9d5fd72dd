-- The rule is found in the list of what the code's rules stand for.
use Rattle.std.proofs.Common.{ap, option_map, ◌∙◌}
use Rattle.std.specs.Prelude.{bytes_eq, find}
use Rattle.rel_proofio.specs.Table.{rule_of}
use Rattle.rel_proofio.proofs.Found.{found_mapped}
use Rattle.rel_proofio.proofs.table.rule_named.Goals as goal

pub returns : goal.returns
returns c =
    ap (option_map rule_of) c.among.ensures
    ∙ (found_mapped rule_of (λ r. bytes_eq c.args.name.now r.name) c.all_rules.result.now ∙ ap (find (λ r. bytes_eq c.args.name.now r.name)) c.all_rules.ensures)
