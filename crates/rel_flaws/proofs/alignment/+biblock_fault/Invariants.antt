use Rattle.std.proofs.Common.{◌≡◌, None, take}
use Rattle.rel_lang.specs.View.{bicommand_of}
use Rattle.rel_flaws.specs.Alignments.{bicommand_fault}
use Rattle.rel_flaws.specs.AlignmentView.{sides_of}
use Rattle.rel_flaws.specs.Flaws.{first_in}
use Rattle.rel_flaws.specs.View.{tables_seen, pass_of}
use Rattle.rel_flaws.proofs.alignment.+biblock_fault.Given as goal

abbrev pub invariant-biblock_fault-loop-command : goal.invariant-biblock_fault-loop-command
invariant-biblock_fault-loop-command l = record {
  none : first_in (λ c. bicommand_fault (tables_seen l.tables) (pass_of l.pass) (sides_of l.fn.s) (bicommand_of c)) (take l.command-index l.commands) ≡ None;
  kept : l.s ≡ l.fn.s;
}
