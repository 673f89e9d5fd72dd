use Rattle.std.proofs.Common.{◌≡◌, None, take}
use Rattle.rel_lang.specs.View.{command_of}
use Rattle.rel_flaws.specs.Code.{command_fault}
use Rattle.rel_flaws.specs.Flaws.{first_in}
use Rattle.rel_flaws.specs.CodeView.{code_of}
use Rattle.rel_flaws.specs.View.{tables_seen, pass_of}
use Rattle.rel_flaws.proofs.block.+block_fault.Given as goal

abbrev pub invariant-block_fault-loop-command : goal.invariant-block_fault-loop-command
invariant-block_fault-loop-command l = record {
  none : first_in (λ c. command_fault (tables_seen l.tables) (pass_of l.pass) (code_of l.fn.code) (command_of c)) (take l.command-index l.commands) ≡ None;
  kept : l.code ≡ l.fn.code;
}
