use Rattle.std.proofs.Common.{◌≡◌, take}
use Rattle.rel_lang.proofs.command.+copy_command.Given as goal

abbrev pub invariant-copy_block-loop-command : goal.invariant-copy_block-loop-command
invariant-copy_block-loop-command l = l.copies ≡ take l.command-index l.commands
