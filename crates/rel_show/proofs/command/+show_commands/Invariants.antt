use Rattle.std.proofs.Common.{◌≡◌, ◌++◌, take}
use Rattle.rel_lang.specs.Text.{show_commands}
use Rattle.rel_lang.specs.View.{block_of}
use Rattle.rel_show.specs.Written.{written}
use Rattle.rel_show.proofs.command.+show_commands.Given as goal

abbrev pub invariant-show_commands-loop-command : goal.invariant-show_commands-loop-command
invariant-show_commands-loop-command l =
    l.out.items ≡ l.fn.out.items ++ written (show_commands 1 1 (block_of (take l.command-index l.commands)))
