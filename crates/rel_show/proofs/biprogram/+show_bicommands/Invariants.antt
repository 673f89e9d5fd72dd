use Rattle.std.proofs.Common.{◌≡◌, ◌++◌, take}
use Rattle.rel_lang.specs.Text.{show_bicommands}
use Rattle.rel_lang.specs.View.{biblock_of}
use Rattle.rel_show.specs.Written.{written}
use Rattle.rel_show.proofs.biprogram.+show_bicommands.Given as goal

abbrev pub invariant-show_bicommands-loop-command : goal.invariant-show_bicommands-loop-command
invariant-show_bicommands-loop-command l =
    l.out.items ≡ l.fn.out.items ++ written (show_bicommands 1 1 (biblock_of (take l.command-index l.commands)))
