use Rattle.std.proofs.Common.{◌≡◌, take, map}
use Rattle.rel_lang.proofs.Same.{plain}
use Rattle.rel_lang.proofs.command.+same_commands.Given as goal

abbrev pub invariant-same_commands-loop-i : goal.invariant-same_commands-loop-i
invariant-same_commands-loop-i l = map plain (take l.i l.a) ≡ map plain (take l.i l.b)
