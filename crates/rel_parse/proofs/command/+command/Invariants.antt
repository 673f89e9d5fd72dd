use Rattle.std.proofs.Common.{◌+◌, ◌*◌, ◌-◌, map}
use Rattle.rel_lang.specs.Refusal.{limits}
use Rattle.rel_lang.specs.View.{command_of}
use Rattle.rel_parse.specs.Commands.{begins_command, ended_command_at, many_commands_at, command_at}
use Rattle.rel_parse.proofs.Loop.{SoFar}
use Rattle.rel_parse.proofs.command.+command.Given as goal

abbrev pub decreases-form : goal.decreases-form
decreases-form l = 8 * l.left + 5

abbrev pub decreases-branches : goal.decreases-branches
decreases-branches l = 8 * l.left + 4

abbrev pub decreases-loop_of : goal.decreases-loop_of
decreases-loop_of l = 8 * l.left + 4

abbrev pub decreases-block : goal.decreases-block
decreases-block l = 8 * l.left + 3

abbrev pub decreases-commands : goal.decreases-commands
decreases-commands l = 8 * l.left + 2

abbrev pub decreases-ended_command : goal.decreases-ended_command
decreases-ended_command l = 8 * l.left + 1

abbrev pub decreases-command : goal.decreases-command
decreases-command l = 8 * l.left

abbrev pub invariant-commands-loop : goal.invariant-commands-loop
invariant-commands-loop l = SoFar begins_command (ended_command_at limits.most l.left) (limits.most - l.counter) (map command_of l.read.0) l.read.1.now (many_commands_at limits.most (command_at limits.most l.left) l.tokens)
