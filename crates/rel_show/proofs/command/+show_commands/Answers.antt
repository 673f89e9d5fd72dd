use Rattle.std.proofs.Common.{ap, ◌∙◌, append_assoc, [], ◌∷◌, ◌++◌}
use Rattle.rel_show.proofs.Repetitions.{whole_more}
use Rattle.rel_show.proofs.Commands.{by_command}
use Rattle.rel_show.proofs.command.+show_commands.Goals as goal

pub show_commands-loop-command-preserved : goal.show_commands-loop-command-preserved
show_commands-loop-command-preserved t c =
    whole_more _ _ by_command 1 _ _ _ c.args.commands.now _ c.loop-command.command-index _ (cc) c.loop-command-test.true c.command-item.is c.loop-command.invariant
    (c.in_ok-show_word.ensures ∙ ap (λ s. s ++ 59 ∷ 32 ∷ []) c.in_ok-show_form.ensures ∙ append_assoc _ _ (59 ∷ 32 ∷ []))
