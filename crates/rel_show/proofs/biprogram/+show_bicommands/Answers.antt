use Rattle.std.proofs.Common.{ap, ◌∙◌, append_assoc, [], ◌∷◌, ◌++◌}
use Rattle.std.proofs.lemmas.Result.{IfOk-equal}
use Rattle.rel_lang.specs.Text.{show_loop, show_biblock}
use Rattle.rel_lang.specs.View.{loop_of, biblock_of}
use Rattle.rel_show.proofs.Writing.{joined_last}
use Rattle.rel_show.proofs.Repetitions.{whole_more}
use Rattle.rel_show.proofs.Biprograms.{by_bicommand, written_while}
use Rattle.rel_show.proofs.biprogram.+show_bicommands.Goals as goal

pub show_bicommands-loop-command-preserved : goal.show_bicommands-loop-command-preserved
show_bicommands-loop-command-preserved t c =
    whole_more _ _ by_bicommand 1 _ _ _ c.args.commands.now _ c.loop-command.command-index _ (cc) c.loop-command-test.true c.command-item.is c.loop-command.invariant
    (c.in_ok-show_word.ensures ∙ ap (λ s. s ++ 59 ∷ 32 ∷ []) c.in_ok-show_biform.ensures ∙ append_assoc _ _ (59 ∷ 32 ∷ []))

pub show_biform-returns-in_ok-show_loop-in-While : goal.show_biform-returns-in_ok-show_loop-in-While
show_biform-returns-in_ok-show_loop-in-While t c =
    let out = c.args.out.now.items in
    let w = c.in-While in
    let both = joined_last out _ _ (show_loop 1 (loop_of w.head)) (show_biblock 1 (biblock_of w.body)) _ c.in_ok-show_loop-in-While.ensures c.show_biblock-in-While.ensures in
    IfOk-equal _ _ _ _ both (ap (λ s. out ++ s) (written_while _ _ _ w.is))
