use Rattle.std.proofs.Common.{sym, ◌∙◌}
use Rattle.std.proofs.lemmas.Result.{err_from_is_err_and}
use Rattle.rel_lang.specs.View.{command_of}
use Rattle.rel_parse.specs.Commands.{begins_command}
use Rattle.rel_parse.specs.declared.fault.Fault.TheVariants as faults
use Rattle.rel_parse.proofs.Loop.{begun_empty, goes_on, fails, is_full, ended}
use Rattle.rel_parse.proofs.Blocks.{commands_found, commands_fail, command_at_none, too_deep_fails}
use Rattle.rel_parse.proofs.command.+command.Goals as goal

pub commands-loop-init : goal.commands-loop-init
commands-loop-init t c = begun_empty command_of _ _ _ _ _ c.new.ensures

pub commands-loop-preserved : goal.commands-loop-preserved
commands-loop-preserved t c =
    goes_on command_of _ _ c.in_ok-command.command _ _ _ c.loop.counter _ _ _ c.loop-test.true (sym c.begins_command.ensures ∙ c.if-not-begins_command.false) c.in_ok-command.ensures c.in_ok-push.ensures.ok c.loop.invariant

pub commands-returns-in_err-command : goal.commands-returns-in_err-command
commands-returns-in_err-command t c =
    let p = err_from_is_err_and c.from_residual.result c.from_residual.ensures.1 in
    rw (p.1, p.2) (commands_fail _ c.args.left c.args.tokens.now c.in_err-command.field-0.0 (fails _ _ _ c.loop.counter _ _ _ _ c.loop-test.true (sym c.begins_command.ensures ∙ c.if-not-begins_command.false) c.in_err-command.ensures c.loop.invariant))

pub commands-returns-then-not-begins_command : goal.commands-returns-then-not-begins_command
commands-returns-then-not-begins_command t c = commands_found _ _ _ _ _ (ended _ _ _ _ _ _ (sym c.begins_command.ensures ∙ c.if-not-begins_command.true) c.loop.invariant)

pub commands-returns : goal.commands-returns
commands-returns t c = commands_found _ _ _ _ _ (ended _ _ _ _ _ _ (sym c.begins_command-2.ensures ∙ c.if-begins_command.false) c.loop.invariant)

pub commands-returns-then-begins_command : goal.commands-returns-then-begins_command
commands-returns-then-begins_command t c = commands_fail _ c.args.left c.args.tokens.now (faults.TooMany _) (is_full _ _ _ c.loop.counter _ _ _ c.loop-test.false (sym c.begins_command-2.ensures ∙ c.if-begins_command.true) c.loop.invariant)

pub command-returns-then-left-eq0 : goal.command-returns-then-left-eq0
command-returns-then-left-eq0 t c = too_deep_fails begins_command _ _ _ _ c.begins_command.ensures c.too_deep.ensures (command_at_none _ _ _ c.if-left-eq0.true)
