use Rattle.std.proofs.Common.{sym, ◌∙◌}
use Rattle.std.proofs.lemmas.Result.{err_from_is_err_and}
use Rattle.rel_lang.specs.View.{bicommand_of}
use Rattle.rel_parse.specs.Biprograms.{begins_bicommand}
use Rattle.rel_parse.specs.declared.fault.Fault.TheVariants as faults
use Rattle.rel_parse.proofs.Loop.{begun_empty, goes_on, fails, is_full, ended}
use Rattle.rel_parse.proofs.Biblocks.{bicommands_found, bicommands_fail, bicommand_at_none}
use Rattle.rel_parse.proofs.Blocks.{too_deep_fails}
use Rattle.rel_parse.proofs.biprogram.+bicommand.Goals as goal

pub bicommands-loop-init : goal.bicommands-loop-init
bicommands-loop-init t c = begun_empty bicommand_of _ _ _ _ _ c.new.ensures

pub bicommands-loop-preserved : goal.bicommands-loop-preserved
bicommands-loop-preserved t c =
    goes_on bicommand_of _ _ c.in_ok-command.command _ _ _ c.loop.counter _ _ _ c.loop-test.true (sym c.begins_bicommand.ensures ∙ c.if-not-begins_bicommand.false) c.in_ok-command.ensures c.in_ok-push.ensures.ok c.loop.invariant

pub bicommands-returns-in_err-command : goal.bicommands-returns-in_err-command
bicommands-returns-in_err-command t c =
    let p = err_from_is_err_and c.from_residual.result c.from_residual.ensures.1 in
    rw (p.1, p.2) (bicommands_fail _ c.args.left c.args.tokens.now c.in_err-command.field-0.0 (fails _ _ _ c.loop.counter _ _ _ _ c.loop-test.true (sym c.begins_bicommand.ensures ∙ c.if-not-begins_bicommand.false) c.in_err-command.ensures c.loop.invariant))

pub bicommands-returns-then-not-begins_bicommand : goal.bicommands-returns-then-not-begins_bicommand
bicommands-returns-then-not-begins_bicommand t c = bicommands_found _ _ _ _ _ (ended _ _ _ _ _ _ (sym c.begins_bicommand.ensures ∙ c.if-not-begins_bicommand.true) c.loop.invariant)

pub bicommands-returns : goal.bicommands-returns
bicommands-returns t c = bicommands_found _ _ _ _ _ (ended _ _ _ _ _ _ (sym c.begins_bicommand-2.ensures ∙ c.if-begins_bicommand.false) c.loop.invariant)

pub bicommands-returns-then-begins_bicommand : goal.bicommands-returns-then-begins_bicommand
bicommands-returns-then-begins_bicommand t c = bicommands_fail _ c.args.left c.args.tokens.now (faults.TooMany _) (is_full _ _ _ c.loop.counter _ _ _ c.loop-test.false (sym c.begins_bicommand-2.ensures ∙ c.if-begins_bicommand.true) c.loop.invariant)

pub bicommand-returns-then-left-eq0 : goal.bicommand-returns-then-left-eq0
bicommand-returns-then-left-eq0 t c = too_deep_fails begins_bicommand _ _ _ _ c.begins_bicommand.ensures c.too_deep.ensures (bicommand_at_none _ _ _ c.if-left-eq0.true)
