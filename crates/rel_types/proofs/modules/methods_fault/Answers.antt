use Rattle.std.proofs.Common.{option_map, sym, ap, ◌∙◌}
use Rattle.rel_lang.specs.View.{body_of}
use Rattle.rel_flaws.specs.Flaws.{first_in}
use Rattle.rel_flaws.specs.View.{pass_of, fault_of, tables_seen}
use Rattle.rel_flaws.proofs.Firsts.{first_here, none_more, none_whole}
use Rattle.rel_types.specs.ModuleView.{fault_of_body}
use Rattle.rel_types.proofs.InModules.{seen_body, first_in_map}
use Rattle.rel_types.proofs.modules.methods_fault.Goals as goal

pub returns-in-Some : goal.returns-in-Some
returns-in-Some c i m given around =
    let fault = fault_of_body (tables_seen c.args.tables.now) (pass_of c.args.pass) i m in
    let here = c.method-item.result in
    sym (first_in_map fault seen_body c.args.methods.now ∙ ap (first_in (λ b. fault (seen_body b))) (sym c.as_slice-method-items.ensures)
    ∙ first_here (λ b. fault (seen_body b)) c.as_slice-method-items.result.now c.loop-method.method-index here (fault_of c.in-Some.fault) c.loop-method-test.true
    (c.loop-method.invariant i m given around)
    (ap (λ b. fault (seen_body b)) (sym c.method-item.is)
    ∙ sym (sym (ap (option_map fault_of) c.in-Some.is) ∙ c.in_ok-fault.ensures i m given around ∙ ap (λ x. fault (x, body_of here.1)) c.as_str.ensures)))

pub loop-method-preserved : goal.loop-method-preserved
loop-method-preserved c i m given around =
    let fault = fault_of_body (tables_seen c.args.tables.now) (pass_of c.args.pass) i m in
    let here = c.method-item.result in
    none_more (λ b. fault (seen_body b)) c.as_slice-method-items.result.now c.loop-method.method-index here c.loop-method-test.true
    (c.loop-method.invariant i m given around)
    (ap (λ b. fault (seen_body b)) (sym c.method-item.is)
    ∙ sym (sym (ap (option_map fault_of) c.in-None.is) ∙ c.in_ok-fault.ensures i m given around ∙ ap (λ x. fault (x, body_of here.1)) c.as_str.ensures))

pub returns : goal.returns
returns c i m given around =
    let fault = fault_of_body (tables_seen c.args.tables.now) (pass_of c.args.pass) i m in
    sym (first_in_map fault seen_body c.args.methods.now ∙ ap (first_in (λ b. fault (seen_body b))) (sym c.as_slice-method-items.ensures)
    ∙ none_whole (λ b. fault (seen_body b)) c.as_slice-method-items.result.now c.loop-method.method-index c.loop-method-test.false (c.loop-method.invariant i m given around))
