use Rattle.std.proofs.Common.{option_map, sym, ap, ◌∙◌}
use Rattle.rel_lang.specs.View.{align_of}
use Rattle.rel_flaws.specs.Flaws.{first_in}
use Rattle.rel_flaws.specs.View.{pass_of, fault_of}
use Rattle.rel_flaws.proofs.Firsts.{first_here, none_more, none_whole}
use Rattle.rel_types.specs.ModuleView.{fault_of_method}
use Rattle.rel_types.proofs.InModules.{seen_method, first_in_map}
use Rattle.rel_types.proofs.pairs.methods_fault.Goals as goal

pub returns-in-Some : goal.returns-in-Some
returns-in-Some c b i m n k =
    let fault = fault_of_method b (pass_of c.args.pass) i m n in
    let here = c.method-item.result in
    sym (first_in_map fault seen_method c.args.methods.now ∙ ap (first_in (λ a. fault (seen_method a))) (sym c.as_slice-method-items.ensures)
    ∙ first_here (λ a. fault (seen_method a)) c.as_slice-method-items.result.now c.loop-method.method-index here (fault_of c.in-Some.fault) c.loop-method-test.true
    (c.loop-method.invariant b i m n k)
    (ap (λ a. fault (seen_method a)) (sym c.method-item.is)
    ∙ sym (sym (ap (option_map fault_of) c.in-Some.is) ∙ c.in_ok-fault.ensures b i m n k ∙ ap (λ x. fault (here.0, x, align_of here.2)) c.as_str.ensures)))

pub loop-method-preserved : goal.loop-method-preserved
loop-method-preserved c b i m n k =
    let fault = fault_of_method b (pass_of c.args.pass) i m n in
    let here = c.method-item.result in
    none_more (λ a. fault (seen_method a)) c.as_slice-method-items.result.now c.loop-method.method-index here c.loop-method-test.true
    (c.loop-method.invariant b i m n k)
    (ap (λ a. fault (seen_method a)) (sym c.method-item.is)
    ∙ sym (sym (ap (option_map fault_of) c.in-None.is) ∙ c.in_ok-fault.ensures b i m n k ∙ ap (λ x. fault (here.0, x, align_of here.2)) c.as_str.ensures))

pub returns : goal.returns
returns c b i m n k =
    let fault = fault_of_method b (pass_of c.args.pass) i m n in
    sym (first_in_map fault seen_method c.args.methods.now ∙ ap (first_in (λ a. fault (seen_method a))) (sym c.as_slice-method-items.ensures)
    ∙ none_whole (λ a. fault (seen_method a)) c.as_slice-method-items.result.now c.loop-method.method-index c.loop-method-test.false (c.loop-method.invariant b i m n k))
