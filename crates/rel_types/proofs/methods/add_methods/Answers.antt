use Rattle.rel_lang.specs.Typed.{signature_of_method}
use Rattle.rel_lang.specs.View.{sig_of}
use Rattle.rel_flaws.specs.CodeView.{callees_seen}
use Rattle.rel_types.proofs.Calling.{more_callees}
use Rattle.rel_types.proofs.methods.add_methods.Goals as goal

pub loop-method-preserved : goal.loop-method-preserved
loop-method-preserved c =
    more_callees (λ q. signature_of_method (sig_of q)) (callees_seen c.add_method.new.callees) (callees_seen c.loop-method.callees) (callees_seen c.args.callees.now)
    c.as_slice-method-items.result.now c.loop-method.method-index c.method-item.result c.loop-method-test.true c.method-item.is c.loop-method.invariant c.in_ok-add_method.ensures
