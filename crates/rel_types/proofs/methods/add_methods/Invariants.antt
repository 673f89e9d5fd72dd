use Rattle.std.proofs.Common.{◌++◌, map, take}
use Rattle.rel_lang.specs.Typed.{signature_of_method}
use Rattle.rel_lang.specs.View.{sig_of}
use Rattle.rel_flaws.specs.CodeView.{callees_seen}
use Rattle.rel_types.specs.Called.{SameCallees}
use Rattle.rel_types.proofs.methods.add_methods.Given as goal

abbrev pub invariant-loop-method : goal.invariant-loop-method
invariant-loop-method l = SameCallees (callees_seen l.callees) (callees_seen l.fn.callees ++ map (λ q. signature_of_method (sig_of q)) (take l.method-index l.method-items))
