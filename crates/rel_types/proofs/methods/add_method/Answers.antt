use Rattle.std.proofs.Common.{◌++◌, ◌∷◌, [], map, sym, ap₂, subst}
use Rattle.rel_lang.specs.Typed.{Signature, signature_of_method}
use Rattle.rel_lang.specs.View.{decl_of, sig_of}
use Rattle.rel_flaws.specs.CodeView.{callees_seen}
use Rattle.rel_types.specs.Called.{SameCallees}
use Rattle.rel_types.proofs.Calling.{insert_callee}
use Rattle.rel_types.proofs.methods.add_method.Goals as goal

pub returns : goal.returns
returns c =
    subst (λ new. SameCallees (callees_seen new) (callees_seen c.args.callees.now ++ signature_of_method (sig_of c.args.method.now) ∷ [])) (sym c.in_ok-insert.ensures)
    (insert_callee _ c.as_str.result.now _ _
    (ap₂ {C = Signature} (λ n t. record { name = n; params = map decl_of c.args.method.now.params; result = t }) c.as_str.ensures c.of.ensures))
