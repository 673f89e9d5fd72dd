use Rattle.std.proofs.Common.{◌++◌, ◌∷◌, [], map, sym, ap₂, subst}
use Rattle.rel_lang.specs.Typed.{Signature, signature_of_proc}
use Rattle.rel_lang.specs.View.{decl_of, proc_of}
use Rattle.rel_flaws.specs.CodeView.{callees_seen}
use Rattle.rel_types.specs.Called.{SameCallees}
use Rattle.rel_types.proofs.Calling.{insert_callee}
use Rattle.rel_types.proofs.called.add_proc.Goals as goal

pub returns : goal.returns
returns c =
    subst (λ new. SameCallees (callees_seen new) (callees_seen c.args.callees.now ++ signature_of_proc (proc_of c.args.proc.now) ∷ [])) (sym c.in_ok-insert.ensures)
    (insert_callee _ c.as_str.result.now _ _
    (ap₂ {C = Signature} (λ n t. record { name = n; params = map decl_of c.args.proc.now.params; result = t }) c.as_str.ensures c.of.ensures))
