use Rattle.std.proofs.Common.{◌≡◌, length, All, Ok, subst, sym}
use Rattle.rel_lang.specs.Tokens.{lexed}
use Rattle.rel_lang.specs.Refusal.{limits}
use Rattle.rel_lexer.specs.Tokens.{tokens_of, HasKind}
use Rattle.rel_parse.specs.Gives.{Fails}
use Rattle.rel_decls.specs.Faults.{HasFault, placed_fault}
use Rattle.rel_decls.specs.Items.{bundle_at}
use Rattle.rel_decls.proofs.Standing.{stands_for, one_bundle, has_fault}
use Rattle.rel_decls.proofs.read.Goals as goal

pub returns-in-Err-clause-refused : goal.returns-in-Err-clause-refused
returns-in-Err-clause-refused t = t.lexical.ensures _ t.utf8.text t.in-Err.ensures.refused

pub returns-in-Ok-bundle-clause-stands : goal.returns-in-Ok-bundle-clause-stands
returns-in-Ok-bundle-clause-stands t =
    let same = sym t.deref.ensures.value in
    let cut = subst (λ us. lexed t.args.text.now ≡ Ok (tokens_of us)) same t.in-Ok.ensures.tokens in
    let kinds = subst (λ us. All HasKind us) same t.in-Ok.ensures.kinds in
    stands_for _ t.deref.result.now _ _ t.utf8.text cut kinds t.in-Ok-bundle.ensures

pub returns-in-Ok-bundle-clause-only : goal.returns-in-Ok-bundle-clause-only
returns-in-Ok-bundle-clause-only t =
    let same = sym t.deref.ensures.value in
    let cut = subst (λ us. lexed t.args.text.now ≡ Ok (tokens_of us)) same t.in-Ok.ensures.tokens in
    let kinds = subst (λ us. All HasKind us) same t.in-Ok.ensures.kinds in
    λ b stands. one_bundle _ t.deref.result.now _ _ b cut kinds t.in-Ok-bundle.ensures stands

pub returns-clause-refused : goal.returns-clause-refused
returns-clause-refused c =
    let text = c.args.text.now in
    let f = c.in-Err-bundle.fault in
    let fails = subst (λ us. Fails f (bundle_at limits us)) c.deref.ensures.value c.in-Err-bundle.ensures in
    let found = has_fault text c.in-Ok.tokens.items f c.utf8.text c.in-Ok.ensures.tokens c.in-Ok.ensures.kinds fails in
    let there = subst (λ us. HasFault text (placed_fault f (length text) us)) (sym c.deref-in-Err-bundle.ensures.value) found in
    subst (λ e. HasFault text e) (sym c.syntactic.ensures) there
