use Rattle.std.proofs.Common.{Option, Some, option_map, sym, ap, ap₂, refl, ◌∙◌}
use Rattle.rel_flaws.specs.View.{fault_of}
use Rattle.rel_lang.specs.Syntax.{Word}
use Rattle.rel_lang.specs.Lookup.{judgements_of}
use Rattle.rel_types.specs.Items.{pre_scope_of_subject, post_scope_of_subject, code_of_subject}
use Rattle.rel_types.specs.OwnView.{setting_of}
use Rattle.rel_types.specs.SubjectView.{setting_of_subject, callees_of_subject}
use Rattle.rel_types.proofs.Both.{some_first, none_first}
use Rattle.rel_types.proofs.SubjectScopes.{subject_pre, subject_post, subject_code}
use Rattle.rel_types.proofs.judgements.seen_fault.Goals as goal

pub returns-in-Some : goal.returns-in-Some
returns-in-Some c b l r known left right =
    let first = setting_of c.args.left.around.globals c.args.left.own in
    let second = setting_of c.args.right.around.globals c.args.right.own in
    some_first _ _ _ (sym (ap (option_map fault_of) c.in-Some.is) ∙ c.in_ok-fault.ensures b (pre_scope_of_subject l) (pre_scope_of_subject r) known
    (λ x. c.pre-pre.ensures c.args.left.own c.requires.left x ∙ subject_pre first l left.setting x)
    (λ x. c.pre.ensures c.args.right.own c.requires.right x ∙ subject_pre second r right.setting x))

pub returns-in-Some-2 : goal.returns-in-Some-2
returns-in-Some-2 c b l r known left right =
    let first = setting_of c.args.left.around.globals c.args.left.own in
    let second = setting_of c.args.right.around.globals c.args.right.own in
    none_first _ _ _ (sym (ap (option_map fault_of) c.in-None.is) ∙ c.in_ok-fault.ensures b (pre_scope_of_subject l) (pre_scope_of_subject r) known
    (λ x. c.pre-pre.ensures c.args.left.own c.requires.left x ∙ subject_pre first l left.setting x)
    (λ x. c.pre.ensures c.args.right.own c.requires.right x ∙ subject_pre second r right.setting x))
    (some_first _ _ _ (sym (ap (option_map fault_of) c.in-Some-2.is) ∙ c.in_ok-fault-in-None.ensures b (post_scope_of_subject l) (post_scope_of_subject r) known
    (λ x. c.post-post.ensures c.args.left.own c.requires.left x ∙ subject_post first l left.setting x)
    (λ x. c.post.ensures c.args.right.own c.requires.right x ∙ subject_post second r right.setting x)))

pub returns-in_ok-fault-in-None-2 : goal.returns-in_ok-fault-in-None-2
returns-in_ok-fault-in-None-2 c b l r known left right =
    let first = setting_of c.args.left.around.globals c.args.left.own in
    let second = setting_of c.args.right.around.globals c.args.right.own in
    none_first _ _ _ (sym (ap (option_map fault_of) c.in-None.is) ∙ c.in_ok-fault.ensures b (pre_scope_of_subject l) (pre_scope_of_subject r) known
    (λ x. c.pre-pre.ensures c.args.left.own c.requires.left x ∙ subject_pre first l left.setting x)
    (λ x. c.pre.ensures c.args.right.own c.requires.right x ∙ subject_pre second r right.setting x))
    (none_first _ _ _ (sym (ap (option_map fault_of) c.in-None-2.is) ∙ c.in_ok-fault-in-None.ensures b (post_scope_of_subject l) (post_scope_of_subject r) known
    (λ x. c.post-post.ensures c.args.left.own c.requires.left x ∙ subject_post first l left.setting x)
    (λ x. c.post.ensures c.args.right.own c.requires.right x ∙ subject_post second r right.setting x))
    (c.in_ok-fault-in-None-2.ensures b (record {
      left = code_of_subject l;
      right = code_of_subject r;
      judgements = judgements_of b.items;
      units = Some (c.args.judgement.now.left.0, c.args.judgement.now.right.0);
    }) known
    (subject_code _ l (c.code_of_body-left.ensures c.args.left.own (setting_of_subject l) (callees_of_subject l) c.requires.left left.setting left.callees))
    (subject_code _ r (c.code_of_body-right.ensures c.args.right.own (setting_of_subject r) (callees_of_subject r) c.requires.right right.setting right.callees))
    refl
    (ap₂ {C = Option (Word × Word)} (λ x y. Some (x, y)) (sym c.as_str.ensures) (sym c.as_str-in-None-2.ensures))))
