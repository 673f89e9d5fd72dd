use Rattle.rel_lang.specs.Scope.{pre_scope, post_scope}
use Rattle.rel_types.specs.OwnView.{setting_of}
use Rattle.rel_types.proofs.Heads.{found_next}
use Rattle.rel_types.proofs.members.clauses_fault.Goals as goal

pub returns-in_ok-fault-in-None : goal.returns-in_ok-fault-in-None
returns-in_ok-fault-in-None c o h =
    let setting = setting_of c.args.globals o in
    found_next _ _ _ _ c.in-None.is (c.in_ok-fault.ensures (pre_scope setting) (c.pre.ensures o h)) (c.in_ok-fault-in-None.ensures (post_scope setting) (c.post-post.ensures o h))
