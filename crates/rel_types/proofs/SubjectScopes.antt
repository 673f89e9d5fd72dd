-- What the code and the clauses about the procedure on one side of a judgement see.
use Rattle.std.proofs.Common.{true, Option, Some, None}
use Rattle.rel_lang.specs.Scope.{Setting, pre_scope, post_scope, body_scope}
use Rattle.rel_lang.specs.Lookup.{Subject}
use Rattle.rel_flaws.specs.Code.{Code}
use Rattle.rel_types.specs.Items.{pre_scope_of_subject, post_scope_of_subject, code_of_subject}
use Rattle.rel_types.specs.Lookups.{SameLookups, SameSettings, SameCode}
use Rattle.rel_types.specs.SubjectView.{setting_of_subject, callees_of_subject}
use Rattle.rel_types.proofs.SameMembers.{same_pre, same_post}

pub subject_pre : (g : Setting) (o : Option Subject) → SameSettings g (setting_of_subject o) → SameLookups (pre_scope g) (pre_scope_of_subject o)
subject_pre g None k = same_pre g (setting_of_subject None) k
subject_pre g (Some s) k = same_pre g (setting_of_subject (Some s)) k

pub subject_post : (g : Setting) (o : Option Subject) → SameSettings g (setting_of_subject o) → SameLookups (post_scope g) (post_scope_of_subject o)
subject_post g None k = same_post g (setting_of_subject None) k
subject_post g (Some s) k = same_post g (setting_of_subject (Some s)) k

pub subject_code : (c : Code) (o : Option Subject) → SameCode c (record { scope = body_scope (setting_of_subject o); callees = callees_of_subject o; may_call = true })
    → SameCode c (code_of_subject o)
subject_code c None k = k
subject_code c (Some s) k = k
