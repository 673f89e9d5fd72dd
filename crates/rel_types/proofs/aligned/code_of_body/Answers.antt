use Rattle.std.proofs.Common.{option_map, ap, refl, ◌∙◌}
use Rattle.rel_lang.specs.State.{find_variable}
use Rattle.rel_types.specs.Lookups.{without_owner}
use Rattle.rel_types.specs.OwnView.{setting_of}
use Rattle.rel_types.proofs.SameMembers.{same_body}
use Rattle.rel_types.proofs.aligned.code_of_body.Goals as goal

pub returns : goal.returns
returns c o g ss layers settings calls = record {
  scope = λ x. ap (λ sc. option_map without_owner (find_variable x sc)) c.new.ensures ∙ c.body.ensures o layers x ∙ same_body (setting_of c.args.around.globals o) g settings x;
  callees = calls;
  may_call = refl;
}
