use Rattle.std.proofs.Common.{◌≡◌, None, Some}
use Rattle.rel_lang.specs.View.{bundle_of}
use Rattle.rel_flaws.specs.View.{fault_of}
use Rattle.rel_types.specs.Items.{first_fault}
use Rattle.rel_types.specs.Numbers.{AreClasses, AreFields}
use Rattle.rel_types.proofs.Untyped.{not_typed, from_ok, from_err}
use Rattle.rel_types.proofs.typing.resolve.Goals as goal

pub returns-in-Ok-Ok-clause-typed : goal.returns-in-Ok-Ok-clause-typed
returns-in-Ok-Ok-clause-typed c =
    let b = bundle_of c.args.bundle in
    (c.a_bundle_is_typed_where_it_has_no_fault.ensures b).1
    (from_ok (λ n. AreClasses b n.classes × AreFields b n.fields × (first_fault b ≡ None)) c.in-Ok-Ok.field-0 _ c.in-Ok-Ok.field-0-is c.in-Ok-Ok.ensures.typed).2

pub returns-in-Ok-Err-clause-untyped : goal.returns-in-Ok-Err-clause-untyped
returns-in-Ok-Err-clause-untyped c some =
    let b = bundle_of c.args.bundle in
    not_typed b _ (c.a_bundle_is_typed_where_it_has_no_fault.ensures b)
    (from_err (λ f. first_fault b ≡ Some (fault_of f)) c.in-Ok-Err.field-0 _ c.in-Ok-Err.field-0-is c.in-Ok-Err.ensures.faulty)
