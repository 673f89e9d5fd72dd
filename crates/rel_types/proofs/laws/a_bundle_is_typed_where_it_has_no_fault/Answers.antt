use Rattle.rel_types.proofs.TypedBundles.{bundle_law}
use Rattle.rel_types.proofs.laws.a_bundle_is_typed_where_it_has_no_fault.Goals as goal

pub returns : goal.returns
returns c = bundle_law
