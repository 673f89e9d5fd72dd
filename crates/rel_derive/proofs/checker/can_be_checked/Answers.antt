use Rattle.std.proofs.Common.{refl, arith}
use Rattle.rel_derive.proofs.Taking.{is_sound, is_unsound}
use Rattle.rel_derive.proofs.checker.can_be_checked.Goals as goal

pub returns-then-are_well_sorted : goal.returns-then-are_well_sorted
returns-then-are_well_sorted c =
    is_sound c.args.sequent.now _ c.well_sorted.result (omega arith) (omega arith) c.as_slice-sorts.ensures (c.if-are_well_sorted.ensures.0 refl) c.well_sorted.ensures.exact

pub returns-else-are_well_sorted : goal.returns-else-are_well_sorted
returns-else-are_well_sorted c = is_unsound c.args.sequent.now _ c.are_well_sorted.result c.as_slice-sorts.ensures c.if-are_well_sorted.false c.are_well_sorted.ensures
