use Rattle.std.proofs.Common.{◌≡◌, length, arith}
use Rattle.rel_linking.proofs.Answers.{three_are, none_numbered}
use Rattle.rel_linking.proofs.Limits.{both_few}
use Rattle.rel_linking.proofs.obligation.Goals as goal

pub of_three-requires-clause-numbers : goal.of_three-requires-clause-numbers
of_three-requires-clause-numbers c =
    let three : length c.args.t.now.bundle.items ≡ 3 = omega arith in
    none_numbered c.args.t.now.bundle.items c.in-UnitItem.left c.in-UnitItem-at.right c.in-Judge.judgement _
    (three_are c.args.t.now.bundle.items _ _ _ _ _ _ three c.at.ensures c.at-in-UnitItem.ensures c.at-in-UnitItem-at.ensures c.in-UnitItem.is c.in-UnitItem-at.is c.in-Judge.is)
    c.requires.numbers

pub of_three-requires-clause-left_few : goal.of_three-requires-clause-left_few
of_three-requires-clause-left_few c =
    let three : length c.args.t.now.bundle.items ≡ 3 = omega arith in
    (both_few c.args.t.now.bundle.items c.in-UnitItem.left c.in-UnitItem-at.right c.in-Judge.judgement
    (three_are c.args.t.now.bundle.items _ _ _ _ _ _ three c.at.ensures c.at-in-UnitItem.ensures c.at-in-UnitItem-at.ensures c.in-UnitItem.is c.in-UnitItem-at.is c.in-Judge.is)
    c.requires.fits).0

pub of_three-requires-clause-right_few : goal.of_three-requires-clause-right_few
of_three-requires-clause-right_few c =
    let three : length c.args.t.now.bundle.items ≡ 3 = omega arith in
    (both_few c.args.t.now.bundle.items c.in-UnitItem.left c.in-UnitItem-at.right c.in-Judge.judgement
    (three_are c.args.t.now.bundle.items _ _ _ _ _ _ three c.at.ensures c.at-in-UnitItem.ensures c.at-in-UnitItem-at.ensures c.in-UnitItem.is c.in-UnitItem-at.is c.in-Judge.is)
    c.requires.fits).1
