use Rattle.std.proofs.Common.{◌≡◌, pos, rules}
use Rattle.rules_int.specs.Forms.{parts_at}
use Rattle.rules_int.proofs.Comparing.{same_multiples, same_constants}
use Rattle.rules_int.proofs.comparisons.are_alike.Goals as goal

pub returns-then-a-b : goal.returns-then-a-b
returns-then-a-b c f g is_f is_g =
    let same : c.args.a.now.constant ≡ c.args.b.now.constant = search rules in
    same_constants c.args.a.now.constant c.args.b.now.constant f g c.are_multiples.result is_f.constant_is is_g.constant_is same
    (same_multiples (pos 1) (parts_at c.args.a.now.numbers) (parts_at c.args.b.now.numbers) f g c.are_multiples.result is_f.numbers_are is_g.numbers_are c.are_multiples.ensures)
