use Rattle.std.proofs.Common.{sym, ap, ◌∙◌}
use Rattle.std.specs.Prelude.{is_some}
use Rattle.rel_flaws.proofs.Indexes.{some_of_map}
use Rattle.rel_flaws.proofs.index.Index.has.Goals as goal

pub returns : goal.returns
returns g c = c.is_some.ensures ∙ sym (some_of_map (λ v. v.now) c.find.result) ∙ ap is_some c.find.ensures
