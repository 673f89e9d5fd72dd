use Rattle.rel_flaws.proofs.Indexes.{looked_up}
use Rattle.rel_flaws.proofs.index.Index.find.Goals as goal

pub returns : goal.returns
returns g c = let e = looked_up c.args.name.now c.self.inside.entries.entries in cc
