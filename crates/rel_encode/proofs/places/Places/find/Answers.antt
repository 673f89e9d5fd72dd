-- What stands at the first place of the name has the name.
use Rattle.rel_encode.proofs.Lookups.{place_within, found_none, found_some}
use Rattle.rel_encode.proofs.places.Places.find.Goals as goal

pub at-requires : goal.at-requires
at-requires g c = place_within g.T.Named.word c.args.name.now c.args.self.now.items.now c.in-Some.k c.in-Some.ensures

pub returns-in-Some : goal.returns-in-Some
returns-in-Some g c = found_some g.T.Named.word c.args.name.now c.args.self.now.items.now c.in-Some.k c.at.result.now c.in-Some.ensures c.at.ensures

pub returns-in-None : goal.returns-in-None
returns-in-None g c = found_none g.T.Named.word c.args.name.now c.args.self.now.items.now c.in-None.ensures
