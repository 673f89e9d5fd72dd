-- The top child settles, whether or not there was memory.
use Rattle.rel_derive.proofs.Piles.{settled_same, settled_raised}
use Rattle.rel_derive.proofs.pile.Pile.raise.Goals as goal

pub returns-clause-same : goal.returns-clause-same
returns-clause-same c =
    (settled_same c.args.self.now (record { base = c.settle-settled.new.base; waiting = c.push_reserved.new.self }) c.take_last-top.new.self.items c.take_last-top.result c.settle-settled.new.child
    c.take_last-top.ensures.items c.push_reserved.ensures.items c.requires.kept c.settle-settled.result c.settle-settled.ensures.ok c.settle-settled.ensures.err).0

pub returns-clause-kept : goal.returns-clause-kept
returns-clause-kept c =
    (settled_same c.args.self.now (record { base = c.settle-settled.new.base; waiting = c.push_reserved.new.self }) c.take_last-top.new.self.items c.take_last-top.result c.settle-settled.new.child
    c.take_last-top.ensures.items c.push_reserved.ensures.items c.requires.kept c.settle-settled.result c.settle-settled.ensures.ok c.settle-settled.ensures.err).1

pub returns-clause-raised : goal.returns-clause-raised
returns-clause-raised c =
    settled_raised c.args.self.now (record { base = c.settle-settled.new.base; waiting = c.push_reserved.new.self }) c.take_last-top.new.self.items c.take_last-top.result c.settle-settled.new.child
    c.take_last-top.ensures.items c.push_reserved.ensures.items c.requires.kept c.settle-settled.result c.settle-settled.ensures.ok
