use Rattle.std.proofs.Common.{◌-◌, map}
use Rattle.rel_lang.specs.Refusal.{limits}
use Rattle.rel_parse.specs.Reading.{with_front, many_at}
use Rattle.rel_parse.proofs.Loop.{SoFar}
use Rattle.rel_parse.proofs.several.more.Given as goal

abbrev pub invariant-loop : goal.invariant-loop
invariant-loop g l =
    let begins = g.E.Repeated.begins l.element in
    let r = g.E.Element.reader l.element in
    SoFar begins r (limits.most - l.counter) (map g.E.Element.view l.read.0) l.read.1.now (with_front (map g.E.Element.view l.fn.read) (many_at begins r limits.most l.fn.tokens))
