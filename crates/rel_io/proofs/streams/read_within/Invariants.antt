-- The content is what the source has given, at most one byte more than the limit.
use Rattle.std.proofs.Common.{◌≤◌, ◌+◌, length}
use Rattle.std.specs.Io.KnownBytes.{Consumes}
use Rattle.rel_io.proofs.streams.read_within.Given as goal

abbrev pub invariant-loop : goal.invariant-loop
invariant-loop g l = record {
  within : length l.content.items ≤ l.limit + 1;
  given : Consumes (g.S.Read.remaining l.fn.source) (g.S.Read.remaining l.source) l.content.items;
}
