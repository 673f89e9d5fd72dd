-- That a reader is exact: what it means, and the laws by which it lasts when readers are put together.
pub use Rattle.rel_parse.proofs.Exact.{HaveKinds, Spelled, CanAllBeSaid, IsToldBy, AreTold, Good, AllWithin, Refuses, IsSole, Reads, Always, NeverBegins, AlwaysBegins, SomeBegins, fixed_text, IsFixed, show_either, ShapeEither, IsBare, IsShallow, IsTooDeep, ShapeAll}
pub use Rattle.rel_parse.proofs.Both.{both_reads}
pub use Rattle.rel_parse.proofs.Either.{by_first, either_reads, told_reads}
pub use Rattle.rel_parse.proofs.First.{placed_reads, tree_reads, too_deep_reads, element_reads}
pub use Rattle.rel_parse.proofs.Made.{same_reads, named_reads, made_reads, after_reads, before_reads}
pub use Rattle.rel_parse.proofs.Many.{many_reads, many_none_reads, listed_reads}
pub use Rattle.rel_parse.proofs.Single.{name_reads, literal_reads, count_reads, word_reads, is_fixed, fixed_is}
