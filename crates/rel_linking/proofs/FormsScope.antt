-- Scopes of ints.
use Rattle.std.proofs.Common.{◌≡◌, Option, Some, None, IsSomeAnd}
use Rattle.std.specs.List.{AllByRecursion}
use Rattle.rel_lang.specs.Syntax.{Int}
use Rattle.rel_lang.specs.State.{Variable, Scope}

abbrev pub IsOfInt : Variable → Type 0
IsOfInt v = v.ty ≡ Int

abbrev pub AreInts : Scope → Type 0
AreInts sc = AllByRecursion IsOfInt sc

pub some_map : {X : Type 0} (o : Option X) (P Q : X → Type 0) → ((x : X) → P x → Q x) → IsSomeAnd o P → IsSomeAnd o Q
some_map None P Q h s = absurd s
some_map (Some x) P Q h s = h x s
