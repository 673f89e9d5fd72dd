-- A block has as many commands as the list that it stands for.
use Rattle.std.proofs.Common.{◌≡◌, suc, List, [], ◌∷◌, length, refl, ap}
use Rattle.rel_lang.specs.View.{block_of}
use Rattle.rel_lang.specs.declared.command.Command.{Command}
use Rattle.rel_linking.specs.Obligation.{block_len}

pub block_len_is : (cs : List Command) → block_len (block_of cs) ≡ length cs
block_len_is [] = refl
block_len_is (c ∷ cs) = ap suc (block_len_is cs)
