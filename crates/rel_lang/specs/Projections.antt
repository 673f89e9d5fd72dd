-- The projections of a biprogram: what it runs on the left, and what on the right.
use Rattle.rel_lang.specs.Syntax.{Command, At, If, While, Block, End, Then, BiCommand, BiAt, Split, Sync, SyncCall, BiIf, BiWhile, Link, Note, BiBlock, BiEnd, BiThen}

-- one block after the other
abbrev pub joined : Block → Block → Block
joined End ds = ds
joined (Then c cs) ds = Then c (joined cs ds)

abbrev pub alone : Command → Block
alone c = Then c End

-- Both sides run the command under `sync`; `link` and `note` are annotations.
abbrev mutual
  pub left_of_command : BiCommand → Block
  left_of_command (BiAt at (Split a b)) = a
  left_of_command (BiAt at (Sync c)) = alone c
  left_of_command (BiAt at (SyncCall c j)) = alone c
  left_of_command (BiAt at (BiIf p q a b)) = alone (At at (If p (left_of a) (left_of b)))
  left_of_command (BiAt at (BiWhile l b)) = alone (At at (While l.tests.0 l.invs.0 (left_of b)))
  left_of_command (BiAt at (Link x y)) = End
  left_of_command (BiAt at (Note r)) = End

  pub left_of : BiBlock → Block
  left_of BiEnd = End
  left_of (BiThen c cs) = joined (left_of_command c) (left_of cs)

abbrev mutual
  pub right_of_command : BiCommand → Block
  right_of_command (BiAt at (Split a b)) = b
  right_of_command (BiAt at (Sync c)) = alone c
  right_of_command (BiAt at (SyncCall c j)) = alone c
  right_of_command (BiAt at (BiIf p q a b)) = alone (At at (If q (right_of a) (right_of b)))
  right_of_command (BiAt at (BiWhile l b)) = alone (At at (While l.tests.1 l.invs.1 (right_of b)))
  right_of_command (BiAt at (Link x y)) = End
  right_of_command (BiAt at (Note r)) = End

  pub right_of : BiBlock → Block
  right_of BiEnd = End
  right_of (BiThen c cs) = joined (right_of_command c) (right_of cs)
