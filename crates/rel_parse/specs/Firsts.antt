-- With which tokens trees begin.
use Rattle.std.specs.Prelude.{Bool, false, ◌||◌, List, [], ◌∷◌}
use Rattle.rel_lexer.specs.declared.Token.{Token}
use Rattle.rel_lexer.specs.declared.Kind.{Kind}
use Rattle.rel_parse.specs.Reading.{Reader, is_name_next, is_number_next, is_next, expect_at, made}

-- a name, a number, or this reserved word or symbol
pub data First : Type 0 where
  AName : First
  ANumber : First
  This : Kind → First

abbrev pub begins : First → List Token → Bool
begins AName ts = is_name_next ts
begins ANumber ts = is_number_next ts
begins (This k) ts = is_next k ts

-- as one of these
abbrev pub begins_one : List First → List Token → Bool
begins_one [] ts = false
begins_one (c ∷ []) ts = begins c ts
begins_one (c ∷ d ∷ ds) ts = begins c ts || begins_one (d ∷ ds) ts

-- what the one token means
abbrev pub means : {X : Type 0} → Kind → X → Reader X
means k x = made (λ u. x) (expect_at k)
