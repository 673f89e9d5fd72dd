-- The table of the rules, as steps name them: the name, the number of the row, and the arguments in their order.
use Rattle.std.specs.Prelude.{ℕ, List, [], ◌∷◌, Option, codes, bytes_eq, find}
use Rattle.rel_proofio.specs.Parts.{Word}
use Rattle.rel_proofio.specs.declared.table.Argument.{Argument}
use Rattle.rel_proofio.specs.declared.table.Argument.TheVariants.{Number, Term, Formula, Class, Multiples, Integer}
use Rattle.rel_proofio.specs.declared.table.Rule.{Rule}

pub record Row : Type 0 where
  pub name : Word
  pub number : ℕ
  pub arguments : List Argument

abbrev pub row : ℕ → Word → List Argument → Row
row number name arguments = record { name = name; number = number; arguments = arguments }

unfoldable pub rules : List Row
rules =
    row 1 (codes "close") (Number ∷ Number ∷ []) ∷
    row 2 (codes "absurd") (Number ∷ []) ∷
    row 3 (codes "and") (Number ∷ []) ∷
    row 4 (codes "nor") (Number ∷ []) ∷
    row 5 (codes "nimp") (Number ∷ []) ∷
    row 6 (codes "nn") (Number ∷ []) ∷
    row 7 (codes "or") (Number ∷ []) ∷
    row 8 (codes "nand") (Number ∷ []) ∷
    row 9 (codes "imp") (Number ∷ []) ∷
    row 10 (codes "cut") (Formula ∷ []) ∷
    row 11 (codes "all") (Number ∷ Term ∷ []) ∷
    row 12 (codes "nsome") (Number ∷ Term ∷ []) ∷
    row 13 (codes "some") (Number ∷ []) ∷
    row 14 (codes "nall") (Number ∷ []) ∷
    row 15 (codes "refl") (Term ∷ []) ∷
    row 16 (codes "replace") (Number ∷ Number ∷ Formula ∷ []) ∷
    row 17 (codes "readhit") (Term ∷ Term ∷ Term ∷ []) ∷
    row 18 (codes "readmiss") (Term ∷ Term ∷ Term ∷ Term ∷ []) ∷
    row 19 (codes "bijone") (Number ∷ Number ∷ []) ∷
    row 20 (codes "bijclass") (Number ∷ Class ∷ []) ∷
    row 21 (codes "extpair") (Number ∷ Number ∷ []) ∷
    row 22 (codes "extrefl") (Term ∷ []) ∷
    row 23 (codes "exttrans") (Number ∷ Number ∷ []) ∷
    row 24 (codes "addext") (Term ∷ Term ∷ Term ∷ []) ∷
    row 25 (codes "addpair") (Number ∷ []) ∷
    row 26 (codes "addlink") (Term ∷ Term ∷ Term ∷ Class ∷ []) ∷
    row 27 (codes "nonnull") (Number ∷ []) ∷
    row 28 (codes "istwo") (Number ∷ Number ∷ []) ∷
    row 29 (codes "inempty") (Number ∷ []) ∷
    row 30 (codes "insingle") (Number ∷ []) ∷
    row 31 (codes "ninsingle") (Number ∷ []) ∷
    row 32 (codes "inunion") (Number ∷ []) ∷
    row 33 (codes "ninunion") (Number ∷ []) ∷
    row 34 (codes "inmeet") (Number ∷ []) ∷
    row 35 (codes "ninmeet") (Number ∷ []) ∷
    row 36 (codes "inminus") (Number ∷ []) ∷
    row 37 (codes "ninminus") (Number ∷ []) ∷
    row 38 (codes "infilter") (Number ∷ []) ∷
    row 39 (codes "ninfilter") (Number ∷ []) ∷
    row 40 (codes "inimage") (Number ∷ []) ∷
    row 41 (codes "ninimage") (Number ∷ Term ∷ []) ∷
    row 42 (codes "ext") (Number ∷ []) ∷
    row 43 (codes "farkas") (Multiples ∷ []) ∷
    row 44 (codes "round") (Multiples ∷ Integer ∷ Formula ∷ []) ∷
    row 45 (codes "neint") (Number ∷ []) ∷
    row 46 (codes "lineq") (Term ∷ Term ∷ []) ∷ []

abbrev pub rule_of : Rule → Row
rule_of r = row r.0 r.1.now r.2.now

abbrev pub rule_named : Word → Option Row
rule_named w = find (λ r. bytes_eq w r.name) rules
