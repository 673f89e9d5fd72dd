-- A formula's reader is exact.
use Rattle.std.proofs.Common.{◌≡◌, ℕ, zero, suc, ◌+◌, ◌<◌, ◌≤◌, Bool, true, ◌||◌, List, [], ◌∷◌, ◌++◌, length, ◌⊎◌, inl, inr, refl, subst, append_assoc, arith}
use Rattle.std.proofs.lemmas.Bool.{or_cases}
use Rattle.std.proofs.Math.Path.{fun_ext}
use Rattle.std.specs.Prelude.{codes}
use Rattle.rel_lang.specs.Syntax.{Word, Expression, Null, Formula, True, False, Eq, Lt, Le, Member, Subset, Not, And, Or, Implies, Every, Exists}
use Rattle.rel_lang.specs.Text.{Name, CanBeSaid, Mark, word, named, tree, operation, connective, quantified, show_expression, show_formula}
use Rattle.rel_lang.specs.Refusal.{Limits, limits, GoesOn}
use Rattle.rel_lexer.specs.declared.Token.{Token}
use Rattle.rel_lexer.specs.Tokens.{tokens_of}
use Rattle.rel_lexer.specs.declared.Kind.{Kind}
use Rattle.rel_lexer.specs.declared.Kind.TheVariants as kind
use Rattle.rel_lexer.specs.declared.keywords.Keyword.TheVariants as keyword
use Rattle.rel_lexer.specs.declared.symbols.Symbol.TheVariants as symbol
use Rattle.rel_parse.specs.declared.formula.Comparison.{Comparison}
use Rattle.rel_parse.specs.declared.formula.Comparison.TheVariants as comparison
use Rattle.rel_parse.specs.declared.formula.Connective.{Connective}
use Rattle.rel_parse.specs.declared.formula.Connective.TheVariants as connector
use Rattle.rel_parse.specs.Reading.{Reader, same_fixed, name_at, after, too_deep_at}
use Rattle.rel_parse.specs.Firsts.{First, This, begins_one}
use Rattle.rel_parse.specs.Expressions.{expression_at}
use Rattle.rel_parse.specs.Formulas.{formula_firsts, begins_formula, comparison_at, compared, connective_at, connected, binder_at, quantified_at, comparing_at, connection_at, connecting_at, not_at, every_at, exists_at, formula_from, formula_at}
use Rattle.rel_parse.proofs.Laws.{HaveKinds, AreTold, Good, Reads, Always, NeverBegins, AlwaysBegins, SomeBegins, fixed_text, name_reads, both_reads, after_reads, before_reads, too_deep_reads}
use Rattle.rel_parse.proofs.Firsts.{BeginsAs, Part, Image, choose_of, meaning, meaning_at, leveled, whole, always_begins, never_begins, are_apart, some_mark, fixed_of_kind, told_append}
use Rattle.rel_parse.proofs.Renamed.{made_after}
use Rattle.rel_parse.proofs.Expressions.{Any, told_operation, told_expression, expression_reads}

-- ---- comparisons and connectives

abbrev comparison_text : Comparison → Word
comparison_text comparison.Eq = codes "="
comparison_text comparison.Lt = codes "<"
comparison_text comparison.Le = codes "<="
comparison_text comparison.Member = codes "in"
comparison_text comparison.Subset = codes "sub"

abbrev show_comparison : Comparison → List Mark
show_comparison c = word (comparison_text c) ∷ []

abbrev pub connective_text : Connective → Word
connective_text connector.And = codes "and"
connective_text connector.Or = codes "or"
connective_text connector.Implies = codes "implies"

abbrev pub show_connective : Connective → List Mark
show_connective c = word (connective_text c) ∷ []

module _ (l : Limits) where
  comparison_reads : Reads l show_comparison Always comparison_at
  comparison_reads =
      whole l show_comparison _ _ _
      (choose_of (meaning l show_comparison (kind.Symbol symbol.Equal) tt comparison.Eq refl)
      (choose_of (meaning l show_comparison (kind.Symbol symbol.Less) tt comparison.Lt refl)
      (choose_of (meaning l show_comparison (kind.Symbol symbol.LessEqual) tt comparison.Le refl)
      (choose_of (meaning l show_comparison (kind.Word keyword.In) tt comparison.Member refl)
      (meaning l show_comparison (kind.Word keyword.Sub) tt comparison.Subset refl) refl) refl) refl) refl)
      total (λ c. omega arith) (λ c. (tt, tt))
    where
      total : (c : Comparison) → Any comparison.Eq c ⊎ (Any comparison.Lt c ⊎ (Any comparison.Le c ⊎ (Any comparison.Member c ⊎ Any comparison.Subset c)))
      total comparison.Eq = inl (tt, refl, tt)
      total comparison.Lt = inr (inl (tt, refl, tt))
      total comparison.Le = inr (inr (inl (tt, refl, tt)))
      total comparison.Member = inr (inr (inr (inl (tt, refl, tt))))
      total comparison.Subset = inr (inr (inr (inr (tt, refl, tt))))

  connective_reads : Reads l show_connective Always connective_at
  connective_reads =
      whole l show_connective _ _ _
      (choose_of (meaning l show_connective (kind.Word keyword.And) tt connector.And refl)
      (choose_of (meaning l show_connective (kind.Word keyword.Or) tt connector.Or refl)
      (meaning l show_connective (kind.Word keyword.Implies) tt connector.Implies refl) refl) refl)
      total (λ c. omega arith) (λ c. (tt, tt))
    where
      total : (c : Connective) → Any connector.And c ⊎ (Any connector.Or c ⊎ Any connector.Implies c)
      total connector.And = inl (tt, refl, tt)
      total connector.Or = inr (inl (tt, refl, tt))
      total connector.Implies = inr (inr (tt, refl, tt))

  -- ---- pieces that relation formulas have too

  abbrev pub Two : {A B : Type 0} → A × B → Type 0
  Two p = Unit {0} × Unit {0}

  module _ {X : Type 0} (show : X → List Mark) (part : Reader X) (below : Reads l show Always part) where
    abbrev pub show_connection : X × (Connective × X) → List Mark
    show_connection p = word (codes "[") ∷ (show p.0 ++ (show_connective p.1.0 ++ show p.1.1)) ++ word (codes "]") ∷ []

    abbrev pub Three : X × (Connective × X) → Type 0
    Three p = Unit {0} × (Unit {0} × Unit {0})

    pub connection_reads : Reads l show_connection Three (after (kind.Symbol symbol.OpenBracket) (connection_at part))
    connection_reads =
        after_reads l _ Three _ (kind.Symbol symbol.OpenBracket) tt
        (before_reads l _ Three _ (kind.Symbol symbol.CloseBracket) tt
        (both_reads l show Always part _ Two _ below (both_reads l show_connective Always connective_at show Always part connective_reads below)))

    abbrev pub show_binder : Word × Word → List Mark
    show_binder b = (named b.0 ∷ []) ++ (word (codes ":") ∷ ((named b.1 ∷ []) ++ word (codes "in") ∷ []))

    binder_reads : Reads l show_binder Two binder_at
    binder_reads =
        both_reads l (λ x. named x ∷ []) Always name_at _ Always _ (name_reads l)
        (after_reads l _ Always _ (kind.Symbol symbol.Colon) tt (before_reads l (λ x. named x ∷ []) Always name_at (kind.Word keyword.In) tt (name_reads l)))

    module _ (show2 : Expression → List Mark) (region : Reader Expression) (regions : Reads l show2 Always region) where
      abbrev pub show_quantified : (Word × Word) × (Expression × X) → List Mark
      show_quantified q = show_binder q.0 ++ (show2 q.1.0 ++ (word (codes "{") ∷ (show q.1.1 ++ word (codes "}") ∷ [])))

      abbrev pub Four : (Word × Word) × (Expression × X) → Type 0
      Four q = (Unit {0} × Unit {0}) × (Unit {0} × Unit {0})

      pub quantified_reads : Reads l show_quantified Four (quantified_at region part)
      quantified_reads =
          both_reads l show_binder Two binder_at _ Two _ binder_reads
          (both_reads l show2 Always region _ Always _ regions
          (after_reads l _ Always _ (kind.Symbol symbol.OpenBrace) tt (before_reads l show Always part (kind.Symbol symbol.CloseBrace) tt below)))

-- ---- what formulas begin with, and that their marks are told

pub formula_begins : (d : ℕ) (p : Formula) → BeginsAs formula_firsts (show_formula d p)
formula_begins d True = (This (kind.Word keyword.True), inl refl, (tt, refl))
formula_begins d False = (This (kind.Word keyword.False), inr (inl refl), (tt, refl))
formula_begins d (Not p) = (This (kind.Word keyword.Not), inr (inr (inl refl)), (tt, refl))
formula_begins d (Eq e f) = (This (kind.Symbol symbol.OpenParenthesis), inr (inr (inr (inl refl))), (tt, refl))
formula_begins d (Lt e f) = (This (kind.Symbol symbol.OpenParenthesis), inr (inr (inr (inl refl))), (tt, refl))
formula_begins d (Le e f) = (This (kind.Symbol symbol.OpenParenthesis), inr (inr (inr (inl refl))), (tt, refl))
formula_begins d (Member e f) = (This (kind.Symbol symbol.OpenParenthesis), inr (inr (inr (inl refl))), (tt, refl))
formula_begins d (Subset e f) = (This (kind.Symbol symbol.OpenParenthesis), inr (inr (inr (inl refl))), (tt, refl))
formula_begins d (And p q) = (This (kind.Symbol symbol.OpenBracket), inr (inr (inr (inr (inl refl)))), (tt, refl))
formula_begins d (Or p q) = (This (kind.Symbol symbol.OpenBracket), inr (inr (inr (inr (inl refl)))), (tt, refl))
formula_begins d (Implies p q) = (This (kind.Symbol symbol.OpenBracket), inr (inr (inr (inr (inl refl)))), (tt, refl))
formula_begins d (Every x c e p) = (This (kind.Word keyword.All), inr (inr (inr (inr (inr (inl refl))))), (tt, refl))
formula_begins d (Exists x c e p) = (This (kind.Word keyword.Some), inr (inr (inr (inr (inr (inr (inl refl)))))), (tt, refl))

pub some_formula_mark : (d : ℕ) (p : Formula) → 0 < length (show_formula d p)
some_formula_mark d p = some_mark formula_firsts (show_formula d p) (formula_begins d p)

pub told_connective : (a b : List Mark) (w : Word) → AreTold a → AreTold b → AreTold (connective a w b)
told_connective a b w one two = (tt, told_append (a ++ word w ∷ b) (word (codes "]") ∷ []) (told_append a (word w ∷ b) one (tt, two)) (tt, tt))

pub told_quantified : (x c : Word) (a b : List Mark) → AreTold a → AreTold b → AreTold (quantified x c a b)
told_quantified x c a b one two =
    (tt, (tt, (tt, (tt, told_append (a ++ word (codes "{") ∷ b) (word (codes "}") ∷ []) (told_append a (word (codes "{") ∷ b) one (tt, two)) (tt, tt)))))

module _ (d : ℕ) where
  told_two : (a b : Expression) (w : Word) → AreTold (operation (show_expression (suc d) a) w (show_expression (suc d) b))
  told_two a b w = told_operation (show_expression (suc d) a) (show_expression (suc d) b) w (told_expression (suc d) a) (told_expression (suc d) b)

pub told_formula : (d : ℕ) (p : Formula) → AreTold (show_formula d p)
told_formula d True = (tt, tt)
told_formula d False = (tt, tt)
told_formula d (Eq e f) = told_two d e f (codes "=")
told_formula d (Lt e f) = told_two d e f (codes "<")
told_formula d (Le e f) = told_two d e f (codes "<=")
told_formula d (Member e f) = told_two d e f (codes "in")
told_formula d (Subset e f) = told_two d e f (codes "sub")
told_formula d (Not p) = (tt, told_formula (suc d) p)
told_formula d (And p q) = told_connective (show_formula (suc d) p) (show_formula (suc d) q) (codes "and") (told_formula (suc d) p) (told_formula (suc d) q)
told_formula d (Or p q) = told_connective (show_formula (suc d) p) (show_formula (suc d) q) (codes "or") (told_formula (suc d) p) (told_formula (suc d) q)
told_formula d (Implies p q) = told_connective (show_formula (suc d) p) (show_formula (suc d) q) (codes "implies") (told_formula (suc d) p) (told_formula (suc d) q)
told_formula d (Every x c e p) = (tt, told_quantified x c (show_expression (suc d) e) (show_formula (suc d) p) (told_expression (suc d) e) (told_formula (suc d) p))
told_formula d (Exists x c e p) = (tt, told_quantified x c (show_expression (suc d) e) (show_formula (suc d) p) (told_expression (suc d) e) (told_formula (suc d) p))

leveled_again : (d : ℕ) (p : Formula) → tree d (show_formula d p) ≡ show_formula d p
leveled_again d True = refl
leveled_again d _ = refl

compared_marks : (d : ℕ) (c : Comparison) (a b : Expression) → show_formula d (compared c a b) ≡ tree d (operation (show_expression (suc d) a) (comparison_text c) (show_expression (suc d) b))
compared_marks d comparison.Eq a b = refl
compared_marks d comparison.Lt a b = refl
compared_marks d comparison.Le a b = refl
compared_marks d comparison.Member a b = refl
compared_marks d comparison.Subset a b = refl

connected_marks : (d : ℕ) (c : Connective) (p q : Formula) → show_formula d (connected c p q) ≡ tree d (connective (show_formula (suc d) p) (connective_text c) (show_formula (suc d) q))
connected_marks d connector.And p q = refl
connected_marks d connector.Or p q = refl
connected_marks d connector.Implies p q = refl

-- ---- one level

module _ (l : Limits) (d : ℕ) (le : d ≤ l.deepest) (operand : Reader Expression) (part : Reader Formula) (operands : Reads l (show_expression (suc d)) Always operand) (parts : Reads l (show_formula (suc d)) Always part) where
  abbrev show : Formula → List Mark
  show = show_formula d

  abbrev show_comparing : Expression × (Comparison × Expression) → List Mark
  show_comparing p = word (codes "(") ∷ (show_expression (suc d) p.0 ++ (show_comparison p.1.0 ++ show_expression (suc d) p.1.1)) ++ word (codes ")") ∷ []

  abbrev Compare : Expression × (Comparison × Expression) → Formula
  Compare p = compared p.1.0 p.0 p.1.1

  abbrev Compared : Expression × (Comparison × Expression) → Type 0
  Compared p = Unit {0} × (Unit {0} × Unit {0})

  comparing_part : Part l show (This (kind.Symbol symbol.OpenParenthesis) ∷ []) (Image Compare Compared) (after (kind.Symbol symbol.OpenParenthesis) (comparing_at operand))
  comparing_part =
      subst (Part l show (This (kind.Symbol symbol.OpenParenthesis) ∷ []) (Image Compare Compared)) (made_after Compare (kind.Symbol symbol.OpenParenthesis) _)
      (leveled l d le show_comparing Compared _ show Compare (This (kind.Symbol symbol.OpenParenthesis) ∷ []) (λ p. (refl, refl))
      (after_reads l _ Compared _ (kind.Symbol symbol.OpenParenthesis) tt
      (before_reads l _ Compared _ (kind.Symbol symbol.CloseParenthesis) tt
      (both_reads l (show_expression (suc d)) Always operand _ (Two l) _ operands
      (both_reads l show_comparison Always comparison_at (show_expression (suc d)) Always operand (comparison_reads l) operands))))
      (λ p. compared_marks d p.1.0 p.0 p.1.1) (λ p. (This (kind.Symbol symbol.OpenParenthesis), inl refl, (tt, refl))))

  abbrev Connect : Formula × (Connective × Formula) → Formula
  Connect p = connected p.1.0 p.0 p.1.1

  abbrev Connected : Formula × (Connective × Formula) → Type 0
  Connected = Three l (show_formula (suc d)) part parts

  connecting_part : Part l show (This (kind.Symbol symbol.OpenBracket) ∷ []) (Image Connect Connected) (after (kind.Symbol symbol.OpenBracket) (connecting_at part))
  connecting_part =
      subst (Part l show (This (kind.Symbol symbol.OpenBracket) ∷ []) (Image Connect Connected)) (made_after Connect (kind.Symbol symbol.OpenBracket) (connection_at part))
      (leveled l d le _ Connected _ show Connect (This (kind.Symbol symbol.OpenBracket) ∷ []) (λ p. (refl, refl)) (connection_reads l (show_formula (suc d)) part parts)
      (λ p. connected_marks d p.1.0 p.0 p.1.1) (λ p. (This (kind.Symbol symbol.OpenBracket), inl refl, (tt, refl))))

  negation_part : Part l show (This (kind.Word keyword.Not) ∷ []) (Image Not Always) (not_at part)
  negation_part =
      leveled l d le (λ p. word (codes "not") ∷ show_formula (suc d) p) Always _ show Not (This (kind.Word keyword.Not) ∷ []) (λ p. (refl, refl))
      (after_reads l (show_formula (suc d)) Always part (kind.Word keyword.Not) tt parts) (λ p. refl) (λ p. (This (kind.Word keyword.Not), inl refl, (tt, refl)))

  abbrev Ranging : (Word × Word) × (Expression × Formula) → Type 0
  Ranging = Four l (show_formula (suc d)) part parts (show_expression (suc d)) operand operands

  ranging_reads : Reads l (show_quantified l (show_formula (suc d)) part parts (show_expression (suc d)) operand operands) Ranging (quantified_at operand part)
  ranging_reads = quantified_reads l (show_formula (suc d)) part parts (show_expression (suc d)) operand operands

  abbrev EveryOf : (Word × Word) × (Expression × Formula) → Formula
  EveryOf q = Every q.0.0 q.0.1 q.1.0 q.1.1

  abbrev ExistsOf : (Word × Word) × (Expression × Formula) → Formula
  ExistsOf q = Exists q.0.0 q.0.1 q.1.0 q.1.1

  every_part : Part l show (This (kind.Word keyword.All) ∷ []) (Image EveryOf Ranging) (every_at operand part)
  every_part =
      leveled l d le _ Ranging _ show EveryOf (This (kind.Word keyword.All) ∷ []) (λ q. (refl, refl)) (after_reads l _ Ranging _ (kind.Word keyword.All) tt ranging_reads)
      (λ q. simp append_assoc) (λ q. (This (kind.Word keyword.All), inl refl, (tt, refl)))

  exists_part : Part l show (This (kind.Word keyword.Some) ∷ []) (Image ExistsOf Ranging) (exists_at operand part)
  exists_part =
      leveled l d le _ Ranging _ show ExistsOf (This (kind.Word keyword.Some) ∷ []) (λ q. (refl, refl)) (after_reads l _ Ranging _ (kind.Word keyword.Some) tt ranging_reads)
      (λ q. simp append_assoc) (λ q. (This (kind.Word keyword.Some), inl refl, (tt, refl)))

  abbrev IsOne : Formula → Type 0
  IsOne p = Any True p ⊎ (Any False p ⊎ (Image Not Always p ⊎ (Image Compare Compared p ⊎ (Image Connect Connected p ⊎ (Image EveryOf Ranging p ⊎ Image ExistsOf Ranging p)))))

  formula_part : Part l show formula_firsts IsOne (formula_from operand part)
  formula_part =
      choose_of (meaning_at l d le show (kind.Word keyword.True) tt True refl)
      (choose_of (meaning_at l d le show (kind.Word keyword.False) tt False refl)
      (choose_of negation_part (choose_of comparing_part (choose_of connecting_part (choose_of every_part exists_part refl) refl) refl) refl) refl) refl

  by_comparison : (c : Comparison) (a b : Expression) → IsOne (compared c a b)
  by_comparison c a b = inr (inr (inr (inl ((a, (c, b)), refl, (tt, (tt, tt))))))

  by_connective : (c : Connective) (p q : Formula) → IsOne (connected c p q)
  by_connective c p q = inr (inr (inr (inr (inl ((p, (c, q)), refl, (tt, (tt, tt)))))))

  is_one : (p : Formula) → IsOne p
  is_one True = inl (tt, refl, tt)
  is_one False = inr (inl (tt, refl, tt))
  is_one (Not p) = inr (inr (inl (p, refl, tt)))
  is_one (Eq a b) = by_comparison comparison.Eq a b
  is_one (Lt a b) = by_comparison comparison.Lt a b
  is_one (Le a b) = by_comparison comparison.Le a b
  is_one (Member a b) = by_comparison comparison.Member a b
  is_one (Subset a b) = by_comparison comparison.Subset a b
  is_one (And p q) = by_connective connector.And p q
  is_one (Or p q) = by_connective connector.Or p q
  is_one (Implies p q) = by_connective connector.Implies p q
  is_one (Every x c e p) = inr (inr (inr (inr (inr (inl (((x, c), (e, p)), refl, ((tt, tt), (tt, tt))))))))
  is_one (Exists x c e p) = inr (inr (inr (inr (inr (inr (((x, c), (e, p)), refl, ((tt, tt), (tt, tt))))))))

  level_reads : Reads l show Always (formula_from operand part)
  level_reads = whole l show formula_firsts IsOne (formula_from operand part) formula_part is_one (some_formula_mark d) (told_formula d)

-- ---- the first tokens

pub formula_always : (d : ℕ) → AlwaysBegins (show_formula d) Always begins_formula
formula_always d p ts kinds good goes = always_begins formula_firsts (show_formula d p) ts (formula_begins d p) kinds good.1 goes

-- the tokens that begin none
pub formula_never : (d : ℕ) (cs : List First) → are_apart cs formula_firsts ≡ true → NeverBegins (show_formula d) Always (begins_one cs)
formula_never d cs apart p ts kinds good goes = never_begins cs formula_firsts (show_formula d p) ts apart (formula_begins d p) kinds good.1 goes

-- some name
pub a_name : Word
a_name = (name_reads limits).one.0

pub is_a_name : CanBeSaid (Name a_name)
unfolding a_name
is_a_name = (name_reads limits).one.1.1.0

module _ (d : ℕ) (t : Token) (ts : List Token) (kinds : HaveKinds (t ∷ ts)) where
  abbrev Begun : Type 0
  Begun = (p : Formula) × Good (show_formula d) Always p × GoesOn 1 (show_formula d p) (tokens_of (t ∷ ts))

  says : (k : Kind) → same_fixed t.kind k ≡ true → fixed_text k ≡ t.text.now
  says k e = fixed_of_kind t.kind k t.text.now kinds.0 e

  abbrev is : Kind → Bool
  is k = same_fixed t.kind k

  begun : is (kind.Word keyword.True) || (is (kind.Word keyword.False) || (is (kind.Word keyword.Not) || (is (kind.Symbol symbol.OpenParenthesis)
      || (is (kind.Symbol symbol.OpenBracket) || (is (kind.Word keyword.All) || is (kind.Word keyword.Some)))))) ≡ true → Begun
  begun e = elim (or_cases _ _ e) [
    | inl n ↦ (True, (tt, (tt, tt)), (says (kind.Word keyword.True) n, tt, tt, tt))
    | inr e ↦
        elim (or_cases _ _ e) [
          | inl n ↦ (False, (tt, (tt, tt)), (says (kind.Word keyword.False) n, tt, tt, tt))
          | inr e ↦
              elim (or_cases _ _ e) [
                | inl n ↦ (Not True, (tt, (tt, (tt, tt))), (says (kind.Word keyword.Not) n, tt, tt, tt))
                | inr e ↦
                    elim (or_cases _ _ e) [
                      | inl n ↦ (Eq Null Null, (tt, (tt, (tt, (tt, (tt, (tt, tt)))))), (says (kind.Symbol symbol.OpenParenthesis) n, tt, tt, tt))
                      | inr e ↦
                          elim (or_cases _ _ e) [
                            | inl n ↦ (And True True, (tt, (tt, (tt, (tt, (tt, (tt, tt)))))), (says (kind.Symbol symbol.OpenBracket) n, tt, tt, tt))
                            | inr e ↦
                                elim (or_cases _ _ e) [
                                  | inl n ↦ (Every a_name a_name Null True, (tt, (tt, (is_a_name, (tt, (is_a_name, (tt, (tt, (tt, (tt, (tt, tt)))))))))), (says (kind.Word keyword.All) n, tt, tt, tt))
                                  | inr n ↦ (Exists a_name a_name Null True, (tt, (tt, (is_a_name, (tt, (is_a_name, (tt, (tt, (tt, (tt, (tt, tt)))))))))), (says (kind.Word keyword.Some) n, tt, tt, tt))
                                ]
                          ]
                    ]
              ]
        ]
  ]

pub formula_some : (d : ℕ) → SomeBegins (show_formula d) Always begins_formula
formula_some d [] kinds e = absurd cc
formula_some d (t ∷ ts) kinds e = begun d t ts kinds e

-- ---- the law

pub formula_reads : (l : Limits) (d left : ℕ) → d + left ≡ suc l.deepest → Reads l (show_formula d) Always (formula_at left)
unfolding formula_at
formula_reads l d zero sum =
    let over : l.deepest < d = omega arith in
    subst (λ s. Reads l s Always (too_deep_at begins_formula)) (fun_ext (leveled_again d))
    (too_deep_reads l (show_formula d) Always d begins_formula over (True, (tt, (tt, tt))) (some_formula_mark d) (told_formula d) (formula_always d) (formula_some d))
formula_reads l d (suc left) sum =
    let le : d ≤ l.deepest = omega arith in
    let more : suc d + left ≡ suc l.deepest = omega arith in
    level_reads l d le (expression_at left) (formula_at left) (expression_reads l (suc d) left more) (formula_reads l (suc d) left more)
