-- A relation formula's reader is exact.
use Rattle.std.proofs.Common.{◌≡◌, ℕ, zero, suc, ◌+◌, ◌<◌, ◌≤◌, Bool, true, ◌||◌, List, [], ◌∷◌, ◌++◌, length, ◌⊎◌, inl, inr, refl, subst, append_assoc, arith}
use Rattle.std.proofs.lemmas.Bool.{or_cases}
use Rattle.std.proofs.Math.Path.{fun_ext}
use Rattle.std.specs.Prelude.{codes}
use Rattle.rel_lang.specs.Syntax.{Word, Expression, Null, Formula, True, Side, Left, Right, RelFormula, RelTrue, RelFalse, OnLeft, OnRight, Both, Agree, AgreeImage, RelNot, RelAnd, RelOr, RelImplies, RelEvery, RelExists, Eventually}
use Rattle.rel_lang.specs.Text.{Mark, word, named, tree, connective, show_expression, show_formula, show_side, show_rel}
use Rattle.rel_lang.specs.Refusal.{Limits, GoesOn}
use Rattle.rel_lexer.specs.declared.Token.{Token}
use Rattle.rel_lexer.specs.Tokens.{tokens_of}
use Rattle.rel_lexer.specs.declared.Kind.{Kind}
use Rattle.rel_lexer.specs.declared.Kind.TheVariants as kind
use Rattle.rel_lexer.specs.declared.keywords.Keyword.TheVariants as keyword
use Rattle.rel_lexer.specs.declared.symbols.Symbol.TheVariants as symbol
use Rattle.rel_parse.specs.declared.formula.Connective.{Connective}
use Rattle.rel_parse.specs.declared.formula.Connective.TheVariants as connector
use Rattle.rel_parse.specs.Reading.{Reader, same_fixed, name_at, made, after, too_deep_at}
use Rattle.rel_parse.specs.Firsts.{First, This, begins_one}
use Rattle.rel_parse.specs.Expressions.{expression_at}
use Rattle.rel_parse.specs.Formulas.{formula_at, connection_at, quantified_at}
use Rattle.rel_parse.specs.Relations.{plain_firsts, rel_firsts, begins_rel, agree_at, agree_image_at, plain_at, rel_connected, side_at, rel_connecting_at, sided_at, rel_every_at, rel_exists_at, rel_from, rel_at}
use Rattle.rel_parse.proofs.Laws.{HaveKinds, AreTold, Good, Reads, Always, NeverBegins, AlwaysBegins, SomeBegins, fixed_text, IsFixed, name_reads, both_reads, after_reads, before_reads, too_deep_reads}
use Rattle.rel_parse.proofs.Firsts.{BeginsAs, Part, Image, choose_of, meaning, meaning_at, leveled, whole, always_begins, never_begins, are_apart, some_mark, fixed_of_kind, told_append}
use Rattle.rel_parse.proofs.Renamed.{made_after}
use Rattle.rel_parse.proofs.Expressions.{Any, told_operation, told_expression, expression_reads}
use Rattle.rel_parse.proofs.Formulas.{connective_text, Two, Three, connection_reads, show_quantified, Four, quantified_reads, told_connective, told_quantified, told_formula, formula_reads, a_name, is_a_name}

abbrev shown_side : Side → List Mark
shown_side s = show_side s ∷ []

side_reads : (l : Limits) → Reads l shown_side Always side_at
side_reads l = whole l shown_side _ _ _ (choose_of (meaning l shown_side (kind.Word keyword.Left) tt Left refl) (meaning l shown_side (kind.Word keyword.Right) tt Right refl) refl) total (λ s. omega arith) told
  where
    total : (s : Side) → Any Left s ⊎ Any Right s
    total Left = inl (tt, refl, tt)
    total Right = inr (tt, refl, tt)

    told : (s : Side) → AreTold (shown_side s)
    told Left = (tt, tt)
    told Right = (tt, tt)

-- ---- what relation formulas begin with, and that their marks are told

pub rel_begins : (d : ℕ) (r : RelFormula) → BeginsAs rel_firsts (show_rel d r)
rel_begins d RelTrue = (This (kind.Word keyword.True), inl refl, (tt, refl))
rel_begins d RelFalse = (This (kind.Word keyword.False), inr (inl refl), (tt, refl))
rel_begins d (OnLeft p) = (This (kind.Word keyword.Left), inr (inr (inl refl)), (tt, refl))
rel_begins d (OnRight p) = (This (kind.Word keyword.Right), inr (inr (inr (inl refl))), (tt, refl))
rel_begins d (Both p) = (This (kind.Word keyword.Both), inr (inr (inr (inr (inl refl)))), (tt, refl))
rel_begins d (Agree e f) = (This (kind.Symbol symbol.OpenParenthesis), inr (inr (inr (inr (inr (inl refl))))), (tt, refl))
rel_begins d (AgreeImage e f) = (This (kind.Word keyword.Agree), inr (inr (inr (inr (inr (inr (inl refl)))))), (tt, refl))
rel_begins d (RelNot r) = (This (kind.Word keyword.Not), inr (inr (inr (inr (inr (inr (inr (inl refl))))))), (tt, refl))
rel_begins d (RelAnd r s) = (This (kind.Symbol symbol.OpenBracket), inr (inr (inr (inr (inr (inr (inr (inr (inl refl)))))))), (tt, refl))
rel_begins d (RelOr r s) = (This (kind.Symbol symbol.OpenBracket), inr (inr (inr (inr (inr (inr (inr (inr (inl refl)))))))), (tt, refl))
rel_begins d (RelImplies r s) = (This (kind.Symbol symbol.OpenBracket), inr (inr (inr (inr (inr (inr (inr (inr (inl refl)))))))), (tt, refl))
rel_begins d (RelEvery s x c e r) = (This (kind.Word keyword.All), inr (inr (inr (inr (inr (inr (inr (inr (inr (inl refl))))))))), (tt, refl))
rel_begins d (RelExists s x c e r) = (This (kind.Word keyword.Some), inr (inr (inr (inr (inr (inr (inr (inr (inr (inr (inl refl)))))))))), (tt, refl))
rel_begins d (Eventually r) = (This (kind.Word keyword.Eventually), inr (inr (inr (inr (inr (inr (inr (inr (inr (inr (inr (inl refl))))))))))), (tt, refl))

pub some_rel_mark : (d : ℕ) (r : RelFormula) → 0 < length (show_rel d r)
some_rel_mark d r = some_mark rel_firsts (show_rel d r) (rel_begins d r)

told_sided : (s : Side) (ms : List Mark) → AreTold ms → AreTold (show_side s ∷ ms)
told_sided Left ms told = (tt, told)
told_sided Right ms told = (tt, told)

pub told_rel : (d : ℕ) (r : RelFormula) → AreTold (show_rel d r)
told_rel d RelTrue = (tt, tt)
told_rel d RelFalse = (tt, tt)
told_rel d (OnLeft p) = (tt, told_formula (suc d) p)
told_rel d (OnRight p) = (tt, told_formula (suc d) p)
told_rel d (Both p) = (tt, told_formula (suc d) p)
told_rel d (Agree e f) = told_operation (show_expression (suc d) e) (show_expression (suc d) f) (codes "=:=") (told_expression (suc d) e) (told_expression (suc d) f)
told_rel d (AgreeImage e f) = (tt, told_append (show_expression (suc d) e) (word (codes "@") ∷ named f ∷ []) (told_expression (suc d) e) (tt, (tt, tt)))
told_rel d (RelNot r) = (tt, told_rel (suc d) r)
told_rel d (RelAnd r s) = told_connective (show_rel (suc d) r) (show_rel (suc d) s) (codes "and") (told_rel (suc d) r) (told_rel (suc d) s)
told_rel d (RelOr r s) = told_connective (show_rel (suc d) r) (show_rel (suc d) s) (codes "or") (told_rel (suc d) r) (told_rel (suc d) s)
told_rel d (RelImplies r s) = told_connective (show_rel (suc d) r) (show_rel (suc d) s) (codes "implies") (told_rel (suc d) r) (told_rel (suc d) s)
told_rel d (RelEvery s x c e r) = (tt, told_sided s _ (told_quantified x c (show_expression (suc d) e) (show_rel (suc d) r) (told_expression (suc d) e) (told_rel (suc d) r)))
told_rel d (RelExists s x c e r) = (tt, told_sided s _ (told_quantified x c (show_expression (suc d) e) (show_rel (suc d) r) (told_expression (suc d) e) (told_rel (suc d) r)))
told_rel d (Eventually r) = (tt, told_rel (suc d) r)

leveled_again : (d : ℕ) (r : RelFormula) → tree d (show_rel d r) ≡ show_rel d r
leveled_again d RelTrue = refl
leveled_again d _ = refl

connected_marks : (d : ℕ) (c : Connective) (r s : RelFormula) → show_rel d (rel_connected c r s) ≡ tree d (connective (show_rel (suc d) r) (connective_text c) (show_rel (suc d) s))
connected_marks d connector.And r s = refl
connected_marks d connector.Or r s = refl
connected_marks d connector.Implies r s = refl

-- ---- one level

module _ (l : Limits) (d : ℕ) (le : d ≤ l.deepest) (operand : Reader Expression) (formula : Reader Formula) (part : Reader RelFormula)
    (operands : Reads l (show_expression (suc d)) Always operand) (formulas : Reads l (show_formula (suc d)) Always formula) (parts : Reads l (show_rel (suc d)) Always part) where
  abbrev show : RelFormula → List Mark
  show = show_rel d

  -- behind one word
  prefixed : {A : Type 0} (marks : A → List Mark) (r : Reader A) (k : Kind) (fixed : IsFixed k) (f : A → RelFormula) → Reads l marks Always r → ((a : A) → show (f a) ≡ tree d (word (fixed_text k) ∷ marks a))
      → Part l show (This k ∷ []) (Image f Always) (made f (after k r))
  prefixed marks r k fixed f reads same =
      leveled l d le (λ a. word (fixed_text k) ∷ marks a) Always (after k r) show f (This k ∷ []) (λ a. (refl, refl)) (after_reads l marks Always r k fixed reads) same (λ a. (This k, inl refl, (fixed, refl)))

  abbrev PairOf : Expression × Expression → RelFormula
  PairOf p = Agree p.0 p.1

  agree_part : Part l show (This (kind.Symbol symbol.OpenParenthesis) ∷ []) (Image PairOf (Two l)) (agree_at operand)
  agree_part =
      leveled l d le (λ p. word (codes "(") ∷ (show_expression (suc d) p.0 ++ (word (codes "=:=") ∷ show_expression (suc d) p.1)) ++ word (codes ")") ∷ []) (Two l) _ show PairOf
      (This (kind.Symbol symbol.OpenParenthesis) ∷ []) (λ p. (refl, refl))
      (after_reads l _ (Two l) _ (kind.Symbol symbol.OpenParenthesis) tt
      (before_reads l _ (Two l) _ (kind.Symbol symbol.CloseParenthesis) tt
      (both_reads l (show_expression (suc d)) Always operand _ Always _ operands (after_reads l (show_expression (suc d)) Always operand (kind.Symbol symbol.EqualColonEqual) tt operands))))
      (λ p. refl) (λ p. (This (kind.Symbol symbol.OpenParenthesis), inl refl, (tt, refl)))

  abbrev ImageOf : Expression × Word → RelFormula
  ImageOf p = AgreeImage p.0 p.1

  agree_image_part : Part l show (This (kind.Word keyword.Agree) ∷ []) (Image ImageOf (Two l)) (agree_image_at operand)
  agree_image_part =
      leveled l d le (λ p. word (codes "agree") ∷ (show_expression (suc d) p.0 ++ (word (codes "@") ∷ named p.1 ∷ []))) (Two l) _ show ImageOf (This (kind.Word keyword.Agree) ∷ []) (λ p. (refl, refl))
      (after_reads l _ (Two l) _ (kind.Word keyword.Agree) tt
      (both_reads l (show_expression (suc d)) Always operand _ Always _ operands (after_reads l (λ x. named x ∷ []) Always name_at (kind.Symbol symbol.At) tt (name_reads l))))
      (λ p. refl) (λ p. (This (kind.Word keyword.Agree), inl refl, (tt, refl)))

  abbrev IsPlain : RelFormula → Type 0
  IsPlain r = Any RelTrue r ⊎ (Any RelFalse r ⊎ (Image OnLeft Always r ⊎ (Image OnRight Always r ⊎ (Image Both Always r ⊎ (Image PairOf (Two l) r ⊎ Image ImageOf (Two l) r)))))

  plain_part : Part l show plain_firsts IsPlain (plain_at operand formula)
  plain_part =
      choose_of (meaning_at l d le show (kind.Word keyword.True) tt RelTrue refl)
      (choose_of (meaning_at l d le show (kind.Word keyword.False) tt RelFalse refl)
      (choose_of (prefixed (show_formula (suc d)) formula (kind.Word keyword.Left) tt OnLeft formulas (λ p. refl))
      (choose_of (prefixed (show_formula (suc d)) formula (kind.Word keyword.Right) tt OnRight formulas (λ p. refl))
      (choose_of (prefixed (show_formula (suc d)) formula (kind.Word keyword.Both) tt Both formulas (λ p. refl))
      (choose_of agree_part agree_image_part refl) refl) refl) refl) refl) refl

  abbrev Connect : RelFormula × (Connective × RelFormula) → RelFormula
  Connect p = rel_connected p.1.0 p.0 p.1.1

  abbrev Connected : RelFormula × (Connective × RelFormula) → Type 0
  Connected = Three l (show_rel (suc d)) part parts

  connecting_part : Part l show (This (kind.Symbol symbol.OpenBracket) ∷ []) (Image Connect Connected) (after (kind.Symbol symbol.OpenBracket) (rel_connecting_at part))
  connecting_part =
      subst (Part l show (This (kind.Symbol symbol.OpenBracket) ∷ []) (Image Connect Connected)) (made_after Connect (kind.Symbol symbol.OpenBracket) (connection_at part))
      (leveled l d le _ Connected _ show Connect (This (kind.Symbol symbol.OpenBracket) ∷ []) (λ p. (refl, refl)) (connection_reads l (show_rel (suc d)) part parts)
      (λ p. connected_marks d p.1.0 p.0 p.1.1) (λ p. (This (kind.Symbol symbol.OpenBracket), inl refl, (tt, refl))))

  abbrev Sided : Type 0
  Sided = Side × ((Word × Word) × (Expression × RelFormula))

  abbrev show_range : (Word × Word) × (Expression × RelFormula) → List Mark
  show_range = show_quantified l (show_rel (suc d)) part parts (show_expression (suc d)) operand operands

  abbrev Ranging : Sided → Type 0
  Ranging q = Unit {0} × Four l (show_rel (suc d)) part parts (show_expression (suc d)) operand operands q.1

  abbrev show_sided : Sided → List Mark
  show_sided q = shown_side q.0 ++ show_range q.1

  sided_reads : Reads l show_sided Ranging (sided_at operand part)
  sided_reads =
      both_reads l shown_side Always side_at show_range _ (quantified_at operand part) (side_reads l)
      (quantified_reads l (show_rel (suc d)) part parts (show_expression (suc d)) operand operands)

  abbrev EveryOf : Sided → RelFormula
  EveryOf q = RelEvery q.0 q.1.0.0 q.1.0.1 q.1.1.0 q.1.1.1

  abbrev ExistsOf : Sided → RelFormula
  ExistsOf q = RelExists q.0 q.1.0.0 q.1.0.1 q.1.1.0 q.1.1.1

  every_part : Part l show (This (kind.Word keyword.All) ∷ []) (Image EveryOf Ranging) (rel_every_at operand part)
  every_part =
      leveled l d le (λ q. word (codes "all") ∷ show_sided q) Ranging _ show EveryOf (This (kind.Word keyword.All) ∷ []) (λ q. (refl, refl)) (after_reads l show_sided Ranging _ (kind.Word keyword.All) tt sided_reads)
      (λ q. simp append_assoc) (λ q. (This (kind.Word keyword.All), inl refl, (tt, refl)))

  exists_part : Part l show (This (kind.Word keyword.Some) ∷ []) (Image ExistsOf Ranging) (rel_exists_at operand part)
  exists_part =
      leveled l d le (λ q. word (codes "some") ∷ show_sided q) Ranging _ show ExistsOf (This (kind.Word keyword.Some) ∷ []) (λ q. (refl, refl)) (after_reads l show_sided Ranging _ (kind.Word keyword.Some) tt sided_reads)
      (λ q. simp append_assoc) (λ q. (This (kind.Word keyword.Some), inl refl, (tt, refl)))

  abbrev IsOne : RelFormula → Type 0
  IsOne r = IsPlain r ⊎ (Image RelNot Always r ⊎ (Image Connect Connected r ⊎ (Image EveryOf Ranging r ⊎ (Image ExistsOf Ranging r ⊎ Image Eventually Always r))))

  rel_part : Part l show rel_firsts IsOne (rel_from operand formula part)
  rel_part =
      choose_of plain_part
      (choose_of (prefixed (show_rel (suc d)) part (kind.Word keyword.Not) tt RelNot parts (λ r. refl))
      (choose_of connecting_part (choose_of every_part (choose_of exists_part (prefixed (show_rel (suc d)) part (kind.Word keyword.Eventually) tt Eventually parts (λ r. refl)) refl) refl) refl) refl) refl

  by_connective : (c : Connective) (r s : RelFormula) → IsOne (rel_connected c r s)
  by_connective c r s = inr (inr (inl ((r, (c, s)), refl, (tt, (tt, tt)))))

  is_one : (r : RelFormula) → IsOne r
  is_one RelTrue = inl (inl (tt, refl, tt))
  is_one RelFalse = inl (inr (inl (tt, refl, tt)))
  is_one (OnLeft p) = inl (inr (inr (inl (p, refl, tt))))
  is_one (OnRight p) = inl (inr (inr (inr (inl (p, refl, tt)))))
  is_one (Both p) = inl (inr (inr (inr (inr (inl (p, refl, tt))))))
  is_one (Agree e f) = inl (inr (inr (inr (inr (inr (inl ((e, f), refl, (tt, tt))))))))
  is_one (AgreeImage e f) = inl (inr (inr (inr (inr (inr (inr ((e, f), refl, (tt, tt))))))))
  is_one (RelNot r) = inr (inl (r, refl, tt))
  is_one (RelAnd r s) = by_connective connector.And r s
  is_one (RelOr r s) = by_connective connector.Or r s
  is_one (RelImplies r s) = by_connective connector.Implies r s
  is_one (RelEvery s x c e r) = inr (inr (inr (inl ((s, ((x, c), (e, r))), refl, (tt, ((tt, tt), (tt, tt)))))))
  is_one (RelExists s x c e r) = inr (inr (inr (inr (inl ((s, ((x, c), (e, r))), refl, (tt, ((tt, tt), (tt, tt))))))))
  is_one (Eventually r) = inr (inr (inr (inr (inr (r, refl, tt)))))

  level_reads : Reads l show Always (rel_from operand formula part)
  level_reads = whole l show rel_firsts IsOne (rel_from operand formula part) rel_part is_one (some_rel_mark d) (told_rel d)

-- ---- the first tokens

pub rel_always : (d : ℕ) → AlwaysBegins (show_rel d) Always begins_rel
rel_always d r ts kinds good goes = always_begins rel_firsts (show_rel d r) ts (rel_begins d r) kinds good.1 goes

-- the tokens that begin none
pub rel_never : (d : ℕ) (cs : List First) → are_apart cs rel_firsts ≡ true → NeverBegins (show_rel d) Always (begins_one cs)
rel_never d cs apart r ts kinds good goes = never_begins cs rel_firsts (show_rel d r) ts apart (rel_begins d r) kinds good.1 goes

module _ (d : ℕ) (t : Token) (ts : List Token) (kinds : HaveKinds (t ∷ ts)) where
  abbrev Begun : Type 0
  Begun = (r : RelFormula) × Good (show_rel d) Always r × GoesOn 1 (show_rel d r) (tokens_of (t ∷ ts))

  says : (k : Kind) → same_fixed t.kind k ≡ true → fixed_text k ≡ t.text.now
  says k e = fixed_of_kind t.kind k t.text.now kinds.0 e

  abbrev is : Kind → Bool
  is k = same_fixed t.kind k

  begun : is (kind.Word keyword.True) || (is (kind.Word keyword.False) || (is (kind.Word keyword.Left) || (is (kind.Word keyword.Right) || (is (kind.Word keyword.Both) || (is (kind.Symbol symbol.OpenParenthesis)
      || (is (kind.Word keyword.Agree) || (is (kind.Word keyword.Not) || (is (kind.Symbol symbol.OpenBracket) || (is (kind.Word keyword.All) || (is (kind.Word keyword.Some) || is (kind.Word keyword.Eventually))))))))))) ≡ true → Begun
  begun e = elim (or_cases _ _ e) [
    | inl n ↦ (RelTrue, (tt, (tt, tt)), (says (kind.Word keyword.True) n, tt, tt, tt))
    | inr e ↦
        elim (or_cases _ _ e) [
          | inl n ↦ (RelFalse, (tt, (tt, tt)), (says (kind.Word keyword.False) n, tt, tt, tt))
          | inr e ↦
              elim (or_cases _ _ e) [
                | inl n ↦ (OnLeft True, (tt, (tt, (tt, tt))), (says (kind.Word keyword.Left) n, tt, tt, tt))
                | inr e ↦
                    elim (or_cases _ _ e) [
                      | inl n ↦ (OnRight True, (tt, (tt, (tt, tt))), (says (kind.Word keyword.Right) n, tt, tt, tt))
                      | inr e ↦
                          elim (or_cases _ _ e) [
                            | inl n ↦ (Both True, (tt, (tt, (tt, tt))), (says (kind.Word keyword.Both) n, tt, tt, tt))
                            | inr e ↦
                                elim (or_cases _ _ e) [
                                  | inl n ↦ (Agree Null Null, (tt, (tt, (tt, (tt, (tt, (tt, tt)))))), (says (kind.Symbol symbol.OpenParenthesis) n, tt, tt, tt))
                                  | inr e ↦
                                      elim (or_cases _ _ e) [
                                        | inl n ↦ (AgreeImage Null a_name, (tt, (tt, (tt, (tt, (is_a_name, tt))))), (says (kind.Word keyword.Agree) n, tt, tt, tt))
                                        | inr e ↦
                                            elim (or_cases _ _ e) [
                                              | inl n ↦ (RelNot RelTrue, (tt, (tt, (tt, tt))), (says (kind.Word keyword.Not) n, tt, tt, tt))
                                              | inr e ↦
                                                  elim (or_cases _ _ e) [
                                                    | inl n ↦ (RelAnd RelTrue RelTrue, (tt, (tt, (tt, (tt, (tt, (tt, tt)))))), (says (kind.Symbol symbol.OpenBracket) n, tt, tt, tt))
                                                    | inr e ↦
                                                        elim (or_cases _ _ e) [
                                                          | inl n ↦ (RelEvery Left a_name a_name Null RelTrue, (tt, (tt, (tt, (is_a_name, (tt, (is_a_name, (tt, (tt, (tt, (tt, (tt, tt))))))))))), (says (kind.Word keyword.All) n, tt, tt, tt))
                                                          | inr e ↦
                                                              elim (or_cases _ _ e) [
                                                                | inl n ↦ (RelExists Left a_name a_name Null RelTrue, (tt, (tt, (tt, (is_a_name, (tt, (is_a_name, (tt, (tt, (tt, (tt, (tt, tt))))))))))), (says (kind.Word keyword.Some) n, tt, tt, tt))
                                                                | inr n ↦ (Eventually RelTrue, (tt, (tt, (tt, tt))), (says (kind.Word keyword.Eventually) n, tt, tt, tt))
                                                              ]
                                                        ]
                                                  ]
                                            ]
                                      ]
                                ]
                          ]
                    ]
              ]
        ]
  ]

pub rel_some : (d : ℕ) → SomeBegins (show_rel d) Always begins_rel
rel_some d [] kinds e = absurd cc
rel_some d (t ∷ ts) kinds e = begun d t ts kinds e

-- ---- the law

pub rel_reads : (l : Limits) (d left : ℕ) → d + left ≡ suc l.deepest → Reads l (show_rel d) Always (rel_at left)
unfolding rel_at
rel_reads l d zero sum =
    let over : l.deepest < d = omega arith in
    subst (λ s. Reads l s Always (too_deep_at begins_rel)) (fun_ext (leveled_again d))
    (too_deep_reads l (show_rel d) Always d begins_rel over (RelTrue, (tt, (tt, tt))) (some_rel_mark d) (told_rel d) (rel_always d) (rel_some d))
rel_reads l d (suc left) sum =
    let le : d ≤ l.deepest = omega arith in
    let more : suc d + left ≡ suc l.deepest = omega arith in
    level_reads l d le (expression_at left) (formula_at left) (rel_at left) (expression_reads l (suc d) left more) (formula_reads l (suc d) left more) (rel_reads l (suc d) left more)
