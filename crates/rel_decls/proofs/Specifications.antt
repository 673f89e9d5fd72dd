-- Places, clauses and specifications are read exactly.
use Rattle.std.proofs.Common.{◌≡◌, ◌+◌, true, List, [], ◌∷◌, ◌++◌, inl, refl, arith}
use Rattle.std.specs.Prelude.{codes}
use Rattle.std.specs.List.{AllByRecursion}
use Rattle.rel_lang.specs.Syntax.{Word, Expression, Place}
use Rattle.rel_lang.specs.Text.{Mark, CanBeSaid, word, named, repeated, listed, show_expression, show_formula, show_rel, show_place, show_clause, show_rel_clause}
use Rattle.rel_lang.specs.Refusal.{Limits}
use Rattle.rel_lexer.specs.Tokens.{tokens_of}
use Rattle.rel_lexer.specs.declared.Kind.{Kind}
use Rattle.rel_lexer.specs.declared.Kind.TheVariants as kind
use Rattle.rel_lexer.specs.declared.keywords.Keyword.TheVariants as keyword
use Rattle.rel_lexer.specs.declared.symbols.Symbol.TheVariants as symbol
use Rattle.rel_parse.specs.Reading.{Reader, is_next, expect_at, name_at, before, many_at, listed_at}
use Rattle.rel_parse.specs.Firsts.{This}
use Rattle.rel_parse.specs.Expressions.{expression_at}
use Rattle.rel_parse.specs.Formulas.{formula_at}
use Rattle.rel_parse.specs.Relations.{rel_at}
use Rattle.rel_parse.proofs.Laws.{Reads, Always, SomeBegins, IsFixed, IsShallow, name_reads, word_reads, both_reads, after_reads, placed_reads, many_reads, listed_reads}
use Rattle.rel_parse.proofs.Firsts.{BeginsAs, are_apart}
use Rattle.rel_parse.proofs.Along.{all_left, goes_out}
use Rattle.rel_decls.specs.Specifications.{place_at, places_at, clause_at, rel_clause_at}
use Rattle.rel_parse.proofs.Expressions.{expression_reads, expression_never}
use Rattle.rel_parse.proofs.Formulas.{formula_reads}
use Rattle.rel_parse.proofs.Relations.{rel_reads}
use Rattle.rel_decls.proofs.Declarations.{remade, closed_reads, word_always, word_never}

abbrev pub close_brace : Kind
close_brace = kind.Symbol symbol.CloseBrace

abbrev pub show_close : Unit {0} → List Mark
show_close u = word (codes "}") ∷ []

-- trees that begin with this word
abbrev pub WordFirst : Kind → {X : Type 0} → (X → List Mark) → Type 0
WordFirst k {X = X} show = (x : X) → BeginsAs (This k ∷ []) (show x)

module _ (l : Limits) where
  -- a repetition of such trees, with the closing brace
  pub closed_many : (k : Kind) → IsFixed k → {X : Type 0} (show : X → List Mark) (Shape : X → Type 0) (r : Reader X) → Reads l show Shape r → WordFirst k show → SomeBegins show Shape (is_next k) → ((x : X) → IsShallow l (show x))
      → are_apart (This k ∷ []) (This close_brace ∷ []) ≡ true → Reads l (λ xs. repeated show 1 xs ++ word (codes "}") ∷ []) (AllByRecursion Shape) (before close_brace (many_at (is_next k) r l.most))
  closed_many k fixed show Shape r one first some shallow apart =
      closed_reads l (repeated show 1) (AllByRecursion Shape) (many_at (is_next k) r l.most) close_brace
      (many_reads l show Shape r show_close Always (expect_at close_brace) (is_next k) 1 l.most (omega arith) (omega arith) shallow one (word_reads l close_brace tt)
      (word_always k fixed show Shape first) some (word_never (This k ∷ []) close_brace tt show_close Always apart (λ u. (This close_brace, inl refl, (tt, refl)))))

  pub place_reads : Reads l show_place Always (place_at l)
  unfolding place_at
  place_reads =
      remade l (λ (p : Expression × Word). show_expression 1 p.0 ++ word (codes "@") ∷ named p.1 ∷ []) (λ p. Always p.0 × Always p.1) _ show_place Always (λ p. record { region = p.0; field = p.1 }) (λ p. (p.region, p.field))
      (both_reads l (show_expression 1) Always (expression_at l.deepest) (λ f. word (codes "@") ∷ named f ∷ []) Always _ (expression_reads l 1 l.deepest (omega arith)) (after_reads l (λ x. named x ∷ []) Always name_at (kind.Symbol symbol.At) tt (name_reads l)))
      (λ p. refl) (λ p. refl) (λ p. refl) (λ p h. tt) (λ p h. (tt, tt))

  pub places_reads : Reads l (λ ps. word (codes "{") ∷ listed show_place ps ++ word (codes "}") ∷ []) (AllByRecursion (Always {X = Place})) (places_at l)
  places_reads =
      after_reads l (λ ps. listed show_place ps ++ word (codes "}") ∷ []) (AllByRecursion (Always {X = Place})) _ (kind.Symbol symbol.OpenBrace) tt
      (closed_reads l (listed show_place) (AllByRecursion (Always {X = Place})) (listed_at close_brace (place_at l) l.most) close_brace
      (listed_reads l show_place Always (place_at l) show_close Always (expect_at close_brace) close_brace l.most refl tt place_reads (word_reads l close_brace tt)
      (λ p ts kinds good goes. expression_never 1 (This close_brace ∷ []) refl p.region ts kinds (tt, all_left (λ m. CanBeSaid m.said) (show_expression 1 p.region) (word (codes "@") ∷ named p.field ∷ []) good.1)
      (goes_out (show_expression 1 p.region) (word (codes "@") ∷ named p.field ∷ []) (tokens_of ts) 1 ((expression_reads l 1 l.deepest (omega arith)).some_mark p.region) goes))
      (word_always close_brace tt show_close Always (λ u. (This close_brace, inl refl, (tt, refl))))
      (λ e. absurd cc)))

  pub clause_reads : Reads l show_clause Always (clause_at l)
  unfolding clause_at
  clause_reads =
      remade l _ _ _ show_clause Always (λ p. record { at = p.0; formula = p.1 }) (λ c. (c.at, c.formula))
      (placed_reads l (show_formula 1) Always (formula_at l.deepest) (formula_reads l 1 l.deepest (omega arith))) (λ p. refl) (λ c. refl) (λ c. refl) (λ c h. tt) (λ c h. tt)

  pub rel_clause_reads : Reads l show_rel_clause Always (rel_clause_at l)
  unfolding rel_clause_at
  rel_clause_reads =
      remade l _ _ _ show_rel_clause Always (λ p. record { at = p.0; formula = p.1 }) (λ c. (c.at, c.formula))
      (placed_reads l (show_rel 1) Always (rel_at l.deepest) (rel_reads l 1 l.deepest (omega arith))) (λ p. refl) (λ c. refl) (λ c. refl) (λ c h. tt) (λ c h. tt)
