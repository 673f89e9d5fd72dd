-- Types and declarations are read exactly.
use Rattle.std.proofs.Common.{◌≡◌, ℕ, true, ◌+◌, ◌<◌, List, [], ◌∷◌, ◌++◌, length, ◌⊎◌, inl, inr, refl, subst, arith}
use Rattle.std.specs.Prelude.{codes}
use Rattle.std.proofs.Math.Path.{fun_ext}
use Rattle.std.specs.List.{AllByRecursion}
use Rattle.rel_lang.specs.Syntax.{Word, Ty, Int, Rgn, Class, Decl}
use Rattle.rel_lang.specs.Text.{Mark, word, named, show_type, show_decl, show_params, repeated, behind, ended, listed}
use Rattle.rel_lang.specs.Refusal.{Limits, Reason}
use Rattle.rel_lexer.specs.declared.Kind.{Kind}
use Rattle.rel_lexer.specs.declared.Kind.TheVariants as kind
use Rattle.rel_lexer.specs.declared.keywords.Keyword.TheVariants as keyword
use Rattle.rel_lexer.specs.declared.symbols.Symbol.TheVariants as symbol
use Rattle.rel_lexer.specs.declared.Token.{Token}
use Rattle.rel_parse.specs.Reading.{Reading, Got, Refused, Reader, then_read, is_next, is_name_next, expect_at, name_at, made, both, after, before, listed_at}
use Rattle.rel_parse.specs.Firsts.{First, AName, This, begins_one}
use Rattle.rel_parse.proofs.Laws.{Reads, Refuses, Always, NeverBegins, AlwaysBegins, SomeBegins, HaveKinds, Good, AreTold, IsFixed, ShapeAll, fixed_text, same_reads, named_reads, name_reads, word_reads, both_reads, after_reads, before_reads, many_reads, listed_reads}
use Rattle.rel_parse.proofs.Single.{is_fixed}
use Rattle.rel_parse.proofs.Firsts.{name_of_kind, BeginsAs, Part, Image, choose_of, meaning, production, whole, always_begins, never_begins, are_apart}
use Rattle.rel_decls.specs.Declarations.{type_at, decl_at, ended_decl_at, decls_at, fields_at, params_at}

-- the same trees otherwise named and otherwise shown
pub remade : (l : Limits) {A X : Type 0} (show : A → List Mark) (Shape : A → Type 0) (r : Reader A) (other : X → List Mark) (Other : X → Type 0) (f : A → X) (g : X → A)
    → Reads l show Shape r → ((a : A) → g (f a) ≡ a) → ((x : X) → f (g x) ≡ x) → ((x : X) → show (g x) ≡ other x) → ((x : X) → Shape (g x) → Other x) → ((x : X) → Other x → Shape (g x))
    → Reads l other Other (made f r)
remade l show Shape r other Other f g one back_a back_x same to from =
    subst (λ s. Reads l s Other (made f r)) (fun_ext same) (named_reads l show Shape r Other f g one back_a back_x to from)

-- what is read before a word, where it is read exactly together with it
module _ {A : Type 0} (k : Kind) where
  abbrev with_unit : A → Reading (Unit {0}) → Reading (A × Unit {0})
  with_unit x read = then_read read (λ u rest. Got (x, u) rest)

  abbrev no_unit : Reading (A × Unit {0}) → Reading A
  no_unit read = then_read read (λ q rest. Got q.0 rest)

  closing_same : (read : Reading A) → no_unit (then_read read (λ x rest. with_unit x (expect_at k rest))) ≡ then_read read (λ x rest. then_read (expect_at k rest) (λ u after. Got x after))
  closing_same (Refused why left) = refl
  closing_same (Got x rest) = elim (expect_at k rest) as (λ read. no_unit (with_unit x read) ≡ then_read read (λ u after. Got x after)) [ Got u after ↦ refl | Refused why left ↦ refl ]

pub closed_reads : (l : Limits) {A : Type 0} (show : A → List Mark) (Shape : A → Type 0) (r : Reader A) (k : Kind)
    → Reads l {X = A × Unit {0}} (λ q. show q.0 ++ word (fixed_text k) ∷ []) (λ q. Shape q.0 × Always q.1) (both r (expect_at k))
    → Reads l (λ x. show x ++ word (fixed_text k) ∷ []) Shape (before k r)
closed_reads l {A = A} show Shape r k one =
    same_reads l (λ x. show x ++ word (fixed_text k) ∷ []) Shape (made (λ (p : A × Unit {0}). p.0) (both r (expect_at k))) (before k r) (λ ts. closing_same k (r ts))
    (named_reads l (λ (q : A × Unit {0}). show q.0 ++ word (fixed_text k) ∷ []) (λ q. Shape q.0 × Always q.1) (both r (expect_at k)) Shape (λ p. p.0) (λ x. (x, tt)) one (λ p. refl) (λ x. refl) (λ x h. h.0) (λ x h. (h, tt)))

-- trees that are parts of a kind, by their shape
module _ (l : Limits) {X : Type 0} (show : X → List Mark) (cs : List First) (P : X → Type 0) (r : Reader X) (part : Part l show cs P r) (Shape : X → Type 0) (to : (x : X) → P x → Shape x) (from : (x : X) → Shape x → P x)
    (marks : (x : X) → 0 < length (show x)) (told : (x : X) → AreTold (show x)) where
  shaped_refused : (ts : List Token) (why : Reason) (left : ℕ) → HaveKinds ts → r ts ≡ Refused why left → Refuses l show Shape why left ts
  shaped_refused ts why left kinds h =
      let g = part.refused ts why left kinds h in
      record {
        passed = g.passed;
        behind = g.behind;
        begun = (g.begun.0, (to g.begun.0 g.begun.1.0, g.begun.1.1), g.begun.2, g.begun.3, g.begun.4);
        stuck = λ y good goes. g.stuck y (from y good.0, good.1) goes;
      }

  pub shaped : Reads l show Shape r
  shaped = record {
    one = (part.one.0, (to part.one.0 part.one.1.0, part.one.1.1));
    some_mark = marks;
    told = told;
    sole = λ x good y ts n kinds good2 le within goes goes2. part.sole x (from x good.0, good.1) y ts n kinds (from y good2.0, good2.1) le within goes goes2;
    found = λ ts rest x kinds h. let g = part.found ts rest x kinds h in (g.0, (to x g.1.0, g.1.1), g.2);
    refused = shaped_refused;
  }

-- ---- trees that begin with a word

pub word_always : (k : Kind) → IsFixed k → {X : Type 0} (show : X → List Mark) (Shape : X → Type 0) → ((x : X) → BeginsAs (This k ∷ []) (show x)) → AlwaysBegins show Shape (is_next k)
word_always k fixed show Shape first x ts kinds good goes = always_begins (This k ∷ []) (show x) ts (first x) kinds good.1 goes

pub word_some : (k : Kind) → IsFixed k → {X : Type 0} (more : X → List Mark) (Shape : X → Type 0) → ((x : X) × Good (λ x. word (fixed_text k) ∷ more x) Shape x) → SomeBegins (λ x. word (fixed_text k) ∷ more x) Shape (is_next k)
word_some k fixed more Shape x [] kinds e = absurd cc
word_some k fixed more Shape x (t ∷ ts) kinds e = (x.0, x.1, (is_fixed t k fixed kinds.0 e, tt, tt, tt))

-- another word doesn't
pub word_never : (cs : List First) (k : Kind) (fixed : IsFixed k) {X : Type 0} (show : X → List Mark) (Shape : X → Type 0) → are_apart cs (This k ∷ []) ≡ true → ((x : X) → BeginsAs (This k ∷ []) (show x)) → NeverBegins show Shape (begins_one cs)
word_never cs k fixed show Shape apart first x ts kinds good goes = never_begins cs (This k ∷ []) (show x) ts apart (first x) kinds good.1 goes

pub all_always : {X : Type 0} (xs : List X) → AllByRecursion (Always {X = X}) xs
all_always [] = tt
all_always (x ∷ xs) = (tt, all_always xs)

module _ (l : Limits) where
  pub type_reads : Reads l (λ t. show_type t ∷ []) Always type_at
  unfolding type_at
  type_reads =
      whole l (λ t. show_type t ∷ []) _ _ _
      (choose_of (meaning l (λ t. show_type t ∷ []) (kind.Word keyword.Int) tt Int refl)
      (choose_of (meaning l (λ t. show_type t ∷ []) (kind.Word keyword.Rgn) tt Rgn refl)
      (production l (λ x. named x ∷ []) Always name_at (λ t. show_type t ∷ []) Class (AName ∷ []) (name_reads l) (λ c. refl) (λ c. (AName, inl refl, (c, refl)))) refl) refl)
      total (λ t. omega arith) told
    where
      total : (t : Ty) → Image (λ (u : Unit {0}). Int) Always t ⊎ (Image (λ (u : Unit {0}). Rgn) Always t ⊎ Image Class Always t)
      total Int = inl (tt, refl, tt)
      total Rgn = inr (inl (tt, refl, tt))
      total (Class c) = inr (inr (c, refl, tt))

      told : (t : Ty) → AreTold (show_type t ∷ [])
      told Int = (tt, tt)
      told Rgn = (tt, tt)
      told (Class c) = (tt, tt)

  pub decl_reads : Reads l show_decl Always decl_at
  unfolding decl_at
  decl_reads =
      remade l (λ (p : Word × Ty). named p.0 ∷ word (codes ":") ∷ show_type p.1 ∷ []) (λ p. Always p.0 × Always p.1) _ show_decl Always (λ p. record { name = p.0; ty = p.1 }) (λ d. (d.name, d.ty))
      (both_reads l (λ x. named x ∷ []) Always name_at (λ t. word (codes ":") ∷ show_type t ∷ []) Always _ (name_reads l) (after_reads l (λ t. show_type t ∷ []) Always type_at (kind.Symbol symbol.Colon) tt type_reads))
      (λ p. refl) (λ d. refl) (λ d. refl) (λ d h. tt) (λ d h. (tt, tt))

  abbrev show_ended : Decl → List Mark
  show_ended d = show_decl d ++ word (codes ";") ∷ []

  ended_decl_reads : Reads l show_ended Always ended_decl_at
  ended_decl_reads = before_reads l show_decl Always decl_at (kind.Symbol symbol.Semicolon) tt decl_reads

  -- declarations behind a word, before what doesn't begin with it
  pub decls_reads : (k : Kind) → IsFixed k → {B : Type 0} (show2 : B → List Mark) (Shape2 : B → Type 0) (b : Reader B) → Reads l show2 Shape2 b → NeverBegins show2 Shape2 (is_next k)
      → Reads l {X = List Decl × B} (λ q. repeated (behind (fixed_text k) (ended (codes ";") show_decl)) 1 q.0 ++ show2 q.1) (ShapeAll Always Shape2) (both (decls_at k l.most) b)
  decls_reads k fixed show2 Shape2 b two never =
      let one = after_reads l show_ended Always ended_decl_at k fixed ended_decl_reads in
      many_reads l (behind (fixed_text k) (ended (codes ";") show_decl)) Always (after k ended_decl_at) show2 Shape2 b (is_next k) 1 l.most (omega arith) (omega arith) (λ d. (omega arith, refl))
      one two (word_always k fixed (behind (fixed_text k) (ended (codes ";") show_decl)) Always (λ d. (This k, inl refl, (fixed, refl)))) (word_some k fixed show_ended Always one.one) never

  field_some : SomeBegins show_ended Always is_name_next
  field_some [] kinds e = absurd cc
  field_some (t ∷ ts) kinds e = (record { name = t.text.now; ty = Int }, (tt, (name_of_kind t.kind t.text.now kinds.0 e, (tt, (tt, (tt, tt))))), (refl, tt, tt, tt))

  -- fields, with the closing brace
  pub fields_reads : Reads l (λ ds. repeated (ended (codes ";") show_decl) 1 ds ++ word (codes "}") ∷ []) (AllByRecursion (Always {X = Decl})) (before (kind.Symbol symbol.CloseBrace) (fields_at l.most))
  fields_reads =
      closed_reads l (λ ds. repeated (ended (codes ";") show_decl) 1 ds) (AllByRecursion (Always {X = Decl})) (fields_at l.most) (kind.Symbol symbol.CloseBrace)
      (many_reads l show_ended Always ended_decl_at (λ (u : Unit {0}). word (codes "}") ∷ []) Always (expect_at (kind.Symbol symbol.CloseBrace)) is_name_next 1 l.most (omega arith) (omega arith) (λ d. (omega arith, refl))
      ended_decl_reads (word_reads l (kind.Symbol symbol.CloseBrace) tt)
      (λ d ts kinds good goes. always_begins (AName ∷ []) (show_ended d) ts (AName, inl refl, (d.name, refl)) kinds good.1 goes)
      field_some
      (word_never (AName ∷ []) (kind.Symbol symbol.CloseBrace) tt (λ (u : Unit {0}). word (codes "}") ∷ []) Always refl (λ u. (This (kind.Symbol symbol.CloseBrace), inl refl, (tt, refl)))))

  abbrev close_parenthesis : Kind
  close_parenthesis = kind.Symbol symbol.CloseParenthesis

  pub params_reads : Reads l show_params (AllByRecursion (Always {X = Decl})) (params_at l.most)
  params_reads =
      let one : Unit {0} → List Mark = λ u. word (codes ")") ∷ [] in
      after_reads l (λ ds. listed show_decl ds ++ word (codes ")") ∷ []) (AllByRecursion (Always {X = Decl})) _ (kind.Symbol symbol.OpenParenthesis) tt
      (closed_reads l (listed show_decl) (AllByRecursion (Always {X = Decl})) (listed_at close_parenthesis decl_at l.most) close_parenthesis
      (listed_reads l show_decl Always decl_at one Always (expect_at close_parenthesis) close_parenthesis l.most refl tt decl_reads (word_reads l close_parenthesis tt)
      (λ d ts kinds good goes. never_begins (This close_parenthesis ∷ []) (AName ∷ []) (show_decl d) ts refl (AName, inl refl, (d.name, refl)) kinds good.1 goes)
      (word_always close_parenthesis tt one Always (λ u. (This close_parenthesis, inl refl, (tt, refl))))
      (λ e. absurd cc)))
